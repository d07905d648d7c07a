-- Which slots are taken after a change of another, for callers.
use Rattle.std.proofs.Common.{◌≡◌, ℕ, ◌≢◌, true, List, length, get_or, set, ap, ◌∙◌, inl, inr, Option, Some, None, refl, sym, not, nat_lt}
use Rattle.std.specs.Prelude.{is_some, IfSome}
use Rattle.std.proofs.lemmas.Bool.{cases_eq, cases_lt, both_ways, ltb-true, and_parts}
use Rattle.std.proofs.lemmas.List.{get_or-set_same, get_or-set_other, get_or_past}
use Rattle.pct_stack.specs.Stacks.{Stacks, is_taken, is_free, with_words, with_taken, with_given}

-- a slot that is taken stays taken when a slot gets words
pub is_taken-set : (slots : List (Option (List ℕ))) (slot s : ℕ) (words : List ℕ) → is_some (get_or slots s None) ≡ true → is_some (get_or (set slots slot (Some words)) s None) ≡ true
is_taken-set slots slot s words taken = elim (cases_eq s slot) [
  | inr other ↦ ap is_some (get_or-set_other slots slot s (Some words) None other) ∙ taken
  | inl same ↦ elim (cases_lt s (length slots)) [
    | inl inside ↦ ap (λ k. is_some (get_or (set slots k (Some words)) s None)) (sym same) ∙ ap is_some (get_or-set_same slots s (Some words) None inside)
    | inr past ↦ absurd (both_ways (is_some (get_or slots s None)) (ap is_some (get_or_past slots s None past)) taken)
  ]
]

pub is_taken-with_words : (stacks : Stacks) (slot s : ℕ) (words : List ℕ) → is_taken stacks s ≡ true → is_taken (with_words slot words stacks) s ≡ true
is_taken-with_words stacks slot s words taken = is_taken-set stacks.slots slot s words taken

pub is_taken-with_taken : (stacks : Stacks) (slot s : ℕ) (words : List ℕ) → is_taken stacks s ≡ true → is_taken (with_taken slot words stacks) s ≡ true
is_taken-with_taken stacks slot s words taken = is_taken-set stacks.slots slot s words taken

-- and so does each other slot when one is given
pub is_taken-with_given : (stacks : Stacks) (slot s : ℕ) → s ≢ slot → is_taken stacks s ≡ true → is_taken (with_given slot stacks) s ≡ true
is_taken-with_given stacks slot s other taken = ap is_some (get_or-set_other stacks.slots slot s None None other) ∙ taken

-- a slot that was free is taken when it gets words
pub is_taken-taken : (stacks : Stacks) (slot : ℕ) (words : List ℕ) → is_free stacks slot ≡ true → is_taken (with_taken slot words stacks) slot ≡ true
is_taken-taken stacks slot words free =
    ap is_some (get_or-set_same stacks.slots slot (Some words) None (ltb-true slot (length stacks.slots) (and_parts (nat_lt slot (length stacks.slots)) (not (is_taken stacks slot)) free).0))

-- a slot that is taken stays taken in a call of `take`
pub is_taken-take : (old new : Stacks) (words : List ℕ) (result : Option ℕ) → IfSome result (λ slot. new ≡ with_taken slot words old) → (result ≡ None → new ≡ old)
    → (s : ℕ) → is_taken old s ≡ true → is_taken new s ≡ true
is_taken-take old new words None _ same s taken = ap (λ (t : Stacks). is_taken t s) (same refl) ∙ taken
is_taken-take old new words (Some slot) is _ s taken = ap (λ (t : Stacks). is_taken t s) is ∙ is_taken-with_taken old slot s words taken

pub width_after : (old new : Stacks) (words : List ℕ) (result : Option ℕ) → IfSome result (λ slot. new ≡ with_taken slot words old) → (result ≡ None → new ≡ old) → new.width ≡ old.width
width_after old new words None _ same = ap (λ (t : Stacks). t.width) (same refl)
width_after old new words (Some slot) is _ = ap (λ (t : Stacks). t.width) is
