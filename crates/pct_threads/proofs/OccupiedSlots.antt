-- The set of the occupied slots, after a change of one slot.
use Rattle.pct_names.proofs.Names.{◌<◌, [], ap, Bool, cases_eq, cond, false, inl, inr, is_some, length, List, None, Option, option_map}
use Rattle.pct_names.proofs.Names.{refl, slice_set, Some, sym, true, ℕ, ◌∙◌, ◌≡◌}
use Rattle.std.proofs.lemmas.Bool.{eq-eqb, ne_eqb}
use Rattle.std.proofs.lemmas.List.{get_or-set_same, get_or-set_other}
use Rattle.pct_set.specs.Slots.{slots_where, with_slot, without_slot}
use Rattle.pct_set.proofs.SlotLemmas.{slots_agree, with_slot-where, without_slot-where}
use Rattle.pct_threads.specs.Slots.{Held, Slot, unused, is_occupied}
use Rattle.pct_threads.specs.Tables.{is_occupied_at}

module _ (slots : List Slot) (i : ℕ) (s : Slot) (inside : i < length slots) where
  here : is_occupied_at (slice_set slots i s) i ≡ is_occupied s
  here = ap is_occupied (get_or-set_same slots i s unused inside)

  elsewhere : (k : ℕ) → (k ≡ i → ⊥) → is_occupied_at (slice_set slots i s) k ≡ is_occupied_at slots k
  elsewhere k other = ap is_occupied (get_or-set_other slots i k s unused other)

  -- a thread holds the slot as before, or none does as before
  pub same_set : is_occupied s ≡ is_occupied_at slots i → slots_where (is_occupied_at slots) ≡ slots_where (is_occupied_at (slice_set slots i s))
  same_set as_before =
      slots_agree _ _ (λ k small. elim (cases_eq k i) [
        | inl same ↦ rw same (sym (here ∙ as_before))
        | inr other ↦ sym (elsewhere k other)
      ])

  -- a thread holds the slot afterwards
  pub added : is_occupied s ≡ true → with_slot i (slots_where (is_occupied_at slots)) ≡ slots_where (is_occupied_at (slice_set slots i s))
  added held =
      with_slot-where (is_occupied_at slots) i ∙ slots_agree _ _ (λ k small. elim (cases_eq k i) [
        | inl same ↦ rw (same, eq-eqb i i refl) (sym (here ∙ held))
        | inr other ↦ rw (ne_eqb k i other) (sym (elsewhere k other))
      ])

  -- no thread holds the slot afterwards
  pub removed : is_occupied s ≡ false → without_slot i (slots_where (is_occupied_at slots)) ≡ slots_where (is_occupied_at (slice_set slots i s))
  removed free =
      without_slot-where (is_occupied_at slots) i ∙ slots_agree _ _ (λ k small. elim (cases_eq k i) [
        | inl same ↦ rw (same, eq-eqb i i refl) (sym (here ∙ free))
        | inr other ↦ rw (ne_eqb k i other) (sym (elsewhere k other))
      ])

  -- a thread held the slot, and b is whether it still does
  pub retained : (b : Bool) (set after : List ℕ) → is_occupied_at slots i ≡ true → b ≡ is_occupied s → set ≡ slots_where (is_occupied_at slots) → after ≡ cond b set (without_slot i set) → after ≡ slots_where (is_occupied_at (slice_set slots i s))
  retained true set after held is kept next = next ∙ kept ∙ same_set (sym is ∙ sym held)
  retained false set after held is kept next = next ∙ ap (without_slot i) kept ∙ removed (sym is)

-- a change of the thread on a slot keeps whether one holds it
pub some_map : (f : Held → Held) (o : Option Held) → is_some (option_map f o) ≡ is_some o
some_map f None = refl
some_map f (Some held) = refl

-- no slot passes a test that is false
no_slot : slots_where (λ k. false) ≡ []
unfolding slots_where
no_slot = refl

-- the set is empty where no slot is occupied
pub none_occupied : (slots : List Slot) → ((k : ℕ) → is_occupied_at slots k ≡ false) → [] ≡ slots_where (is_occupied_at slots)
none_occupied slots free = sym (slots_agree (is_occupied_at slots) (λ k. false) (λ k small. free k) ∙ no_slot)
