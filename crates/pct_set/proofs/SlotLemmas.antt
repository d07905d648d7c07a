-- Laws of sets of slots, for the crates that use them. `slots_agree` shows that two sets are equal, `has_where` computes
-- whether a set has a slot, and the four laws after it turn each operation into a test of one slot.
use Rattle.std.proofs.Common.{◌≡◌, refl, sym, ap, ◌∙◌, ℕ, zero, suc, ◌+◌, ◌<◌, ◌≤◌, Bool, true, false, ◌&&◌, ◌||◌, not, List, ◌∷◌, nat_eq, inl, inr, arith, le_refl}
use mathlib.Core.Bool.{and-true}
use Rattle.std.proofs.lemmas.Bool.{cases_eq, eqb-true, agree_below_at}
use Rattle.std.proofs.lemmas.List.Elements.{All-filter}
use Rattle.std.proofs.lemmas.List.FromFn.{get_or-range_with_len, length-range_with_len}
use Rattle.std.proofs.lemmas.List.Kept.{IsStrictlyIncreasing-filter}
use Rattle.std.proofs.lemmas.Map.Views.{any-filter_same}
use Rattle.std.specs.Prelude.{All, filter}
use Rattle.std.specs.List.{range_with_len, list_any}
use Rattle.std.specs.List.Sorted.{IsStrictlyIncreasing}
use Rattle.pct_set.specs.Slots.{slots_where, has_slot, with_slot, without_slot}

-- two tests that agree on a range keep the same numbers of it
filter_range : (p q : ℕ → Bool) (a n : ℕ) → ((s : ℕ) → a ≤ s → s < a + n → p s ≡ q s)
    → filter p (range_with_len a n) ≡ filter q (range_with_len a n)
filter_range p q a zero agree = refl
filter_range p q a (suc n) agree =
    let rest : filter p (range_with_len (a + 1) n) ≡ filter q (range_with_len (a + 1) n) =
    filter_range p q (a + 1) n (λ s low high. agree s (omega arith) (omega arith)) in
    rw (agree a (le_refl a) (omega arith), rest) refl

-- sets are equal if their tests agree on each slot
pub slots_agree : (p q : ℕ → Bool) → ((s : ℕ) → s < 64 → p s ≡ q s) → slots_where p ≡ slots_where q
unfolding slots_where
slots_agree p q agree = filter_range p q 0 64 (λ s low high. agree s high)

-- a filter keeps a number that the list has if it passes the test
found_in : (p : ℕ → Bool) (s : ℕ) (xs : List ℕ) → list_any (λ k. nat_eq k s) xs ≡ true → list_any (λ k. nat_eq k s) (filter p xs) ≡ p s
found_in p s xs listed =
    any-filter_same (λ k. nat_eq k s) p (p s) (λ k same. ap p (eqb-true k s same)) xs ∙ ap (λ b. p s && b) listed ∙ and-true (p s)

is_slot : (s : ℕ) → s < 64 → list_any (λ k. nat_eq k s) (range_with_len 0 64) ≡ true
is_slot s small = agree_below_at (λ s. list_any (λ k. nat_eq k s) (range_with_len 0 64)) (λ _. true) 64 s refl small

-- a set has the slots that pass its test
pub has_where : (p : ℕ → Bool) (s : ℕ) → s < 64 → has_slot (slots_where p) s ≡ p s
unfolding slots_where has_slot
has_where p s small = found_in p s (range_with_len 0 64) (is_slot s small)

module _ (p : ℕ → Bool) where
  -- `insert` into the set by a test
  pub with_slot-where : (slot : ℕ) → with_slot slot (slots_where p) ≡ slots_where (λ s. nat_eq s slot || p s)
  with_slot-where slot = slots_agree _ _ (λ s small. rw (has_where p s small) refl)

  -- `remove` from the set by a test
  pub without_slot-where : (slot : ℕ) → without_slot slot (slots_where p) ≡ slots_where (λ s. not (nat_eq s slot) && p s)
  without_slot-where slot = slots_agree _ _ (λ s small. rw (has_where p s small) refl)

-- a set is determined by the slots that it has
pub determined : (p : ℕ → Bool) → slots_where p ≡ slots_where (has_slot (slots_where p))
determined p = slots_agree p (has_slot (slots_where p)) (λ s small. sym (has_where p s small))

range_rises : (a n : ℕ) → IsStrictlyIncreasing (range_with_len a n)
range_rises a n k within =
    let inside : k + 1 < n = omega (arith, within, length-range_with_len a n) in
    omega (arith, get_or-range_with_len a n k 0 (omega arith), get_or-range_with_len a n (k + 1) 0 inside)

-- a set rises
pub rising : (p : ℕ → Bool) → IsStrictlyIncreasing (slots_where p)
unfolding slots_where
rising p = IsStrictlyIncreasing-filter p (range_with_len 0 64) (range_rises 0 64)

range_below : (a n : ℕ) → All (λ s. s < a + n) (range_with_len a n)
range_below a n k d within =
    let inside : k < n = omega (arith, within, length-range_with_len a n) in
    omega (arith, get_or-range_with_len a n k d inside)

-- each slot of a set is below 64
pub below : (p : ℕ → Bool) → All (λ s. s < 64) (slots_where p)
unfolding slots_where
below p = All-filter p (λ s. s < 64) (range_with_len 0 64) (range_below 0 64)

-- t is the first number of the range that passes p, and q passes the others
first_in : (p q : ℕ → Bool) (t a n : ℕ) → a ≤ t → t < a + n → ((s : ℕ) → s < t → p s ≡ false) → p t ≡ true
    → ((s : ℕ) → s ≤ t → q s ≡ false) → ((s : ℕ) → t < s → s < a + n → p s ≡ q s)
    → filter p (range_with_len a n) ≡ t ∷ filter q (range_with_len a n)
first_in p q t a zero low high before here upto after = absurd (omega arith)
first_in p q t a (suc n) low high before here upto after =
    elim (cases_eq a t) [
      | inl same ↦
          let rest : filter p (range_with_len (a + 1) n) ≡ filter q (range_with_len (a + 1) n) =
          filter_range p q (a + 1) n (λ s from to. after s (omega arith) (omega arith)) in
          let passes : p a ≡ true = ap p same ∙ here in
          rw (passes, upto a low, rest) (ap (λ x. x ∷ filter q (range_with_len (a + 1) n)) same)
      | inr other ↦
          let rest : filter p (range_with_len (a + 1) n) ≡ t ∷ filter q (range_with_len (a + 1) n) =
          first_in p q t (a + 1) n (omega (arith, other)) (omega arith) before here upto (λ s from to. after s from (omega arith)) in
          rw (before a (omega (arith, other)), upto a low) rest
    ]

-- t is the first slot of the set by p, and the set by q has the others
pub first_slot : (p q : ℕ → Bool) (t : ℕ) → t < 64 → ((s : ℕ) → s < t → p s ≡ false) → p t ≡ true
    → ((s : ℕ) → s ≤ t → q s ≡ false) → ((s : ℕ) → t < s → s < 64 → p s ≡ q s) → slots_where p ≡ t ∷ slots_where q
unfolding slots_where
first_slot p q t small before here upto after = first_in p q t 0 64 (omega arith) small before here upto after
