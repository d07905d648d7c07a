-- The operations of `SlotSet` on bits are those on sets of slots.
use Rattle.std.proofs.Common.{◌≡◌, refl, sym, ap, ◌∙◌, ℕ, zero, suc, true, ◌+◌, ◌-◌, ◌*◌, ◌/◌, ◌%◌, ◌^◌, ◌<◌, ◌⊎◌, List, [], ◌∷◌, length, nat_eq, inl, inr, arith, w64, bit_and, bit_or, count_ones, drop, get_or, slice_get, Some, length-drop}
use Rattle.std.proofs.lemmas.Bool.{cases_eq, ne_eqb, eq-eqb, agree_below_at}
use Rattle.std.proofs.Math.Nat.{eq-zero-or-pos}
use Rattle.std.proofs.lemmas.List.{drop_more}
use Rattle.std.proofs.lemmas.Nat.{ones_cat, or_lt}
use Rattle.std.proofs.lemmas.Nat.Bits.{shr_and_one, bit_at_or, bit_at_and, bit_at_not, bit_at-lt, bit_at_set_same, bit_at_set_other, bit_at_clear_same, bit_at_clear_other, bit_at-trailing_zeros}
use Rattle.std.proofs.lemmas.Option.{slice_get-get_or}
use Rattle.std.specs.Prelude.{filter}
use Rattle.std.specs.Int.{bit_at, bit_not, trailing_zeros}
use Rattle.std.specs.Int.Count.{ones}
use Rattle.std.specs.List.{range_with_len}
use Rattle.pct_set.specs.Slots.{slots_where, has_slot, with_slot, without_slot, union_of, difference_of}
use Rattle.pct_set.specs.Layout.{has_bit, slots_of}
use Rattle.pct_set.specs.Inverse.{bits_from}
use Rattle.pct_set.proofs.SlotLemmas.{slots_agree, has_where, first_slot}

-- a slot is in the set if its bit is set
has_of : (b s : ℕ) → s < 64 → has_slot (slots_of b) s ≡ has_bit b s
has_of b s small = has_where (has_bit b) s small

-- a bit is 0 or 1
bit_cases : (b s : ℕ) → (bit_at b s ≡ 0) ⊎ (bit_at b s ≡ 1)
bit_cases b s =
    elim (cases_eq (bit_at b s) 1) [
      | inl set ↦ inr set
      | inr clear ↦ inl (omega (arith, bit_at-lt b s, clear))
    ]

-- `or_lt` at 64 bits
pub or_small : (a b : ℕ) → a < 2 ^ 64 → b < 2 ^ 64 → bit_or a b < 2 ^ 64
or_small a b = or_lt 64 a b

-- no bits are the empty set
pub empty : slots_of 0 ≡ []
unfolding slots_where
empty = refl

-- all bits are the set of all slots
pub full : slots_of (2 ^ 64 - 1) ≡ slots_where (λ _. true)
full = slots_agree (has_bit (2 ^ 64 - 1)) (λ _. true) (λ s small. agree_below_at (has_bit (2 ^ 64 - 1)) (λ _. true) 64 s refl small)

-- `contains`
pub tested : (b s : ℕ) → s < 64 → nat_eq (bit_and (b / 2 ^ s) 1) 1 ≡ has_slot (slots_of b) s
tested b s small = rw (shr_and_one b s) (sym (has_of b s small))

-- `insert`
pub inserted : (b s : ℕ) → s < 64 → slots_of (bit_or b (1 * 2 ^ s % 2 ^ 64)) ≡ with_slot s (slots_of b)
inserted b s small =
    slots_agree _ _ (λ k below. elim (cases_eq k s) [
      | inl same ↦ rw (same, bit_at_set_same w64 b s small, eq-eqb s s refl) refl
      | inr other ↦ rw (bit_at_set_other w64 b s small k other, ne_eqb k s other, has_of b k below) refl
    ])

-- `remove`
pub removed : (b s : ℕ) → s < 64 → slots_of (bit_and b (bit_not w64 (1 * 2 ^ s % 2 ^ 64))) ≡ without_slot s (slots_of b)
removed b s small =
    slots_agree _ _ (λ k below. elim (cases_eq k s) [
      | inl same ↦ rw (same, bit_at_clear_same w64 b s small, eq-eqb s s refl) refl
      | inr other ↦ rw (bit_at_clear_other w64 b s small k below other, ne_eqb k s other, has_of b k below) refl
    ])

-- `union`
pub joined : (a b : ℕ) → slots_of (bit_or a b) ≡ union_of (slots_of a) (slots_of b)
joined a b =
    slots_agree _ _ (λ k below. rw (has_of a k below, has_of b k below, bit_at_or a b k) (elim (bit_cases a k) [
      | inl none ↦ elim (bit_cases b k) [ inl clear ↦ rw (none, clear) refl | inr set ↦ rw (none, set) refl ]
      | inr some ↦ elim (bit_cases b k) [ inl clear ↦ rw (some, clear) refl | inr set ↦ rw (some, set) refl ]
    ]))

-- `minus`
pub subtracted : (a b : ℕ) → b < 2 ^ 64 → slots_of (bit_and a (bit_not w64 b)) ≡ difference_of (slots_of a) (slots_of b)
subtracted a b small =
    slots_agree _ _ (λ k below. rw (has_of a k below, has_of b k below, bit_at_and a (bit_not w64 b) k, bit_at_not w64 b k small below) (elim (bit_cases a k) [
      | inl none ↦ elim (bit_cases b k) [ inl clear ↦ rw (none, clear) refl | inr set ↦ rw (none, set) refl ]
      | inr some ↦ elim (bit_cases b k) [ inl clear ↦ rw (some, clear) refl | inr set ↦ rw (some, set) refl ]
    ]))

ones_zero : ones 0 ≡ 0
unfolding ones
ones_zero = refl

ones_one : ones 1 ≡ 1
unfolding ones
ones_one = refl

-- the ones among the n bits from bit a on are the slots of that range
ones_range : (b a n : ℕ) → ones (b / 2 ^ a % 2 ^ n) ≡ length (filter (has_bit b) (range_with_len a n))
ones_range b a zero =
    let none : b / 2 ^ a % 1 ≡ 0 = omega arith in
    rw (none, ones_zero) refl
ones_range b a (suc n) =
    let high : ℕ = b / 2 ^ (a + 1) % 2 ^ n in
    let rest : ones high ≡ length (filter (has_bit b) (range_with_len (a + 1) n)) = ones_range b (a + 1) n in
    let both : ones (b / 2 ^ a % 2 ^ suc n) ≡ ones high + ones (bit_at b a) =
    ap ones (bits_from b a n) ∙ ones_cat 1 high (bit_at b a) (bit_at-lt b a) in
    both ∙ elim (bit_cases b a) [
      | inl clear ↦ rw clear (omega (arith, rest, ones_zero))
      | inr set ↦ rw set (omega (arith, rest, ones_one))
    ]

-- `len`
pub counted : (b : ℕ) → b < 2 ^ 64 → count_ones b ≡ length (slots_of b)
unfolding slots_where
counted b small =
    let whole : b ≡ b / 2 ^ 0 % 2 ^ 64 = omega arith in
    ap ones whole ∙ ones_range b 0 64

-- the lowest bit is the first slot, and clearing it leaves the other slots
pub lowest_first : (b : ℕ) → 0 < b → b < 2 ^ 64
    → slots_of b ≡ trailing_zeros w64 b ∷ slots_of (bit_and b (bit_not w64 (1 * 2 ^ trailing_zeros w64 b % 2 ^ 64)))
lowest_first b some small =
    let t : ℕ = trailing_zeros w64 b in
    let rest : ℕ = bit_and b (bit_not w64 (1 * 2 ^ t % 2 ^ 64)) in
    let lowest : (t < 64) × (bit_at b t ≡ 1) × ((i : ℕ) → i < t → bit_at b i ≡ 0) = bit_at-trailing_zeros w64 b some small in
    first_slot (has_bit b) (has_bit rest) t lowest.0 (λ s before. rw (lowest.2 s before) refl) (rw (lowest.1) refl)
    (λ s upto. elim (cases_eq s t) [
      | inl same ↦ rw (same, bit_at_clear_same w64 b t lowest.0) refl
      | inr other ↦ rw (bit_at_clear_other w64 b t lowest.0 s (omega (arith, lowest.0)) other, lowest.2 s (omega (arith, other))) refl
    ])
    (λ s after within. rw (bit_at_clear_other w64 b t lowest.0 s within (λ same. omega (arith, same))) refl)

-- one step of `nth`: `rest` has the slots of the set from index i on
pub next_slot : (rest i : ℕ) (set : List ℕ) → rest < 2 ^ 64 → slots_of rest ≡ drop i set → i < length set
    → (trailing_zeros w64 rest < 64) × (slice_get set i ≡ Some (trailing_zeros w64 rest))
    × (slots_of (bit_and rest (bit_not w64 (1 * 2 ^ trailing_zeros w64 rest % 2 ^ 64))) ≡ drop (i + 1) set)
next_slot rest i set small after inside =
    let some : 0 < rest =
    elim (eq-zero-or-pos rest) [
      | inl none ↦ absurd (omega (arith, inside, length-drop i set, ap length (sym after ∙ ap slots_of none ∙ empty)))
      | inr pos ↦ pos
    ] in
    let t : ℕ = trailing_zeros w64 rest in
    let others : List ℕ = slots_of (bit_and rest (bit_not w64 (1 * 2 ^ t % 2 ^ 64))) in
    let split : t ∷ others ≡ get_or set i 0 ∷ drop (i + 1) set = sym (lowest_first rest some small) ∙ after ∙ drop_more set i 0 inside in
    let head : t ≡ get_or set i 0 = ap (λ xs. get_or xs 0 0) split in
    let tail : others ≡ drop (i + 1) set = ap (λ xs. drop 1 xs) split in
    ((bit_at-trailing_zeros w64 rest some small).0, slice_get-get_or set i 0 inside ∙ ap (λ s. Some s) (sym head), tail)
