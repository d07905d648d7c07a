-- The free slots, found by a scan.
use Rattle.pct_names.proofs.Names.{◌&&◌, ◌+◌, ◌<◌, and_right, ap, arith, Bool, cases_Bool, cases_eq, cases_lt, cond, false, inl, inr}
use Rattle.pct_names.proofs.Names.{le-ltb, length, List, nat_lt, not, refl, sym, true, ℕ, ◌∙◌, ◌≡◌}
use Rattle.std.proofs.lemmas.Bool.{eq-eqb, ne_eqb, lt-ltb}
use Rattle.pct_set.specs.Slots.{slots_where, with_slot}
use Rattle.pct_set.proofs.SlotLemmas.{slots_agree, with_slot-where}
use Rattle.pct_threads.specs.Slots.{Slot}
use Rattle.pct_threads.specs.Tables.{is_occupied_at, is_free_at}
use Rattle.pct_threads.proofs.TableLemmas.{is_free_at-within, within-free}

-- the slot is free, and its index is below n
abbrev pub is_free_below : List Slot → ℕ → ℕ → Bool
is_free_below slots n s = nat_lt s n && is_free_at slots s

-- one step of the scan: `taken` where slot i is occupied, `left` where it is free
module _ (slots : List Slot) (i : ℕ) where
  below_more : (s : ℕ) → (s ≡ i → ⊥) → nat_lt s (i + 1) ≡ nat_lt s i
  below_more s other =
      elim (cases_lt s i) [
        | inl before ↦ lt-ltb s (i + 1) (omega arith) ∙ sym (lt-ltb s i before)
        | inr after ↦ le-ltb s (i + 1) (omega (arith, other)) ∙ sym (le-ltb s i after)
      ]

  taken : is_free_at slots i ≡ false → slots_where (is_free_below slots i) ≡ slots_where (is_free_below slots (i + 1))
  taken held =
      slots_agree _ _ (λ s small. elim (cases_eq s i) [
        | inl same ↦ rw (same, held) (and_right (nat_lt i i) false refl ∙ sym (and_right (nat_lt i (i + 1)) false refl))
        | inr other ↦ rw (below_more s other) refl
      ])

  left : is_free_at slots i ≡ true → with_slot i (slots_where (is_free_below slots i)) ≡ slots_where (is_free_below slots (i + 1))
  left free =
      with_slot-where (is_free_below slots i) i
      ∙ slots_agree _ _ (λ s small. elim (cases_eq s i) [
        | inl same ↦ rw (same, eq-eqb i i refl, free, lt-ltb i (i + 1) (omega arith)) refl
        | inr other ↦ rw (ne_eqb s i other, below_more s other) refl
      ])

  -- one more slot
  pub free_more : (b : Bool) (set after : List ℕ) → i < length slots → b ≡ is_occupied_at slots i → set ≡ slots_where (is_free_below slots i) → after ≡ cond (not b) (with_slot i set) set → after ≡ slots_where (is_free_below slots (i + 1))
  free_more true set after within is so_far next = next ∙ so_far ∙ taken (is_free_at-within slots i within ∙ ap not (sym is))
  free_more false set after within is so_far next = next ∙ ap (with_slot i) so_far ∙ left (is_free_at-within slots i within ∙ ap not (sym is))

-- at the end
pub free_all : (slots : List Slot) (n : ℕ) → n ≡ length slots → slots_where (is_free_below slots n) ≡ slots_where (is_free_at slots)
free_all slots n long =
    slots_agree _ _ (λ s small. elim (cases_Bool (is_free_at slots s)) [
      | inl free ↦ rw (free, lt-ltb s n (omega (arith, within-free slots s free))) refl
      | inr held ↦ rw held (and_right (nat_lt s n) false refl)
    ])
