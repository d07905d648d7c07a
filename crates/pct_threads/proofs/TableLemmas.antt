-- Laws of tables of threads, for the crates that use them.
use Rattle.pct_names.proofs.Names.{◌<◌, ap, arith, Bool, cases_lt, false, false≢true, get_or_past, inl, inr, is_some, length, List, None}
use Rattle.pct_names.proofs.Names.{not, Option, option_map_or, refl, set-set, set_past, slice_get-get_or, slice_get_past, slice_set, Some}
use Rattle.pct_names.proofs.Names.{sym, true, ℕ, ◌∙◌, ◌≡◌, ◌≤◌}
use Rattle.std.proofs.Common.{length-set}
use Rattle.std.proofs.lemmas.List.{get_or-set_same}
use Rattle.pct_threads.specs.Slots.{Held, Slot, unused, is_occupied, holds_thread, frames_of, is_reclaimable}
use Rattle.pct_threads.specs.Tables.{slot_at, is_occupied_at, is_free_at, frames_at, is_reclaimable_at, on_slot}

-- ---- the slots of a call are in the table

-- an index past the end is that of no slot
past : {X : Type 0} (f : Slot → X) (slots : List Slot) (index : ℕ) → length slots ≤ index → f (slot_at slots index) ≡ f unused
past f slots index after = ap f (get_or_past slots index unused after)

-- an occupied slot is in the table
pub within-occupied : (slots : List Slot) (index : ℕ) → is_occupied_at slots index ≡ true → index < length slots
within-occupied slots index holds =
    elim (cases_lt index (length slots)) [
      | inl inside ↦ inside
      | inr after ↦ absurd (false≢true (sym (past is_occupied slots index after) ∙ holds))
    ]

-- a slot whose thread has a frame is in the table
pub within-frames : (slots : List Slot) (index n : ℕ) → n < length (frames_at slots index) → index < length slots
within-frames slots index n some =
    elim (cases_lt index (length slots)) [
      | inl inside ↦ inside
      | inr after ↦ absurd (omega (arith, some, past (λ s. length (frames_of s)) slots index after))
    ]

-- a slot that can be reclaimed is in the table
pub within-reclaimable : (slots : List Slot) (index : ℕ) → is_reclaimable_at slots index ≡ true → index < length slots
within-reclaimable slots index holds =
    elim (cases_lt index (length slots)) [
      | inl inside ↦ inside
      | inr after ↦ absurd (false≢true (sym (past (λ s. holds_thread is_reclaimable s) slots index after) ∙ holds))
    ]

-- a free slot is in the table
pub within-free : (slots : List Slot) (index : ℕ) → is_free_at slots index ≡ true → index < length slots
within-free slots index free =
    elim (cases_lt index (length slots)) [
      | inl inside ↦ inside
      | inr after ↦ absurd (false≢true (sym (ap (λ o. option_map_or (λ slot. not (is_occupied slot)) o false) (slice_get_past slots index after)) ∙ free))
    ]

-- a slot of the table is free or occupied
pub is_free_at-within : (slots : List Slot) (index : ℕ) → index < length slots → is_free_at slots index ≡ not (is_occupied_at slots index)
is_free_at-within slots index inside = ap (λ o. option_map_or (λ slot. not (is_occupied slot)) o false) (slice_get-get_or slots index unused inside)

-- a slot whose thread passes a test is occupied
pub occupied-test : (test : Held → Bool) (here : Option Held) → option_map_or test here false ≡ true → is_some here ≡ true
occupied-test test (Some held) holds = refl
occupied-test test None holds = absurd (false≢true holds)

-- ---- changes

-- a change keeps the number of slots
pub length-on_slot : (index : ℕ) (change : Slot → Slot) (slots : List Slot) → length (on_slot index change slots) ≡ length slots
length-on_slot index change slots = length-set slots index (change (slot_at slots index))

-- two changes of a slot are one
pub on_slot-then : (index : ℕ) (f g : Slot → Slot) (slots : List Slot) → on_slot index g (on_slot index f slots) ≡ on_slot index (λ s. g (f s)) slots
on_slot-then index f g slots =
    let first : Slot = f (slot_at slots index) in
    elim (cases_lt index (length slots)) [
      | inl inside ↦ ap (λ (s : Slot). slice_set (slice_set slots index first) index (g s)) (get_or-set_same slots index first unused inside) ∙ set-set slots index first (g first)
      | inr after ↦ ap (on_slot index g) (set_past slots index first after) ∙ set_past slots index (g (slot_at slots index)) after ∙ sym (set_past slots index (g first) after)
    ]

-- a slot that can be reclaimed is occupied
pub reclaimable : (slots : List Slot) (index : ℕ) → is_reclaimable_at slots index ≡ true → is_occupied_at slots index ≡ true
reclaimable slots index holds = occupied-test is_reclaimable (slot_at slots index).here holds
