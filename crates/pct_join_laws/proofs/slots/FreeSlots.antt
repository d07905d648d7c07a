-- The id of a new thread is the next one of a free slot, and no thread on that slot holds it.
use Rattle.pct_names.proofs.Names.{◌&&◌, and_from, and_parts, any_passes_from_place, ap, arith, Bool, count_by, false, false_from_ne_true}
use Rattle.pct_names.proofs.Names.{find, free_ids, holds_slot, is_ended_status, is_free, is_on, List, list_any, nat_eq, next_id, not}
use Rattle.pct_names.proofs.Names.{not-false, not-true, position_or_len, slot_of, Some, sym, Thread, true, was_reclaimed, ◌||◌, ℕ, ◌∙◌, ◌≡◌}
use Rattle.std.proofs.Common.{eqb-true, eq-eqb}
use Rattle.std.proofs.lemmas.Bool.{true≢false}
use Rattle.pct_thread_invariants.proofs.lift.KeyedLists.{found_at, found_passes}
use Rattle.pct_thread_invariants.proofs.lift.OfferedNumbers.{IsNumberOf, from_range}
use Rattle.pct_thread_invariants.proofs.lift.ThreadIds.{slot_of_next}

-- the id is the next one of a free slot
abbrev pub IsOnFreeSlot : ℕ → List Thread → ℕ → Type 0
IsOnFreeSlot slots threads id = IsNumberOf (next_id slots threads) (is_free slots threads) slots id

-- an id that a new thread can get is such a one
pub is_on_free_slot : (slots : ℕ) (threads : List Thread) (id : ℕ) → list_any (nat_eq id) (free_ids slots threads) ≡ true → IsOnFreeSlot slots threads id
unfolding free_ids
is_on_free_slot slots threads id among = from_range (next_id slots threads) (is_free slots threads) slots id 0 slots (omega arith) among

module _ (slots : ℕ) (threads : List Thread) (id : ℕ) (free : IsOnFreeSlot slots threads id) where
  -- its slot is that one
  slot_is : slot_of slots id ≡ free.item
  slot_is = ap (slot_of slots) free.is ∙ slot_of_next slots free.item (count_by (is_on slots free.item) threads) free.low

  module _ (tid : ℕ) (t : Thread) (found : find (λ u. nat_eq u.id tid) threads ≡ Some t) (same : slot_of slots tid ≡ slot_of slots id) where
    -- a thread on the slot
    on_slot : is_on slots free.item t ≡ true
    on_slot = eq-eqb (slot_of slots t.id) free.item (ap (slot_of slots) (eqb-true t.id tid (found_passes (λ (u : Thread). nat_eq u.id tid) threads t found)) ∙ same ∙ slot_is)

    -- does not hold it
    not_held : holds_slot t ≡ false
    not_held = false_from_ne_true (holds_slot t) (λ holds.
        let held : list_any (λ (u : Thread). is_on slots free.item u && holds_slot u) threads ≡ true =
        any_passes_from_place (λ (u : Thread). is_on slots free.item u && holds_slot u) threads (position_or_len (λ (u : Thread). nat_eq u.id tid) threads) t (found_at (λ (u : Thread). nat_eq u.id tid) threads t found)
        (and_from (is_on slots free.item t) (holds_slot t) on_slot holds) in
        true≢false (sym held ∙ not-true (list_any (λ (u : Thread). is_on slots free.item u && holds_slot u) threads) free.passes))

    -- if its process inherited it, it has ended, and was joined or is detached
    pub is_reclaimed_thread : t.gone ≡ false → (is_ended_status t.status ≡ true) × ((t.joined || t.detached) ≡ true)
    is_reclaimed_thread here =
        let reclaimed : was_reclaimed t ≡ true = not-false (was_reclaimed t) (sym (ap (λ (gone : Bool). not gone && not (was_reclaimed t)) here) ∙ not_held) in
        and_parts (is_ended_status t.status) (t.joined || t.detached) reclaimed
