-- The threads that are kept on a slot belong there.
use Rattle.pct_names.proofs.Names.{◌&&◌, ◌<◌, All, All-weaker, and_parts, filter, filter_passes, holds_slot, is_on, length, List, None}
use Rattle.pct_names.proofs.Names.{none-some, not, Option, option_map, Process, same_Some, slice_get, slice_get-map, slice_get_within}
use Rattle.pct_names.proofs.Names.{slot_of, Some, subst, sym, Thread, true, was_reaped, World, ℕ, ◌∙◌, ◌≡◌}
use Rattle.std.proofs.Common.{eqb-true}
use Rattle.pct_engine_laws.specs.Seen.{SeenSlot, SeenProcess, seen_slot, seen_process, seen}
use Rattle.pct_engine_laws.proofs.IndexedLists.{length-by_index, item_by_index}

-- a thread holds slot s
pub record HoldsSlot (slots s : ℕ) (t : Thread) : Type 0 where
  pub on : slot_of slots t.id ≡ s
  pub holds : holds_slot t ≡ true

-- a process has this number of slots
pub slots_are_all : (slots : ℕ) (p : Process) → length (seen_process slots p).slots ≡ slots
slots_are_all slots p = length-by_index (seen_slot slots p.threads) slots

-- the slot of a process with an index
pub slot_is_seen : (slots s : ℕ) (p : Process) → s < slots → slice_get (seen_process slots p).slots s ≡ Some (seen_slot slots p.threads s)
slot_is_seen slots s p low = item_by_index (seen_slot slots p.threads) slots s low

-- the threads on a slot hold it
pub threads_are_placed : (slots s : ℕ) (threads : List Thread) → All (HoldsSlot slots s) (seen_slot slots threads s).here
threads_are_placed slots s threads =
    All-weaker (λ (t : Thread). (is_on slots s t && holds_slot t) ≡ true) (HoldsSlot slots s)
    (λ t both. let parts : (is_on slots s t ≡ true) × (holds_slot t ≡ true) = and_parts (is_on slots s t) (holds_slot t) both in record { on = eqb-true (slot_of slots t.id) s parts.0; holds = parts.1 })
    (filter (λ t. is_on slots s t && holds_slot t) threads)
    (filter_passes (λ t. is_on slots s t && holds_slot t) threads)

-- a process that is kept: it has this number of slots, and the threads on each hold it
pub record IsPlaced (slots : ℕ) (p : SeenProcess) : Type 0 where
  pub all : length p.slots ≡ slots
  pub each : (s : ℕ) (row : SeenSlot) → slice_get p.slots s ≡ Some row → All (HoldsSlot slots s) row.here

-- the threads on each slot of a process hold it
pub slots_are_placed : (slots : ℕ) (p : Process) → IsPlaced slots (seen_process slots p)
slots_are_placed slots p = record {
  all = slots_are_all slots p;
  each = λ s row found.
      let low : s < slots = rw (← slots_are_all slots p) (slice_get_within (seen_process slots p).slots s row found) in
      let same : seen_slot slots p.threads s ≡ row = same_Some (seen_slot slots p.threads s) row (sym (slot_is_seen slots s p low) ∙ found) in
      subst (λ (r : SeenSlot). All (HoldsSlot slots s) r.here) same (threads_are_placed slots s p.threads);
}

placed_from : (slots : ℕ) (o : Option Process) (q : SeenProcess) → option_map (seen_process slots) o ≡ Some q → IsPlaced slots q
placed_from slots None q e = absurd (none-some q e)
placed_from slots (Some p) q e = subst (IsPlaced slots) (same_Some (seen_process slots p) q e) (slots_are_placed slots p)

-- the threads on each slot of each process that is kept of a state hold it
pub processes_are_placed : (slots : ℕ) (w : World) (i : ℕ) (q : SeenProcess) → slice_get (seen slots w).processes i ≡ Some q → IsPlaced slots q
processes_are_placed slots w i q found =
    let left : List Process = filter (λ p. not (was_reaped p.ended)) w.processes in
    placed_from slots (slice_get left i) q (sym (slice_get-map (seen_process slots) left i) ∙ found)
