-- The slot of the only thread of a process.
use Rattle.pct_names.proofs.Names.{[], All, ap, arith, filter, IfSome, is_some, false, length, List, map, None, Option, option_map_or, refl, slice_get, Some, sym, Thread, true, ℕ, ◌∙◌, ◌∷◌, ◌≡◌, ◌≤◌}
use Rattle.pct_set.specs.Slots.{slots_where}
use Rattle.pct_set.proofs.SlotLemmas.{slots_agree}
use Rattle.pct_engine_laws.specs.Seen.{SeenProcess, SeenSlot, threads_on}
use Rattle.pct_process.specs.ProcessViews.{thread_on_slot}
use Rattle.pct_ready_sets.proofs.ReadySlots.{ready_on_slots}
use Rattle.pct_place.specs.ProcessSteps.{IsOnlySlot}
use Rattle.pct_place.proofs.ReadySlots.{as_many, ready_at}

held_by_test : (o : Option Thread) → is_some o ≡ option_map_or (λ _. true) o false
held_by_test None = refl
held_by_test (Some t) = refl

all_kept : (ts : List Thread) → filter (λ _. true) ts ≡ ts
all_kept [] = refl
all_kept (t ∷ ts) = ap (λ rest. t ∷ rest) (all_kept ts)

-- the threads on the slots with a thread
threads_held : (slots : List SeenSlot) (set : List ℕ) → set ≡ slots_where (λ k. is_some (thread_on_slot slots k)) → All (λ (s : SeenSlot). length s.here ≤ 1) slots → length slots ≤ 64 → map (thread_on_slot slots) set ≡ map (λ t. Some t) (threads_on slots)
threads_held slots set is single few =
    ap (map (thread_on_slot slots)) (is ∙ slots_agree _ _ (λ k small. held_by_test (thread_on_slot slots k)))
    ∙ ready_on_slots (λ _. true) slots single few
    ∙ ap (map (λ (t : Thread). Some t)) (all_kept (threads_on slots))

-- the first slot with a thread is that of the only thread, if there is one such slot
pub first_is_only : (p : SeenProcess) (set : List ℕ) → set ≡ slots_where (λ k. is_some (thread_on_slot p.slots k)) → All (λ (s : SeenSlot). length s.here ≤ 1) p.slots → length p.slots ≤ 64 → is_some p.ended ≡ false → length set ≡ 1 → (slot : Option ℕ) → slot ≡ slice_get set 0 → IfSome slot (IsOnlySlot p)
first_is_only p set is single few live one None at = tt
first_is_only p set is single few live one (Some slot) at = by (threads_on p.slots) refl where
  are : map (thread_on_slot p.slots) set ≡ map (λ t. Some t) (threads_on p.slots)
  are = threads_held p.slots set is single few

  count : length (threads_on p.slots) ≡ 1
  count = sym (as_many p.slots set (threads_on p.slots) are) ∙ one

  by : (ts : List Thread) → threads_on p.slots ≡ ts → IsOnlySlot p slot
  by [] none = absurd (omega (arith, count, ap length none))
  by (t ∷ []) is_one = record { live = live; thread = t; held = (ready_at p.slots set (threads_on p.slots) are 0 (Some slot) at).0 ∙ ap (λ (ts : List Thread). slice_get ts 0) is_one; single = is_one }
  by (t ∷ u ∷ rest) several = absurd (omega (arith, count, ap length several))
