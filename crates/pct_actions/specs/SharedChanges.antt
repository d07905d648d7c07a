-- What actions change in the tables beside the thread that makes it: in what the threads share, and in the threads that it names.
use Rattle.std.specs.Prelude.{◌≡◌, ℕ, true, if◌then◌else◌, List, length, map, Option, Some, None, IfSome}
use Rattle.std.specs.Option.{option_map_or}
use Rattle.pct_model.specs.declared.state.Cause.{Cause}
use Rattle.pct_model.specs.declared.state.Cause.TheVariants as cause
use Rattle.pct_model.specs.declared.transition.NamedAction.{NamedAction}
use Rattle.pct_model.specs.declared.transition.NamedAction.TheVariants as named_action
use Rattle.pct_model.specs.CondCalls.{is_waiting_on, unblocked}
use Rattle.pct_model.specs.Keys.{key_place, without_value}
use Rattle.pct_threads.specs.Slots.{Held, Slot, after_detach, after_change, with_change, freed}
use Rattle.pct_set.specs.Slots.{slots_where}
use Rattle.pct_threads.specs.Tables.{slot_named, held_at, is_reclaimable_at, on_slot}
use Rattle.pct_engine_laws.specs.Seen.{SeenSlot}
use Rattle.pct_process.specs.Standings.{standing_on, waits_on}
use Rattle.pct_actions.specs.ProcessParts.{on_threads}

-- ---- keys

-- the slots, where no thread keeps its value of the key that is deleted, if one is
abbrev pub forgotten : Option ℕ → List SeenSlot → List SeenSlot
forgotten None slots = slots
forgotten (Some k) slots = map (on_threads (λ t. record t { specific = without_value (key_place k) t.specific })) slots

-- ---- threads that are named

-- the table of threads after a change of this slot, if there is such a thread
abbrev pub on_named : ℕ → (Slot → Slot) → List Slot → List Slot
on_named id change threads = option_map_or (λ target. on_slot target change threads) (slot_named id threads) threads

-- a thread for which a request is made: it is pending, unless the thread has ended
abbrev pub requested : Held → Held
requested h = if h.thread.ended then h else record h { thread = record h.thread { cancel = record h.thread.cancel { pending = true } } }

-- a thread that is unblocked, if it waits on a condition variable
abbrev pub woken_by : Cause → Held → Held
woken_by why h = record h { thread = record h.thread { status = unblocked why h.thread.status } }

-- a thread that is unblocked by a broadcast, if it waits on condition variable c
abbrev pub woken_from : ℕ → Held → Held
woken_from c h = if is_waiting_on c h.thread.status then woken_by cause.Broadcast h else h

-- the slots of the threads that wait on condition variable c
abbrev pub waiting_slots : ℕ → List Slot → List ℕ
waiting_slots c threads = slots_where (λ k. waits_on c (standing_on (held_at threads k)))

-- the number of records that the action takes at most
abbrev pub records_of : Option NamedAction → List Slot → ℕ
records_of (Some (named_action.WakeAll c)) threads = length (waiting_slots c threads)
records_of _ threads = 1

-- the table of threads after the action that names threads, if there is one
unfoldable pub named_on : Option NamedAction → List Slot → List Slot
named_on (Some (named_action.EndJoin id)) threads = on_named id freed threads
named_on (Some (named_action.Request id)) threads = on_named id (with_change requested) threads
named_on (Some (named_action.Detach id)) threads = on_named id (after_change after_detach) threads
named_on (Some (named_action.Wake id)) threads = on_named id (with_change (woken_by cause.Signalled)) threads
named_on (Some (named_action.WakeAll c)) threads = map (with_change (woken_from c)) threads
named_on _ threads = threads

-- the action fits the table of threads: a thread that was joined has ended, and is not detached
abbrev pub NameFits : Option NamedAction → List Slot → Type 0
NameFits (Some (named_action.EndJoin id)) threads = IfSome (slot_named id threads) (λ target. is_reclaimable_at threads target ≡ true)
NameFits _ threads = Unit {0}
