-- What an engine keeps of a state of the machine: the processes that are not reaped and, of each, the threads that hold a
-- slot, slot by slot. Legality, transitions, verdicts and the choices of the scheduler depend on nothing else.
use Rattle.std.specs.Prelude.{ℕ, ◌+◌, Bool, not, ◌&&◌, ◌||◌, if◌then◌else◌, List, [], ◌∷◌, ◌++◌, length, map, filter, flat_map, count_by, Option, Some, None, is_some, nat_eq, slice_get, slice_set, option_map}
use Rattle.std.specs.Option.{option_map_or}
use Rattle.std.specs.List.{list_all, range_with_len}
use Rattle.pct_model.specs.declared.process.Relative.{Relative}
use Rattle.pct_model.specs.declared.stop.Why.{Why}
use Rattle.pct_model.specs.declared.transition.NewThread.{NewThread}
use Rattle.pct_model.specs.declared.transition.ProcessAction.{ProcessAction}
use Rattle.pct_model.specs.declared.transition.ProcessAction.TheVariants as process_action
use Rattle.pct_model.specs.declared.transition.Transition.{Transition}
use Rattle.pct_model.specs.World.{Thread, SharedState, Process, World, was_reaped}
use Rattle.pct_model.specs.ThreadSlots.{holds_slot, slot_of, is_on}
use Rattle.pct_model.specs.Actions.{shared_moved, stop_after, thread_moved, thread_created, replica_of}
use Rattle.pct_model.specs.OtherProcesses.{Family, family_among}

-- a slot: the number of threads ever made on it, and the thread that holds it
pub record SeenSlot : Type 0 where
  pub made : ℕ
  pub here : List Thread

-- a process that is not reaped
pub record SeenProcess : Type 0 where
  pub pid : ℕ
  pub parent : ℕ
  pub ended : Option ℕ
  pub slots : List SeenSlot
  pub shared : SharedState

-- the part of a state that is kept: these processes, the number of processes ever made, and the stop
pub record Seen : Type 0 where
  pub processes : List SeenProcess
  pub made : ℕ
  pub stop : Option Why

-- ---- of a state

-- slot s of a process with these threads
abbrev pub seen_slot : ℕ → List Thread → ℕ → SeenSlot
seen_slot slots threads s = record { made = count_by (is_on slots s) threads; here = filter (λ t. is_on slots s t && holds_slot t) threads }

-- a process
abbrev pub seen_process : ℕ → Process → SeenProcess
seen_process slots p = record { pid = p.pid; parent = p.parent; ended = option_map (λ end. end.status) p.ended; slots = map (seen_slot slots p.threads) (range_with_len 0 slots); shared = p.shared }

-- a state
abbrev pub seen : ℕ → World → Seen
seen slots w = record { processes = map (seen_process slots) (filter (λ p. not (was_reaped p.ended)) w.processes); made = length w.processes; stop = w.stop }

-- the threads on these slots, in their order
abbrev pub threads_on : List SeenSlot → List Thread
threads_on rows = flat_map (λ s. s.here) rows

-- each thread but the one with this id has ended
abbrev pub is_last_in : ℕ → List SeenSlot → Bool
is_last_in id rows = list_all (λ t. t.ended || nat_eq t.id id) (threads_on rows)

-- ---- the other processes

-- the ids and the end of a process
abbrev pub relative_in : SeenProcess → Relative
relative_in p = record { pid = p.pid; parent = p.parent; ended = p.ended }

-- the other processes, as the one with an id sees them
abbrev pub family_in : Seen → ℕ → Family
family_in v pid = family_among v.made (map relative_in v.processes) pid

-- ---- after a transition

-- a slot after a transition of the thread with an id; a thread that the transition names can be on any slot
abbrev pub slot_after : ℕ → Transition → SeenSlot → SeenSlot
slot_after tid o s = record s { here = filter holds_slot (map (thread_moved tid o) s.here) }

-- a slot after a thread was created on it
abbrev pub slot_with : NewThread → SeenSlot → SeenSlot
slot_with new s = record { made = s.made + 1; here = s.here ++ thread_created (Some new) }

-- the slots with a change of the one at an index
abbrev pub on_slot : ℕ → (SeenSlot → SeenSlot) → List SeenSlot → List SeenSlot
on_slot i f slots = option_map_or (λ s. slice_set slots i (f s)) (slice_get slots i) slots

-- the slots with the thread that a transition creates, if it does
abbrev pub with_created : ℕ → Option NewThread → List SeenSlot → List SeenSlot
with_created slots None rows = rows
with_created slots (Some new) rows = on_slot (slot_of slots new.id) (slot_with new) rows

-- the slots after a transition of the thread with an id
abbrev pub slots_moved : ℕ → ℕ → Transition → List SeenSlot → List SeenSlot
slots_moved slots tid o rows = with_created slots o.created (map (slot_after tid o) rows)

-- the process of the thread after an action: after its end it is kept only if it has a parent
unfoldable pub own_kept : Option ProcessAction → SeenProcess → List SeenProcess
own_kept (Some (process_action.End n)) p = if nat_eq p.parent 0 then [] else record p { ended = Some n } ∷ []
own_kept _ p = p ∷ []

-- another process after an action of a thread of process pid
unfoldable pub other_kept : ℕ → Option ProcessAction → SeenProcess → List SeenProcess
other_kept pid (Some (process_action.Reap child)) p = if nat_eq p.pid child && is_some p.ended then [] else p ∷ []
other_kept pid (Some (process_action.End n)) p = if nat_eq p.parent pid then if is_some p.ended then [] else record p { parent = 0 } ∷ [] else p ∷ []
other_kept pid _ p = p ∷ []

-- the process of the thread after the transition, but for its end
abbrev pub process_seen : ℕ → ℕ → Transition → SeenProcess → SeenProcess
process_seen slots tid o p = record p { slots = slots_moved slots tid o p.slots; shared = shared_moved tid o p.shared }

-- the process of the thread after the transition, with this number of slots
abbrev pub own_process_seen : ℕ → ℕ → Transition → SeenProcess → List SeenProcess
own_process_seen slots tid o p = own_kept o.process (process_seen slots tid o p)

-- another process after the transition
abbrev pub other_process_seen : ℕ → Transition → SeenProcess → List SeenProcess
other_process_seen pid o p = other_kept pid o.process p

-- the process has this id and has not ended
abbrev pub is_live_seen : ℕ → SeenProcess → Bool
is_live_seen pid p = nat_eq p.pid pid && not (is_some p.ended)

-- a slot, as a child process has it: it inherits the thread with this id alone
abbrev pub slot_inherited : ℕ → SeenSlot → SeenSlot
slot_inherited tid s = record s { here = map replica_of (filter (λ t. nat_eq t.id tid) s.here) }

-- the child with an id that a fork by the thread with an id makes
abbrev pub child_seen : ℕ → ℕ → SeenProcess → SeenProcess
child_seen tid pid p = record { pid = pid; parent = p.pid; ended = None; slots = map (slot_inherited tid) p.slots; shared = record p.shared { exit_value = None; restricted = not (is_last_in tid p.slots) } }

-- the process that an action makes, if it makes one
unfoldable pub child_seen_by : ℕ → SeenProcess → Option ProcessAction → List SeenProcess
child_seen_by tid p (Some (process_action.Make pid)) = child_seen tid pid p ∷ []
child_seen_by tid p _ = []

-- the processes that the transition makes
abbrev pub children_seen : (slots pid tid : ℕ) → Transition → List SeenProcess → List SeenProcess
children_seen slots pid tid o ps = flat_map (λ p. if is_live_seen pid p then child_seen_by tid (process_seen slots tid o p) o.process else []) ps

-- the processes that were made before, after the transition
abbrev pub processes_kept : (slots pid tid : ℕ) → Transition → List SeenProcess → List SeenProcess
processes_kept slots pid tid o ps = flat_map (λ p. if is_live_seen pid p then own_process_seen slots tid o p else other_process_seen pid o p) ps

-- all after a transition of thread tid of process pid
unfoldable pub seen_after : (slots pid tid : ℕ) → Transition → Seen → Seen
seen_after slots pid tid o v =
    let children : List SeenProcess = children_seen slots pid tid o v.processes in
    record { processes = processes_kept slots pid tid o v.processes ++ children; made = v.made + length children; stop = stop_after o.stop v.stop }
