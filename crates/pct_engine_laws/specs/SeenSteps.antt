-- Transitions, verdicts and the choices of the scheduler, of what an engine keeps of a state.
use Rattle.std.specs.Prelude.{ℕ, ◌+◌, ◌*◌, Bool, true, false, not, ◌&&◌, if◌then◌else◌, List, [], ◌∷◌, ◌++◌, map, filter, flat_map, Option, Some, None, is_some, is_none, nat_eq, option_and_then, find, slice_get}
use Rattle.std.specs.List.{list_all, list_any}
use Rattle.pct_model.specs.declared.script.Script.{Script}
use Rattle.pct_model.specs.declared.schedule.Alt.{Alt}
use Rattle.pct_model.specs.declared.schedule.Config.{Config}
use Rattle.pct_model.specs.declared.schedule.Entry.{Entry}
use Rattle.pct_model.specs.declared.stop.Why.{Why}
use Rattle.pct_model.specs.declared.stop.Verdict.{Verdict}
use Rattle.pct_model.specs.declared.stop.Verdict.TheVariants.{Complete, Deadlock, Budget, Undefined, Open}
use Rattle.pct_model.specs.declared.transition.Transition.{Transition}
use Rattle.pct_model.specs.World.{Thread}
use Rattle.pct_model.specs.ThreadSlots.{slot_of}
use Rattle.pct_model.specs.NextStatement.{next_of, body_at}
use Rattle.pct_model.specs.Formats.{has_timeouts}
use Rattle.pct_model.specs.OtherProcesses.{Family}
use Rattle.pct_model.specs.Environment.{Environment, is_joining, waiters_among}
use Rattle.pct_model.specs.ChoiceTable.{choices_at, offers, is_enabled}
use Rattle.pct_model.specs.TransitionTable.{transition_at, acts_or}
use Rattle.pct_model.specs.Chosen.{Candidate, item_at, entry_for}
use Rattle.pct_engine_laws.specs.Seen.{SeenSlot, SeenProcess, Seen, threads_on, is_last_in, family_in, is_live_seen}

-- ---- the threads on slots

-- the thread with an id on a slot
abbrev pub thread_on : ℕ → SeenSlot → Option Thread
thread_on tid s = find (λ t. nat_eq t.id tid) s.here

-- the thread with an id on one of these slots
abbrev pub thread_with : ℕ → ℕ → List SeenSlot → Option Thread
thread_with slots tid rows = option_and_then (thread_on tid) (slice_get rows (slot_of slots tid))

-- ---- what a thread sees of the others

-- a thread is suspended in pthread_join for this id
abbrev pub is_joined_in : ℕ → List SeenSlot → Bool
is_joined_in id rows = list_any (λ t. is_joining id t.status) (threads_on rows)

-- there is no thread
abbrev pub is_empty : List Thread → Bool
is_empty [] = true
is_empty (t ∷ threads) = false

-- the id of the next thread on slot s, if no thread holds it
abbrev pub new_id_on : ℕ → ℕ → SeenSlot → List ℕ
new_id_on slots s row = if is_empty row.here then (1 + s + slots * row.made) ∷ [] else []

-- the ids that a new thread can get, where these are the slots from slot s on
abbrev pub new_ids_from : ℕ → ℕ → List SeenSlot → List ℕ
new_ids_from slots s [] = []
new_ids_from slots s (row ∷ rows) = new_id_on slots s row ++ new_ids_from slots (s + 1) rows

-- what the thread with an id sees of the others: the threads on these slots, and the other processes; and whether the time of a wait may expire
unfoldable pub environment_in : Bool → ℕ → Family → List SeenSlot → ℕ → Environment
environment_in timeouts slots family rows tid = record {
  named = λ id. thread_with slots id rows;
  another_joins = λ id. is_joined_in id rows;
  new_ids = new_ids_from slots 0 rows;
  waiters = λ c. waiters_among c (threads_on rows);
  is_last = is_last_in tid rows;
  family = family;
  timeouts = timeouts;
}

-- ---- one thread

-- the choices of a thread of a process, which sees these other processes
abbrev pub choices_in : Script → Bool → ℕ → Family → SeenProcess → Thread → List Alt
choices_in script timeouts slots family p t = choices_at (body_at script t.frames) p.shared t (environment_in timeouts slots family p.slots t.id) (next_of script t.frames) t.status

-- what a thread of a process does by a choice, with this limit on the passes over destructors
abbrev pub transition_in : Script → Bool → ℕ → ℕ → Family → SeenProcess → Thread → Alt → Transition
transition_in script timeouts slots passes family p t choice = acts_or choice t.status (transition_at passes (body_at script t.frames) p.shared t (environment_in timeouts slots family p.slots t.id) choice (next_of script t.frames) t.status)

-- ---- transitions

-- the transition of a thread by an entry, if its choice is offered
abbrev pub if_offered_in : Script → Bool → ℕ → ℕ → Family → SeenProcess → Entry → Thread → Option Transition
if_offered_in script timeouts slots passes family p e t = if offers (choices_in script timeouts slots family p t) e.alt then Some (transition_in script timeouts slots passes family p t e.alt) else None

-- the transition that an entry takes
abbrev pub seen_transition : Script → Config → Seen → Entry → Option Transition
seen_transition script config v e = option_and_then (λ p. option_and_then (if_offered_in script (has_timeouts config.format) config.slots config.passes (family_in v p.pid) p e) (thread_with config.slots e.tid p.slots)) (find (is_live_seen e.pid) v.processes)

-- ---- the scheduler

-- a thread of a process has a choice
abbrev pub is_ready_in : Script → Bool → ℕ → Family → SeenProcess → Thread → Bool
is_ready_in script timeouts slots family p t = is_enabled (choices_in script timeouts slots family p t)

-- the threads of a process that are ready; a process that has ended has none
abbrev pub ready_in : Script → Bool → ℕ → Family → SeenProcess → List Thread
ready_in script timeouts slots family p = if is_some p.ended then [] else filter (is_ready_in script timeouts slots family p) (threads_on p.slots)

-- a thread as a candidate
abbrev pub candidate_in : Script → Bool → ℕ → Family → SeenProcess → Thread → Candidate
candidate_in script timeouts slots family p t = record { pid = p.pid; tid = t.id; choices = choices_in script timeouts slots family p t }

-- the threads of a process that are ready, as candidates
abbrev pub seen_candidates_of : Script → Config → Family → SeenProcess → List Candidate
seen_candidates_of script config family p = map (candidate_in script (has_timeouts config.format) config.slots family p) (ready_in script (has_timeouts config.format) config.slots family p)

-- the threads that are ready
unfoldable pub seen_candidates : Script → Config → Seen → List Candidate
seen_candidates script config v = flat_map (λ p. seen_candidates_of script config (family_in v p.pid) p) v.processes

-- the entry that a worker's two numbers choose, if the run was not stopped
abbrev pub seen_chosen : Script → Config → Seen → (worker a b : ℕ) → Option Entry
seen_chosen script config v worker a b = if is_none v.stop then option_and_then (entry_for worker b) (item_at (seen_candidates script config v) a) else None

-- ---- the verdict

-- a process has not ended, and one of its threads is ready
abbrev pub has_ready_in : Script → Bool → ℕ → Family → SeenProcess → Bool
has_ready_in script timeouts slots family p = not (is_some p.ended) && list_any (is_ready_in script timeouts slots family p) (threads_on p.slots)

-- the verdict of a run with n entries, by its stop
abbrev pub seen_verdict_by : Option Why → Script → Config → Seen → ℕ → Verdict
seen_verdict_by (Some why) script config v n = Undefined why
seen_verdict_by None script config v n =
    if list_all (λ p. is_some p.ended) v.processes then Complete
    else if not (list_any (λ p. has_ready_in script (has_timeouts config.format) config.slots (family_in v p.pid) p) v.processes) then Deadlock
    else if nat_eq n config.budget then Budget
    else Open

-- the verdict of a run with n entries
unfoldable pub seen_verdict : Script → Config → Seen → ℕ → Verdict
seen_verdict script config v n = seen_verdict_by v.stop script config v n
