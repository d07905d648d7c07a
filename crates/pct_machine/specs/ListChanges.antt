-- The changes of the list of processes by a transition.
use Rattle.std.specs.Prelude.{◌≡◌, ℕ, suc, ◌+◌, ◌<◌, if◌then◌else◌, List, [], ◌∷◌, ◌++◌, map, length, Option, Some, None, find, option_and_then}
use Rattle.std.specs.List.{flat_map}
use Rattle.pct_model.specs.declared.limits.TheConstants.{MAX_PROCESSES}
use Rattle.pct_model.specs.declared.schedule.Config.{Config}
use Rattle.pct_model.specs.declared.schedule.Entry.{Entry}
use Rattle.pct_model.specs.declared.script.Script.{Script}
use Rattle.pct_model.specs.declared.transition.ProcessAction.{ProcessAction}
use Rattle.pct_model.specs.declared.transition.ProcessAction.TheVariants as process_action
use Rattle.pct_model.specs.declared.transition.Transition.{Transition}
use Rattle.pct_engine_laws.specs.Seen.{Seen, SeenProcess, process_seen, is_live_seen, child_seen}
use Rattle.pct_place.specs.ProcessSteps.{HasThread, process_changed, taken_in}
use Rattle.pct_machine.specs.Places.{ProcessList, families}

-- ---- the step of a thread

-- the transition that an entry takes in its process, if it takes one
abbrev pub taken_among : Script → Config → ProcessList → Entry → Option Transition
taken_among script config list e = option_and_then (λ p. taken_in script config (families list p.pid) p e) (find (is_live_seen e.pid) list.processes)

-- a process after the transition of a thread of process pid, but for the changes of the list
abbrev pub process_moved : (slots pid tid : ℕ) → Transition → SeenProcess → SeenProcess
process_moved slots pid tid o p = if is_live_seen pid p then process_seen slots tid o p else p

-- all processes
abbrev pub list_moved : (slots pid tid : ℕ) → Transition → ProcessList → ProcessList
list_moved slots pid tid o list = record list { processes = map (process_moved slots pid tid o) list.processes }

-- all processes after the step of the entry that was chosen, if one was
abbrev pub list_after_entry : ℕ → Transition → Option Entry → ProcessList → ProcessList
list_after_entry slots o None list = list
list_after_entry slots o (Some e) list = list_moved slots e.pid e.tid o list

-- ---- the changes of the list

-- the child with an id of process pid, which inherits the thread with an id
abbrev pub child_with : (pid tid child : ℕ) → List SeenProcess → List SeenProcess
child_with pid tid child processes = flat_map (λ p. if is_live_seen pid p then child_seen tid child p ∷ [] else []) processes

-- the processes after this child was made
abbrev pub list_with_child : (pid tid child : ℕ) → ProcessList → ProcessList
list_with_child pid tid child list =
    let children : List SeenProcess = child_with pid tid child list.processes in
    record { processes = list.processes ++ children; made = list.made + length children }

-- the processes after a change by the thread with an id of process pid, if there is one
abbrev pub list_changed : ℕ → ℕ → Option ProcessAction → ProcessList → ProcessList
list_changed pid tid None list = list
list_changed pid tid (Some (process_action.Make child)) list = list_with_child pid tid child list
list_changed pid tid (Some c) list = record list { processes = flat_map (process_changed pid c) list.processes }

-- the processes of a run
abbrev pub list_in : Seen → ProcessList
list_in v = record { processes = v.processes; made = v.made }

-- a run after what a transition of the thread with an id of process pid changes beside the data of its process
abbrev pub seen_finished : (pid tid : ℕ) → Transition → Seen → Seen
seen_finished pid tid o v =
    let list : ProcessList = list_changed pid tid o.process (list_in v) in
    record { processes = list.processes; made = list.made; stop = o.stop }

-- ---- what they need

-- a child with this id can be made: it is the next one, there is room for it, and the thread with an id of process pid holds its slot
pub record ChildFits (pid tid child : ℕ) (list : ProcessList) : Type 0 where
  pub next : child ≡ suc list.made
  pub room : length list.processes < MAX_PROCESSES
  pub parent : SeenProcess
  pub live : find (is_live_seen pid) list.processes ≡ Some parent
  pub thread : HasThread tid parent.slots

-- the change can be made
abbrev pub ChangeFits : ℕ → ℕ → ProcessAction → ProcessList → Type 0
ChangeFits pid tid (process_action.Make child) list = ChildFits pid tid child list
ChangeFits pid tid _ list = Unit {0}
