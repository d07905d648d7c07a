-- The steps of a process: what a process needs, what an entry takes of it, and what is kept of it after a change.
use Rattle.std.specs.Prelude.{◌≡◌, ℕ, Bool, false, ◌&&◌, List, [], ◌∷◌, length, if◌then◌else◌, Option, Some, None, is_some, option_and_then}
use Rattle.pct_model.specs.declared.script.Script.{Script}
use Rattle.pct_model.specs.declared.schedule.Config.{Config}
use Rattle.pct_model.specs.declared.schedule.Entry.{Entry}
use Rattle.pct_model.specs.declared.transition.ProcessAction.{ProcessAction}
use Rattle.pct_model.specs.declared.transition.Transition.{Transition}
use Rattle.pct_model.specs.Formats.{has_timeouts}
use Rattle.pct_model.specs.OtherProcesses.{Family}
use Rattle.pct_model.specs.World.{Thread}
use Rattle.pct_engine_laws.specs.Seen.{SeenSlot, SeenProcess, is_live_seen, threads_on, process_seen, own_kept, other_kept}
use Rattle.pct_engine_laws.specs.SeenSteps.{thread_with, if_offered_in}
use Rattle.pct_process.specs.ProcessViews.{ProcessData, thread_on_slot}
use Rattle.pct_step_context.specs.Numbers.{NewNumbersFit}
use Rattle.pct_transitions.specs.ProcessSteps.{ForksHaveRoom}
use Rattle.pct_actions.specs.ProcessChanges.{AreOnSlots}

-- ---- what a process needs

-- the data of a process
abbrev pub data_in : SeenProcess → ProcessData
data_in p = record { slots = p.slots; shared = p.shared }

-- a process has this number of slots, the threads on each hold it, the numbers that new threads and keys can get fit 32 bits, and a
-- thread that is in fork has room for the frame of a fork handler
pub record CanStep (slots : ℕ) (p : SeenProcess) : Type 0 where
  pub all : length p.slots ≡ slots
  pub on_slots : AreOnSlots p.slots
  pub numbers : NewNumbersFit (data_in p)
  pub forks : ForksHaveRoom p.slots

-- the threads on each slot hold it, and the one with this id is among them
pub record HasThread (tid : ℕ) (slots : List SeenSlot) : Type 0 where
  pub on_slots : AreOnSlots slots
  pub thread : Thread
  pub here : thread_with (length slots) tid slots ≡ Some thread

-- the slot of the only thread of a process that has not ended
pub record IsOnlySlot (p : SeenProcess) (slot : ℕ) : Type 0 where
  pub live : is_some p.ended ≡ false
  pub thread : Thread
  pub held : thread_on_slot p.slots slot ≡ Some thread
  pub single : threads_on p.slots ≡ thread ∷ []

-- ---- transitions

-- the transition that an entry takes in the process that it names, which sees these other processes, if it takes one
abbrev pub taken_in : Script → Config → Family → SeenProcess → Entry → Option Transition
taken_in script config family p e = option_and_then (if_offered_in script (has_timeouts config.format) config.slots config.passes family p e) (thread_with config.slots e.tid p.slots)

-- a transition, if there is one
abbrev pub some_if : Bool → Transition → Option Transition
some_if taken o = if taken then Some o else None

-- the process, which sees these other processes, takes the entry
abbrev pub takes_in : Script → Config → Family → Entry → SeenProcess → Bool
takes_in script config family e p = is_live_seen e.pid p && is_some (taken_in script config family p e)

-- ---- changes

-- a process after the step of the entry that was chosen for a thread of it, if one was
abbrev pub process_after_entry : ℕ → Transition → Option Entry → SeenProcess → SeenProcess
process_after_entry slots o None p = p
process_after_entry slots o (Some e) p = process_seen slots e.tid o p

-- what is kept of a process after a change by a thread of process pid: it may be that process, or another one
abbrev pub process_changed : ℕ → ProcessAction → SeenProcess → List SeenProcess
process_changed pid c p = if is_live_seen pid p then own_kept (Some c) p else other_kept pid (Some c) p
