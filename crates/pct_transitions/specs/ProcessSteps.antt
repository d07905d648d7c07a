-- The steps of the threads of a process, in words of the data of the process.
use Rattle.std.specs.Prelude.{◌≡◌, ℕ, ◌≤◌, Bool, true, List, length, Some, None}
use Rattle.pct_model.specs.declared.limits.TheConstants.{MAX_FRAMES}
use Rattle.pct_model.specs.declared.script.Script.{Script}
use Rattle.pct_model.specs.declared.schedule.Alt.{Alt}
use Rattle.pct_model.specs.declared.schedule.Config.{Config}
use Rattle.pct_model.specs.declared.transition.Transition.{Transition}
use Rattle.pct_model.specs.ChoiceTable.{offers}
use Rattle.pct_model.specs.Formats.{has_timeouts}
use Rattle.pct_model.specs.StatusKinds.{is_forking}
use Rattle.pct_model.specs.OtherProcesses.{Family}
use Rattle.pct_model.specs.World.{Thread}
use Rattle.pct_engine_laws.specs.Seen.{SeenSlot, SeenProcess}
use Rattle.pct_engine_laws.specs.SeenSteps.{choices_in, transition_in}
use Rattle.pct_process.specs.ProcessViews.{ProcessData, thread_on_slot}

-- a process with this data: what its threads do depends on its id, its parent and its end only by the other processes that they see
abbrev pub with_data : ProcessData → SeenProcess
with_data d = record { pid = 1; parent = 0; ended = None; slots = d.slots; shared = d.shared }

-- a thread that is in fork has room for the frame of a fork handler
abbrev pub ForksHaveRoom : List SeenSlot → Type 0
ForksHaveRoom slots = (k : ℕ) (t : Thread) → thread_on_slot slots k ≡ Some t → is_forking t.status ≡ true → length t.frames ≤ MAX_FRAMES

-- a choice of a thread, which sees these other processes, is offered or not, and if it is, the thread makes this transition
pub record Takes (script : Script) (config : Config) (family : Family) (d : ProcessData) (t : Thread) (choice : Alt) (offered : Bool) (o : Transition) : Type 0 where
  pub offered_is : offers (choices_in script (has_timeouts config.format) (length d.slots) family (with_data d) t) choice ≡ offered
  pub taken : offered ≡ true → o ≡ transition_in script (has_timeouts config.format) (length d.slots) config.passes family (with_data d) t choice
