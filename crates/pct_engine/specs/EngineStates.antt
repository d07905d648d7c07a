-- What an engine represents: the run of its script under its history.
use Rattle.std.specs.Prelude.{◌≡◌, ℕ, true, List, [], ◌∷◌, ◌++◌, find, length, reverse, Option, Some, None, is_some, IsSomeAnd}
use Rattle.std.specs.Option.{option_map_or}
use Rattle.pct_model.specs.declared.script.Script.{Script}
use Rattle.pct_model.specs.declared.schedule.Config.{Config}
use Rattle.pct_model.specs.declared.schedule.Entry.{Entry}
use Rattle.pct_model.specs.declared.stop.Verdict.TheVariants as verdict
use Rattle.pct_model.specs.declared.transition.NamedAction.{NamedAction}
use Rattle.pct_model.specs.declared.transition.NamedAction.TheVariants as named_action
use Rattle.pct_model.specs.Actions.{is_live_process}
use Rattle.pct_model.specs.Chosen.{chosen}
use Rattle.pct_model.specs.Environment.{waiters_among}
use Rattle.pct_model.specs.Step.{transition_of}
use Rattle.pct_model.specs.ThreadSlots.{by_slot}
use Rattle.pct_model.specs.World.{Process, World}
use Rattle.pct_laws.specs.Kept.{Kept}
use Rattle.pct_laws.specs.Laws.{Laws}
use Rattle.pct_model.specs.Run.{Run, run, verdict_of}
use Rattle.pct_stack_laws.specs.StackLaw.{StackLaw}
use Rattle.pct_engine_laws.specs.Seen.{Seen, seen}
use Rattle.pct_engine_laws.specs.RunLaws.{IsLegalWhileOpen}
use Rattle.pct_step_context.specs.Programs.{ProgramValue}
use Rattle.pct_engine.specs.Traces.{TraceValue}

-- the value of an engine: a script, a configuration, and the entries of the run so far
pub record EngineValue : Type 0 where
  pub script : Script
  pub config : Config
  pub history : List Entry

-- ---- what its parts are

-- the run of the recorded entries is defined, the events are those of the run, and the machine has what is kept of its state
pub record StandsFor (program : ProgramValue) (trace : TraceValue) (machine : Seen) : Type 0 where
  pub after : Run
  pub is_run : run program.script program.config trace.history ≡ Some after
  pub events_are : reverse trace.events ≡ after.events
  pub state_is : machine ≡ seen program.config.slots after.world
  pub budget_is : trace.budget ≡ program.config.budget

-- ---- what its calls promise

-- the run of an engine
abbrev pub IsRunOf : EngineValue → Run → Type 0
IsRunOf engine after = run engine.script engine.config engine.history ≡ Some after

-- the run of an engine keeps the laws of runs, and its state keeps the invariant
pub record KeepsLaws (engine : EngineValue) (after : Run) : Type 0 where
  pub laws : Laws engine.script engine.config engine.history after
  pub kept : Kept engine.script engine.config after.world after.events
  -- a stack slot is taken by one thread at a time, and is given back only when its thread has ended and was joined or is detached
  pub stacks : StackLaw engine.script engine.config engine.history

-- the history with one entry more is a run
abbrev pub IsRunWith : EngineValue → Entry → Type 0
IsRunWith engine e = is_some (run engine.script engine.config (engine.history ++ e ∷ [])) ≡ true

-- the verdict of the run is `Open`, and the entry is legal in the state after it
abbrev pub IsAllowed : EngineValue → Run → Entry → Type 0
IsAllowed engine after e = IsLegalWhileOpen engine.script engine.config engine.history after e

-- the answer to a worker: the entry of the scheduler, which is legal, while the verdict is `Open`; else none
pub record IsChoice (engine : EngineValue) (after : Run) (worker a b : ℕ) (answer : Option Entry) : Type 0 where
  pub scheduled : verdict_of engine.script engine.config after.world (length engine.history) ≡ verdict.Open → answer ≡ chosen engine.script engine.config after.world worker a b
  pub legal : verdict_of engine.script engine.config after.world (length engine.history) ≡ verdict.Open → IsSomeAnd answer (IsRunWith engine)
  pub closed : ¬ (verdict_of engine.script engine.config after.world (length engine.history) ≡ verdict.Open) → answer ≡ None

-- ---- what a step costs

-- the number of threads of a process that an action on threads unblocks by a broadcast: those that wait on its condition variable
abbrev pub woken_of : ℕ → Option NamedAction → Process → ℕ
woken_of slots (Some (named_action.WakeAll c)) p = length (waiters_among c (by_slot slots p.threads))
woken_of slots _ p = 0

-- the number of threads that the step of an entry unblocks by a broadcast
abbrev pub woken_by : Script → Config → World → Entry → ℕ
woken_by script config w e = option_map_or (λ o. option_map_or (woken_of config.slots o.named) (find (is_live_process e.pid) w.processes) 0) (transition_of script config w e) 0
