-- What a step does to the processes, and to one other than that of its thread, for the laws that speak of steps.
use Rattle.std.specs.Prelude.{◌≡◌, ◌≢◌, ℕ, List, ◌∷◌, ◌++◌, Option, Some}
use Rattle.pct_model.specs.declared.schedule.Config.{Config}
use Rattle.pct_model.specs.declared.schedule.Entry.{Entry}
use Rattle.pct_model.specs.declared.script.Script.{Script}
use Rattle.pct_model.specs.Run.{Run, run}
use Rattle.pct_model.specs.Step.{legal_step}
use Rattle.pct_model.specs.World.{Process, made_process}
use Rattle.pct_laws.specs.ThreadSteps.{ThreadStep, IsThreadStep}

-- an entry makes a step, and process pid is another one than that of its thread: the one before the step, if it was made then, and the one
-- after the step
pub record IsOfOtherProcess (script : Script) (config : Config) (r : Run) (e : Entry) (s : ThreadStep) (pid : ℕ) (before : Option Process) (after : Process) : Type 0 where
  pub step : IsThreadStep script config r e s
  pub other : pid ≢ s.pid
  pub was : made_process pid r.world ≡ before
  pub is : made_process pid (legal_step script config r.world e step.legal).world ≡ Some after

-- the fact is true of each step of the run of a schedule, and of each other process
abbrev pub EachOtherProcess : Script → Config → List Entry → (ThreadStep → Option Process → Process → Type 0) → Type 0
EachOtherProcess script config entries Holds =
    (before after : List Entry) (e : Entry) (r : Run) (s : ThreadStep) (pid : ℕ) (p : Option Process) (q : Process)
    → before ++ e ∷ after ≡ entries → run script config before ≡ Some r → IsOfOtherProcess script config r e s pid p q → Holds s p q

-- the fact is true of each step of the run of a schedule, and of the processes before and after it
abbrev pub EachStepOfProcesses : Script → Config → List Entry → (ThreadStep → List Process → List Process → Type 0) → Type 0
EachStepOfProcesses script config entries Holds =
    (before after : List Entry) (e : Entry) (r : Run) (s : ThreadStep)
    → before ++ e ∷ after ≡ entries → run script config before ≡ Some r → (step : IsThreadStep script config r e s)
    → Holds s r.world.processes (legal_step script config r.world e step.legal).world.processes
