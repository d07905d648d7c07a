-- The run of a script under a seed, as an engine has it.
use Rattle.std.specs.Prelude.{◌≡◌, ℕ}
use Rattle.pct_model.specs.declared.schedule.Config.{Config}
use Rattle.pct_model.specs.declared.script.Script.{Script}
use Rattle.pct_engine.specs.EngineStates.{EngineValue}
use Rattle.pct_scheduled_run.specs.SeedSchedules.{SeedSchedule}

-- the engine has made the run of a script under a seed: its schedule is that of the seed, for one worker, which is not out of turns before the run is out of
-- budget
pub record IsSeededRun (script : Script) (config : Config) (seed : ℕ) (engine : EngineValue) : Type 0 where
  pub script_is : engine.script ≡ script
  pub config_is : engine.config ≡ config
  pub scheduled : SeedSchedule script config seed config.budget engine.history
