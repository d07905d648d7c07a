-- Runs whose entries the number of the entries before them chooses.
use Rattle.std.specs.Prelude.{◌≡◌, ℕ, ◌+◌, ◌%◌, ◌^◌}
use Rattle.pct_model.specs.declared.script.Script.{Script}
use Rattle.pct_model.specs.declared.schedule.Config.{Config}
use Rattle.pct_model.specs.Demo.{IsCountedRun}
use Rattle.pct_model.specs.Run.{Run}
use Rattle.pct_engine.specs.EngineStates.{EngineValue}

-- the numbers from one on, with 32 bits, each twice
abbrev pub counts : ℕ → ℕ → ℕ × ℕ
counts first turn = ((first + turn) % 2 ^ 32, (first + turn) % 2 ^ 32)

-- the engine has made such a run to its end
pub record IsCountedEngine (script : Script) (config : Config) (engine : EngineValue) : Type 0 where
  pub engine_is : engine ≡ record { script = script; config = config; history = engine.history }
  pub after : Run
  pub counted : IsCountedRun script config engine.history after
