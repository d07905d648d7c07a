-- Replays: the runs of a script under given schedules.
use Rattle.std.specs.Prelude.{◌≡◌, ℕ, ◌-◌, List, take, Option, Some, None}
use Rattle.pct_model.specs.declared.script.Script.{Script}
use Rattle.pct_model.specs.declared.schedule.Config.{Config}
use Rattle.pct_model.specs.declared.schedule.Entry.{Entry}
use Rattle.pct_model.specs.Run.{first_illegal}
use Rattle.pct_engine.specs.EngineStates.{EngineValue}
use Rattle.pct_history.specs.declared.replay_fault.ReplayFault.{ReplayFault}
use Rattle.pct_history.specs.declared.replay_fault.ReplayFault.TheVariants as fault

-- why a schedule was not replayed: the first entry that is not legal, or memory ran out
abbrev pub StopsReplay : Script → Config → List Entry → ReplayFault → Type 0
StopsReplay script config entries (fault.NotLegal entry_number) = first_illegal script config entries ≡ Some entry_number
StopsReplay script config entries fault.NoMemory = Unit {0}

-- the entries of a schedule that are followed: those before the first one that is not legal
abbrev pub followed : Option ℕ → List Entry → List Entry
followed None entries = entries
followed (Some entry_number) entries = take (entry_number - 1) entries

-- an engine that has followed the entries of a schedule, and the number of the first one that is not legal
pub record Follows (script : Script) (config : Config) (entries : List Entry) (engine : EngineValue) (illegal : Option ℕ) : Type 0 where
  pub illegal_is : first_illegal script config entries ≡ illegal
  pub engine_is : engine ≡ record { script = script; config = config; history = followed illegal entries }
