-- Runs whose entries are given before they are made.
use Rattle.std.specs.Prelude.{◌≡◌, true, List, ◌++◌, is_some, take}
use Rattle.pct_model.specs.declared.schedule.Entry.{Entry}
use Rattle.pct_model.specs.Run.{run}
use Rattle.pct_engine.specs.EngineStates.{EngineValue}

-- the engine of the entries so far, and the entries that are planned
pub record PlannedValue : Type 0 where
  pub engine : EngineValue
  pub planned : List Entry

-- the history with the next planned entry is a run
abbrev pub IsNextLegal : PlannedValue → Type 0
IsNextLegal r = is_some (run r.engine.script r.engine.config (r.engine.history ++ take 1 r.planned)) ≡ true
