-- How many processes a run makes.
use Rattle.std.specs.Prelude.{◌≡◌, ◌+◌, ◌≤◌, List, length, Some}
use Rattle.pct_model.specs.declared.script.Script.{Script}
use Rattle.pct_model.specs.declared.schedule.Config.{Config}
use Rattle.pct_model.specs.declared.schedule.Entry.{Entry}
use Rattle.pct_model.specs.Run.{Run, run}
use Rattle.pct_engine_laws.specs.Seen.{seen}

-- a run makes at most one process for each entry, beside the first one
abbrev pub FewProcessesMade : Type 0
FewProcessesMade = (script : Script) (config : Config) (entries : List Entry) (after : Run) → run script config entries ≡ Some after → (seen config.slots after.world).made ≤ 1 + length entries
