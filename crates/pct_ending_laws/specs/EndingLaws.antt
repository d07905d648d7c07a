-- What holds of every run, by any schedule.
use Rattle.std.specs.Prelude.{◌≡◌, List, Some}
use Rattle.pct_model.specs.declared.script.Script.{Script}
use Rattle.pct_model.specs.declared.schedule.Config.{Config}
use Rattle.pct_model.specs.declared.schedule.Entry.{Entry}
use Rattle.pct_laws.specs.Kept.{Kept}
use Rattle.pct_laws.specs.Laws.{Laws}
use Rattle.pct_model.specs.Run.{Run, run}

-- every run keeps the laws
abbrev pub RunsKeepLaws : Type 0
RunsKeepLaws = (script : Script) (config : Config) (entries : List Entry) (r : Run) → run script config entries ≡ Some r → Laws script config entries r

-- every run ends in a state that keeps the invariant
abbrev pub StatesAreKept : Type 0
StatesAreKept = (script : Script) (config : Config) (entries : List Entry) (r : Run) → run script config entries ≡ Some r → Kept script config r.world r.events
