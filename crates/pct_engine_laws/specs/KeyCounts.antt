-- How many keys of thread-specific data a run makes.
use Rattle.std.specs.Prelude.{◌≡◌, ℕ, ◌≤◌, List, length, Some, All}
use Rattle.pct_model.specs.declared.script.Script.{Script}
use Rattle.pct_model.specs.declared.schedule.Config.{Config}
use Rattle.pct_model.specs.declared.schedule.Entry.{Entry}
use Rattle.pct_model.specs.Keys.{KeyPlace}
use Rattle.pct_model.specs.Run.{Run, run}
use Rattle.pct_engine_laws.specs.Seen.{SeenProcess, seen}

-- at most n keys were ever made on each of these places
abbrev pub KeysAtMost : ℕ → List KeyPlace → Type 0
KeysAtMost n keys = All (λ (p : KeyPlace). p.made ≤ n) keys

-- on each place, a run makes at most one key for each entry
abbrev pub FewKeysMade : Type 0
FewKeysMade = (script : Script) (config : Config) (entries : List Entry) (after : Run) → run script config entries ≡ Some after → All (λ (p : SeenProcess). KeysAtMost (length entries) p.shared.keys) (seen config.slots after.world).processes
