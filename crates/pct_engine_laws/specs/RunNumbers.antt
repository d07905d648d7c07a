-- The numbers in the entries of a run.
use Rattle.std.specs.Prelude.{◌≡◌, ℕ, ◌≤◌, List, Some, All}
use Rattle.pct_model.specs.declared.limits.TheConstants.{MAX_WORKER}
use Rattle.pct_model.specs.declared.script.Script.{Script}
use Rattle.pct_model.specs.declared.schedule.Alt.{Alt}
use Rattle.pct_model.specs.declared.schedule.Alt.TheVariants as alt
use Rattle.pct_model.specs.declared.schedule.Config.{Config}
use Rattle.pct_model.specs.declared.schedule.Entry.{Entry}
use Rattle.pct_model.specs.Run.{Run, run}

-- the number of a choice, if it has one, is at most a limit
abbrev pub IsChoiceWithin : ℕ → Alt → Type 0
IsChoiceWithin limit alt.Go = Unit {0}
IsChoiceWithin limit (alt.Act n) = n ≤ limit
IsChoiceWithin limit (alt.New n) = n ≤ limit
IsChoiceWithin limit (alt.Pick n) = n ≤ limit
IsChoiceWithin limit (alt.Dtor n) = n ≤ limit
IsChoiceWithin limit alt.Expire = Unit {0}

-- the worker of an entry is at most MAX_WORKER, and its other numbers are at most a limit
pub record IsEntryWithin (limit : ℕ) (e : Entry) : Type 0 where
  pub worker : e.worker ≤ MAX_WORKER
  pub pid : e.pid ≤ limit
  pub tid : e.tid ≤ limit
  pub choice : IsChoiceWithin limit e.alt

-- the entries of a run have numbers of 32 bits
abbrev pub RunNumbersFit : Type 0
RunNumbersFit = (script : Script) (config : Config) (entries : List Entry) (after : Run) → run script config entries ≡ Some after → All (IsEntryWithin 4294967295) entries
