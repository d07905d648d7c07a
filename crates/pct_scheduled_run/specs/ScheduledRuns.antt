-- Runs whose entries a worker chooses by two numbers for each turn, those of a scheduler.
use Rattle.std.specs.Prelude.{◌≡◌, ℕ, ◌+◌, ◌<◌, List, ◌++◌, length, take, slice_get, Some}
use Rattle.pct_model.specs.declared.script.Script.{Script}
use Rattle.pct_model.specs.declared.schedule.Config.{Config}
use Rattle.pct_model.specs.declared.schedule.Entry.{Entry}
use Rattle.pct_model.specs.declared.stop.Verdict.TheVariants as verdict
use Rattle.pct_model.specs.Chosen.{chosen}
use Rattle.pct_model.specs.Run.{Run, run, verdict_of}

-- the entry at a place is the one that a worker chooses by the two numbers of a turn, in the state to which the entries before it lead
abbrev pub IsChosenAt : (ℕ → ℕ × ℕ) → ℕ → Script → Config → List Entry → ℕ → ℕ → Type 0
IsChosenAt draws worker script config entries place turn =
    (before : Run) → run script config (take place entries) ≡ Some before
    → slice_get entries place ≡ chosen script config before.world worker (draws turn).0 (draws turn).1

-- each entry after the first ones is the one that the worker chooses, at a turn for each of them
abbrev pub AreChosenBy : (ℕ → ℕ × ℕ) → ℕ → Script → Config → ℕ → List Entry → Type 0
AreChosenBy draws worker script config first entries = (k : ℕ) → first + k < length entries → IsChosenAt draws worker script config entries (first + k) k

-- a run to its end: the verdict after its last entry is not `Open`
pub record IsWholeRun (script : Script) (config : Config) (entries : List Entry) : Type 0 where
  pub after : Run
  pub is_run : run script config entries ≡ Some after
  pub is_closed : ¬ (verdict_of script config after.world (length entries) ≡ verdict.Open)

-- a run to its end that begins with given entries, and whose other entries a worker chooses by the numbers of a scheduler
pub record IsContinuedBy (draws : ℕ → ℕ × ℕ) (worker : ℕ) (script : Script) (config : Config) (begun entries : List Entry) : Type 0 where
  pub whole : IsWholeRun script config entries
  pub rest : List Entry
  pub begins : entries ≡ begun ++ rest
  pub choices : AreChosenBy draws worker script config (length begun) entries
