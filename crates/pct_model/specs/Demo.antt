-- The command `demo`: its number, the run of the script that is generated from it, and the summary of that run.
use Rattle.std.specs.Prelude.{◌≡◌, ℕ, ◌<◌, if◌then◌else◌, List, [], ◌∷◌, length, take, Option, Some, None, bytes_eq, decimal, slice_get}
use Rattle.std.specs.Option.{option_map_or}
use Rattle.pct_model.specs.declared.keyword.Keyword.TheVariants as keyword
use Rattle.pct_model.specs.declared.script.Script.{Script}
use Rattle.pct_model.specs.declared.schedule.Config.{Config}
use Rattle.pct_model.specs.declared.schedule.Entry.{Entry}
use Rattle.pct_model.specs.declared.event.Event.{Event}
use Rattle.pct_model.specs.declared.event.What.{What}
use Rattle.pct_model.specs.declared.event.What.TheVariants as what
use Rattle.pct_model.specs.declared.stop.Verdict.{Verdict}
use Rattle.pct_model.specs.declared.stop.Verdict.TheVariants as verdict
use Rattle.pct_model.specs.Keywords.{keyword_text, text_of}
use Rattle.pct_model.specs.LineParsing.{numeral}
use Rattle.pct_model.specs.GeneratedScript.{threads_of, rounds_of}
use Rattle.pct_model.specs.Chosen.{chosen}
use Rattle.pct_model.specs.Run.{Run, run, verdict_of}
use Rattle.pct_model.specs.Report.{verdict_line}

-- ---- the arguments

-- the number in the arguments, if they are `demo` and a number of 1 to 10 digits with at most 32 bits; leading zeros are allowed
unfoldable pub demo_number : List (List ℕ) → Option ℕ
demo_number [] = None
demo_number (command ∷ []) = None
demo_number (command ∷ text ∷ []) = if bytes_eq command (keyword_text keyword.Demo) then numeral text else None
demo_number (command ∷ text ∷ next ∷ words) = None

-- ---- the run

-- worker 0 makes each entry, and the number of the entries before it chooses both the thread and one of its choices, until
-- the verdict is not `Open`
pub record IsCountedRun (script : Script) (config : Config) (entries : List Entry) (after : Run) : Type 0 where
  pub is_run : run script config entries ≡ Some after
  pub is_closed : ¬ (verdict_of script config after.world (length entries) ≡ verdict.Open)
  pub choices :
      (k : ℕ) (before : Run) → k < length entries → run script config (take k entries) ≡ Some before
      → slice_get entries k ≡ chosen script config before.world 0 k k

-- ---- the summary

-- the value of an event `emit`
abbrev pub emitted : What → Option ℕ
emitted (what.Emit value) = Some value
emitted _ = None

-- the value of the first event `emit` of a list, or 0 if it has none
unfoldable pub total_of : List Event → ℕ
total_of [] = 0
total_of (e ∷ events) = option_map_or (λ value. value) (emitted e.what) (total_of events)

-- the lines of a summary: `demo N`, `threads W`, `rounds R`, `steps S`, `total T`, and the verdict
unfoldable pub summary_lines : (number steps total : ℕ) → Verdict → List (List (List ℕ))
summary_lines number steps total v =
    (keyword_text keyword.Demo ∷ decimal number ∷ [])
    ∷ (keyword_text keyword.Threads ∷ decimal (threads_of number) ∷ [])
    ∷ (keyword_text keyword.Rounds ∷ decimal (rounds_of number) ∷ [])
    ∷ (keyword_text keyword.Steps ∷ decimal steps ∷ [])
    ∷ (keyword_text keyword.Total ∷ decimal total ∷ [])
    ∷ verdict_line v
    ∷ []

-- the summary of a run of the script of a number: the events of a run are newest first, so its total is that of the last `emit`
abbrev pub summary_of : ℕ → Script → Config → List Entry → Run → List ℕ
summary_of number script config entries after =
    text_of (summary_lines number (length entries) (total_of after.events) (verdict_of script config after.world (length entries)))
