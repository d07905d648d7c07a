-- The outcome of the program: the exit status, given by its code, and the bytes written, for given arguments and input.
use Rattle.std.specs.Prelude.{◌≡◌, ℕ, ◌<◌, ◌≤◌, Bool, true, false, ◌||◌, if◌then◌else◌, List, [], ◌∷◌, length, take, drop, Some, is_some, Ok, Err, bytes_eq, decimal}
use Rattle.pct_model.specs.declared.refusal.ParseWhy.{ParseWhy}
use Rattle.pct_model.specs.declared.refusal.ParseWhy.TheVariants as fault
use Rattle.pct_model.specs.declared.refusal.ScheduleWhy.{ScheduleWhy}
use Rattle.pct_model.specs.declared.refusal.ScheduleWhy.TheVariants as schedule_fault
use Rattle.pct_model.specs.declared.script.Script.{Script}
use Rattle.pct_model.specs.declared.run_options.RunOptions.{RunOptions}
use Rattle.pct_model.specs.declared.schedule.Config.{Config}
use Rattle.pct_model.specs.declared.schedule.Entry.{Entry}
use Rattle.pct_model.specs.declared.stop.Verdict.{Verdict}
use Rattle.pct_model.specs.declared.stop.Verdict.TheVariants as verdict
use Rattle.pct_model.specs.declared.keyword.Keyword.{Keyword}
use Rattle.pct_model.specs.declared.keyword.Keyword.TheVariants as keyword
use Rattle.pct_model.specs.declared.limits.TheConstants.{MAX_INPUT}
use Rattle.pct_model.specs.Keywords.{keyword_text, line_text}
use Rattle.pct_model.specs.Formats.{config_for}
use Rattle.pct_model.specs.Points.{points_text}
use Rattle.pct_model.specs.Checks.{FirstFault}
use Rattle.pct_model.specs.Spells.{Spells}
use Rattle.pct_model.specs.Schedule.{sched_of, replay_parts}
use Rattle.pct_model.specs.Run.{Run, run, first_illegal, verdict_of}
use Rattle.pct_model.specs.RunOptions.{run_options, default_config}
use Rattle.pct_model.specs.GeneratedScript.{generated_text}
use Rattle.pct_model.specs.Demo.{demo_number, IsCountedRun, summary_of}
use Rattle.pct_model.specs.Sample.{sample_number}
use Rattle.pct_model.specs.Canon.{canon}
use Rattle.pct_model.specs.Report.{report}

-- ---- arguments

-- the arguments are this word alone
unfoldable pub is_asked : Keyword → List (List ℕ) → Bool
is_asked asked [] = false
is_asked asked (w ∷ []) = bytes_eq w (keyword_text asked)
is_asked asked (w ∷ next ∷ words) = false

-- the arguments are `run` and options of it
abbrev pub asks_run : List (List ℕ) → Bool
asks_run words = is_some (run_options words)

-- the arguments are `sample` and a number of seeds
abbrev pub asks_sample : List (List ℕ) → Bool
asks_sample words = is_some (sample_number words)

-- the arguments of a command that reads the input: `run` with its options, `sample` with a number of seeds, or `replay` or `check` alone
abbrev pub needs_input : List (List ℕ) → Bool
needs_input words = asks_run words || is_asked keyword.Replay words || is_asked keyword.Check words || asks_sample words

-- the arguments are `demo` and a number
abbrev pub asks_demo : List (List ℕ) → Bool
asks_demo words = is_some (demo_number words)

-- the arguments that are accepted: those, or `points` alone, or `demo` and a number
abbrev pub is_accepted : List (List ℕ) → Bool
is_accepted words = needs_input words || is_asked keyword.Points words || asks_demo words

-- the script in the input: the part before the line `%%` for `replay`, the whole input for `run`, `check` and `sample`
unfoldable pub script_part : List (List ℕ) → List ℕ → List ℕ
script_part words input = if is_asked keyword.Replay words then take (replay_parts input).0 input else input

-- the schedule in the input of `replay`: the part after the line `%%`, empty without such a line
unfoldable pub schedule_part : List ℕ → List ℕ
schedule_part input = drop (replay_parts input).1 input

-- ---- refusals

-- the word for each reason to refuse a script
abbrev pub name_of_fault : ParseWhy → Keyword
name_of_fault fault.NotAscii = keyword.NotAscii
name_of_fault fault.UnknownWord = keyword.UnknownWord
name_of_fault fault.WordCount = keyword.WordCount
name_of_fault fault.BadNumber = keyword.BadNumber
name_of_fault fault.BadName = keyword.BadName
name_of_fault fault.Misplaced = keyword.Misplaced
name_of_fault fault.StrayEnd = keyword.StrayEnd
name_of_fault fault.PopUnmatched = keyword.PopUnmatched
name_of_fault fault.Unclosed = keyword.Unclosed
name_of_fault fault.TooMany = keyword.TooMany
name_of_fault fault.NameTwice = keyword.NameTwice
name_of_fault fault.UnknownName = keyword.UnknownName
name_of_fault fault.ReturnInPush = keyword.ReturnInPush
name_of_fault fault.NotPlain = keyword.NotPlain
name_of_fault fault.NoMain = keyword.NoMain

-- the word for each reason to refuse a schedule
abbrev pub name_of_schedule_fault : ScheduleWhy → Keyword
name_of_schedule_fault schedule_fault.BadHeader = keyword.BadHeader
name_of_schedule_fault schedule_fault.BadEntry = keyword.BadEntry
name_of_schedule_fault schedule_fault.TooMany = keyword.TooMany
name_of_schedule_fault schedule_fault.BadEnd = keyword.BadEnd
name_of_schedule_fault schedule_fault.Trailing = keyword.Trailing

-- `refused words`
unfoldable pub refused_words : List (List ℕ)
refused_words = keyword_text keyword.Refused ∷ keyword_text keyword.Words ∷ []

-- `refused input too_long`
unfoldable pub refused_input : List (List ℕ)
refused_input = keyword_text keyword.Refused ∷ keyword_text keyword.Input ∷ keyword_text keyword.TooLong ∷ []

-- `refused script LINE REASON`
unfoldable pub refused_script : ℕ → ParseWhy → List (List ℕ)
refused_script line why = keyword_text keyword.Refused ∷ keyword_text keyword.Script ∷ decimal line ∷ keyword_text (name_of_fault why) ∷ []

-- `refused schedule LINE REASON`
unfoldable pub refused_schedule : ℕ → ScheduleWhy → List (List ℕ)
refused_schedule line why = keyword_text keyword.Refused ∷ keyword_text keyword.Schedule ∷ decimal line ∷ keyword_text (name_of_schedule_fault why) ∷ []

-- `refused entry NUMBER`
unfoldable pub refused_entry : ℕ → List (List ℕ)
refused_entry entry_number = keyword_text keyword.Refused ∷ keyword_text keyword.Entry ∷ decimal entry_number ∷ []

-- ---- outcomes

-- the exit code of each verdict
unfoldable pub code_of_verdict : Verdict → ℕ
code_of_verdict verdict.Complete = 0
code_of_verdict verdict.Deadlock = 1
code_of_verdict verdict.Budget = 2
code_of_verdict (verdict.Undefined why) = 3
code_of_verdict verdict.Open = 4

-- arguments that are not accepted
pub record RefusesWords (words : List (List ℕ)) (code : ℕ) (text : List ℕ) : Type 0 where
  pub refused : is_accepted words ≡ false
  pub code_is : code ≡ 5
  pub text_is : text ≡ line_text refused_words

-- an input above the limit
pub record RefusesInput (words : List (List ℕ)) (input : List ℕ) (code : ℕ) (text : List ℕ) : Type 0 where
  pub accepted : needs_input words ≡ true
  pub too_long : MAX_INPUT < length input
  pub code_is : code ≡ 8
  pub text_is : text ≡ line_text refused_input

-- a script with a fault: the first one is reported
pub record RefusesScript (words : List (List ℕ)) (input : List ℕ) (code : ℕ) (text : List ℕ) : Type 0 where
  pub accepted : needs_input words ≡ true
  pub fits : length input ≤ MAX_INPUT
  pub line : ℕ
  pub why : ParseWhy
  pub first : FirstFault (script_part words input) line why
  pub code_is : code ≡ 6
  pub text_is : text ≡ line_text (refused_script line why)

-- a schedule with a fault: the first one is reported
pub record RefusesSchedule (words : List (List ℕ)) (input : List ℕ) (code : ℕ) (text : List ℕ) : Type 0 where
  pub accepted : is_asked keyword.Replay words ≡ true
  pub fits : length input ≤ MAX_INPUT
  pub script : Script
  pub spelled : Spells (script_part words input) script
  pub line : ℕ
  pub why : ScheduleWhy
  pub first : sched_of (schedule_part input) ≡ Err (line, why)
  pub code_is : code ≡ 7
  pub text_is : text ≡ line_text (refused_schedule line why)

-- a schedule with an entry that is not legal at its turn: the first one is reported
pub record RefusesEntry (words : List (List ℕ)) (input : List ℕ) (code : ℕ) (text : List ℕ) : Type 0 where
  pub accepted : is_asked keyword.Replay words ≡ true
  pub fits : length input ≤ MAX_INPUT
  pub script : Script
  pub spelled : Spells (script_part words input) script
  pub config : Config
  pub entries : List Entry
  pub read : sched_of (schedule_part input) ≡ Ok (config, entries)
  pub entry_number : ℕ
  pub illegal : first_illegal script config entries ≡ Some entry_number
  pub code_is : code ≡ 7
  pub text_is : text ≡ line_text (refused_entry entry_number)

-- `replay` with a legal schedule: the code is that of the verdict, the text is the report
pub record Replays (words : List (List ℕ)) (input : List ℕ) (code : ℕ) (text : List ℕ) : Type 0 where
  pub accepted : is_asked keyword.Replay words ≡ true
  pub fits : length input ≤ MAX_INPUT
  pub script : Script
  pub spelled : Spells (script_part words input) script
  pub config : Config
  pub entries : List Entry
  pub read : sched_of (schedule_part input) ≡ Ok (config, entries)
  pub after : Run
  pub is_run : run script config entries ≡ Some after
  pub code_is : code ≡ code_of_verdict (verdict_of script config after.world (length entries))
  pub text_is : report script config entries ≡ Some text

-- `run` with these options and the format of the script, under this schedule: the code is that of the verdict, the text is the report
pub record Runs (words : List (List ℕ)) (input : List ℕ) (schedule : List Entry) (code : ℕ) (text : List ℕ) : Type 0 where
  pub options : RunOptions
  pub accepted : run_options words ≡ Some options
  pub fits : length input ≤ MAX_INPUT
  pub script : Script
  pub spelled : Spells input script
  pub after : Run
  pub is_run : run script (config_for script options.config) schedule ≡ Some after
  pub code_is : code ≡ code_of_verdict (verdict_of script (config_for script options.config) after.world (length schedule))
  pub text_is : report script (config_for script options.config) schedule ≡ Some text

-- `check`: the text is the canonical text of the script
pub record Checks (words : List (List ℕ)) (input : List ℕ) (code : ℕ) (text : List ℕ) : Type 0 where
  pub accepted : is_asked keyword.Check words ≡ true
  pub fits : length input ≤ MAX_INPUT
  pub script : Script
  pub spelled : Spells input script
  pub code_is : code ≡ 0
  pub text_is : text ≡ canon script

-- `points`: the text is the table of cancellation points, for any input
pub record WritesPoints (words : List (List ℕ)) (code : ℕ) (text : List ℕ) : Type 0 where
  pub accepted : is_asked keyword.Points words ≡ true
  pub code_is : code ≡ 0
  pub text_is : text ≡ points_text

-- `demo` with a number: the text is the summary of the run of the script of that number, for any input
pub record Demonstrates (words : List (List ℕ)) (code : ℕ) (text : List ℕ) : Type 0 where
  pub number : ℕ
  pub accepted : demo_number words ≡ Some number
  pub script : Script
  pub generated : canon script ≡ generated_text number
  pub entries : List Entry
  pub after : Run
  pub is_run : IsCountedRun script default_config entries after
  pub code_is : code ≡ 0
  pub text_is : text ≡ summary_of number script default_config entries after

-- the outcome for these arguments and this input, under this schedule. The cases are disjoint, and in the order in
-- which they are decided; only `run` depends on the schedule. What `sample` writes of a script without a fault is what is counted of many
-- runs, and is defined beside that.
pub data Outcome (words : List (List ℕ)) (input : List ℕ) (schedule : List Entry) (code : ℕ) (text : List ℕ) : Type 0 where
  WordsRefused : RefusesWords words code text → Outcome words input schedule code text
  InputRefused : RefusesInput words input code text → Outcome words input schedule code text
  ScriptRefused : RefusesScript words input code text → Outcome words input schedule code text
  ScheduleRefused : RefusesSchedule words input code text → Outcome words input schedule code text
  EntryRefused : RefusesEntry words input code text → Outcome words input schedule code text
  Replayed : Replays words input code text → Outcome words input schedule code text
  Ran : Runs words input schedule code text → Outcome words input schedule code text
  Checked : Checks words input code text → Outcome words input schedule code text
  PointsWritten : WritesPoints words code text → Outcome words input schedule code text
  Demonstrated : Demonstrates words code text → Outcome words input schedule code text
