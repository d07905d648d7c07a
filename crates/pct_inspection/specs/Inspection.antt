-- The outcome of the program that inspects runs: the exit status, given by its code, and the bytes written, for given arguments and
-- input.
use Rattle.std.specs.Prelude.{◌≡◌, ◌≢◌, ◌⊎◌, ℕ, ◌<◌, ◌≤◌, Bool, true, false, List, [], ◌∷◌, ◌++◌, length, slice_get, Contains, IsSomeAnd, Option, Some, None, Ok, Err, codes, decimal}
use Rattle.pct_model.specs.declared.refusal.ParseWhy.{ParseWhy}
use Rattle.pct_model.specs.declared.refusal.ScheduleWhy.{ScheduleWhy}
use Rattle.pct_model.specs.declared.script.Func.{Func}
use Rattle.pct_model.specs.declared.script.Script.{Script}
use Rattle.pct_model.specs.declared.statement.Stmt.{Stmt}
use Rattle.pct_model.specs.declared.schedule.Config.{Config}
use Rattle.pct_model.specs.declared.schedule.Entry.{Entry}
use Rattle.pct_model.specs.declared.keyword.Keyword.TheVariants as keyword
use Rattle.pct_model.specs.declared.limits.TheConstants.{MAX_INPUT}
use Rattle.pct_model.specs.Keywords.{keyword_text, line_text}
use Rattle.pct_model.specs.Checks.{FirstFault}
use Rattle.pct_model.specs.Formats.{format_of}
use Rattle.pct_model.specs.Spells.{Spells}
use Rattle.pct_model.specs.Schedule.{Schedule, sched_of}
use Rattle.pct_model.specs.Run.{Run, run, first_illegal, verdict_of}
use Rattle.pct_model.specs.Outcome.{code_of_verdict, refused_words, refused_input, refused_script, refused_schedule}
use Rattle.pct_model.specs.Report.{report}
use Rattle.pct_expect.specs.declared.rule.Rule.{Rule}
use Rattle.pct_expect.specs.declared.span.Span.{Span}
use Rattle.pct_expect.specs.Reading.{expects_in}
use Rattle.pct_report_reader.specs.Reading.{report_in}
use Rattle.pct_laws.specs.Kept.{Kept}
use Rattle.pct_laws.specs.Laws.{Laws}
use Rattle.pct_schedule.specs.Prefix.{prefix_of}
use Rattle.pct_script_lines.specs.StatementLines.{statement_lines, line_at, SpellsStatement}
use Rattle.pct_view_laws.specs.Listed.{ListedThread, listed_threads, AreLegalEntries, IsBlockedIfWaiting}
use Rattle.pct_view_laws.specs.TracedSteps.{IsTraceOf, steps_of}
use Rattle.pct_view_texts.specs.Choices.{choices_text}
use Rattle.pct_view_texts.specs.States.{states_text}
use Rattle.pct_view_texts.specs.Trace.{trace_text}
use Rattle.pct_history.specs.Replays.{followed}
use Rattle.pct_command.specs.declared.status.Status.{Status}
use Rattle.pct_command.specs.declared.status.Status.TheVariants as status
use Rattle.pct_command.specs.Status.{code_of}
use Rattle.pct_command.specs.SeedSchedule.{SeedContinuation}
use Rattle.pct_command.specs.Command.{Outside, WroteAll}
use Rattle.pct_inspection.specs.declared.words.Inspection.{Inspection}
use Rattle.pct_inspection.specs.declared.words.Inspection.TheVariants as inspection
use Rattle.pct_inspection.specs.declared.words.Form.{Form}
use Rattle.pct_inspection.specs.declared.words.Form.TheVariants as form
use Rattle.pct_inspection.specs.declared.words.View.TheVariants as view
use Rattle.pct_tallies.specs.declared.range_tally.PlacedTally.{PlacedTally}
use Rattle.pct_tallies.specs.declared.range_tally.RangeTally.{RangeTally}
use Rattle.pct_tallies.specs.declared.seeds.Seeds.{Seeds}
use Rattle.pct_tallies.specs.Readings.{tallies_in}
use Rattle.pct_tallies.specs.Totals.{IsTotalOf}
use Rattle.pct_inspection.specs.Inputs.{expectation_in, prefix_in, script_in}
use Rattle.pct_inspection.specs.JudgeOutcomes.{Judges, RefusesReport}
use Rattle.pct_inspection.specs.SurveyOutcomes.{RefusesExpectation, Surveys}
use Rattle.pct_inspection.specs.TallyOutcomes.{RefusesSum, RefusesTallies, Sums, Tallies}
use Rattle.pct_inspection.specs.Words.{inspection_asked, is_inspection}

-- ---- the input

-- what the prefix in an input with this script is parsed to: a configuration and entries, or a fault. An empty prefix has no entry, and the
-- default configuration with the format of the script
abbrev pub prefix_for : Script → List ℕ → Schedule
prefix_for script input = prefix_of (format_of script) (prefix_in input)

-- the words ask to follow a prefix
abbrev pub follows_prefix : Option Inspection → Bool
follows_prefix (Some (inspection.Continue seed)) = true
follows_prefix (Some (inspection.Show shown)) = true
follows_prefix (Some (inspection.Tally seeds)) = false
follows_prefix (Some inspection.Sum) = false
follows_prefix (Some (inspection.Survey seeds config)) = false
follows_prefix (Some inspection.Judge) = false
follows_prefix None = false

-- the text of the script that the words ask for something of: the part before the line `%%`, and with `tally` the whole input. None with `sum` and
-- `judge`
abbrev pub script_asked : Option Inspection → List ℕ → Option (List ℕ)
script_asked (Some (inspection.Continue seed)) input = Some (script_in input)
script_asked (Some (inspection.Show shown)) input = Some (script_in input)
script_asked (Some (inspection.Tally seeds)) input = Some input
script_asked (Some inspection.Sum) input = None
script_asked (Some (inspection.Survey seeds config)) input = Some (script_in input)
script_asked (Some inspection.Judge) input = None
script_asked None input = None

-- ---- what is written

-- after the report: nothing, or `entry NUMBER is not legal here` in a line of its own
abbrev pub notice : Option ℕ → List ℕ
notice None = []
notice (Some entry_number) = line_text (keyword_text keyword.Entry ∷ decimal entry_number ∷ codes "is" ∷ codes "not" ∷ codes "legal" ∷ codes "here" ∷ [])

-- the exit code: that of the verdict, or that of a refused schedule, if an entry of the prefix is not legal
abbrev pub code_by : Option ℕ → ℕ → ℕ
code_by None code = code
code_by (Some entry_number) code = 7

-- ---- outcomes

-- arguments that are not accepted
pub record RefusesWords (words : List (List ℕ)) (code : ℕ) (text : List ℕ) : Type 0 where
  pub refused : is_inspection words ≡ false
  pub code_is : code ≡ 5
  pub text_is : text ≡ line_text refused_words

-- an input above the limit
pub record RefusesInput (words : List (List ℕ)) (input : List ℕ) (code : ℕ) (text : List ℕ) : Type 0 where
  pub accepted : is_inspection words ≡ true
  pub too_long : MAX_INPUT < length input
  pub code_is : code ≡ 8
  pub text_is : text ≡ line_text refused_input

-- a script with a fault: the first one is reported
pub record RefusesScript (words : List (List ℕ)) (input : List ℕ) (code : ℕ) (text : List ℕ) : Type 0 where
  pub part : List ℕ
  pub asked : script_asked (inspection_asked words) input ≡ Some part
  pub fits : length input ≤ MAX_INPUT
  pub line : ℕ
  pub why : ParseWhy
  pub first : FirstFault part line why
  pub code_is : code ≡ 6
  pub text_is : text ≡ line_text (refused_script line why)

-- a prefix with a fault: the first one is reported
pub record RefusesPrefix (words : List (List ℕ)) (input : List ℕ) (code : ℕ) (text : List ℕ) : Type 0 where
  pub accepted : follows_prefix (inspection_asked words) ≡ true
  pub fits : length input ≤ MAX_INPUT
  pub script : Script
  pub spelled : Spells (script_in input) script
  pub line : ℕ
  pub why : ScheduleWhy
  pub first : prefix_for script input ≡ Err (line, why)
  pub code_is : code ≡ 7
  pub text_is : text ≡ line_text (refused_schedule line why)

-- `continue`: the report of a run that begins with the entries of the prefix, up to the first that is not legal, and goes on as the seed
-- chooses. The report is replayed to the same run, and the run keeps the laws of how threads end.
pub record Continues (words : List (List ℕ)) (input : List ℕ) (code : ℕ) (text : List ℕ) : Type 0 where
  pub seed : ℕ
  pub asked : inspection_asked words ≡ Some (inspection.Continue seed)
  pub fits : length input ≤ MAX_INPUT
  pub script : Script
  pub spelled : Spells (script_in input) script
  pub config : Config
  pub entries : List Entry
  pub read : prefix_for script input ≡ Ok (config, entries)
  pub illegal : Option ℕ
  pub illegal_is : first_illegal script config entries ≡ illegal
  pub schedule : List Entry
  pub continued : SeedContinuation script config seed (followed illegal entries) schedule
  pub after : Run
  pub is_run : run script config schedule ≡ Some after
  pub code_is : code ≡ code_by illegal (code_of_verdict (verdict_of script config after.world (length schedule)))
  pub report_text : List ℕ
  pub report_is : report script config schedule ≡ Some report_text
  pub text_is : text ≡ report_text ++ notice illegal
  pub read_back : sched_of report_text ≡ Ok (config, schedule)
  pub laws : Laws script config schedule after
  pub kept : Kept script config after.world after.events

-- an input with a script and a prefix of a schedule, and the run of the entries of the prefix up to the first that is not legal
pub record FollowsPrefix (input : List ℕ) : Type 0 where
  pub fits : length input ≤ MAX_INPUT
  pub script : Script
  pub spelled : Spells (script_in input) script
  pub config : Config
  pub entries : List Entry
  pub read : prefix_for script input ≡ Ok (config, entries)
  pub illegal : Option ℕ
  pub illegal_is : first_illegal script config entries ≡ illegal
  pub after : Run
  pub is_run : run script config (followed illegal entries) ≡ Some after

-- the entries that are followed
abbrev pub entries_in : {input : List ℕ} → FollowsPrefix input → List Entry
entries_in f = followed f.illegal f.entries

-- the exit code after such a run
abbrev pub code_after : {input : List ℕ} → FollowsPrefix input → ℕ
code_after f = code_by f.illegal (code_of_verdict (verdict_of f.script f.config f.after.world (length (entries_in f))))

-- the line that is shown for a statement of a script is a line of the text that spells the statement
abbrev pub LinesSpell : List ℕ → Script → Type 0
LinesSpell text script = (func pc : ℕ) (f : Func) (s : Stmt) → slice_get script.funcs func ≡ Some f → slice_get f.body pc ≡ Some s → IsSomeAnd (line_at (statement_lines text) func pc) (SpellsStatement text script f.locals s)

-- `trace`: the steps of the run, and the notice. The steps have the entries that are followed and the events of their run, in order
pub record Traces (words : List (List ℕ)) (input : List ℕ) (code : ℕ) (text : List ℕ) : Type 0 where
  pub asked : inspection_asked words ≡ Some (inspection.Show (view.Steps form.Trace))
  pub prefix : FollowsPrefix input
  pub code_is : code ≡ code_after prefix
  pub text_is : text ≡ trace_text (statement_lines (script_in input)) prefix.script prefix.config (entries_in prefix) prefix.after ++ notice prefix.illegal
  pub steps_are : IsTraceOf (entries_in prefix) prefix.after (steps_of prefix.script prefix.config (entries_in prefix))
  pub lines_are : LinesSpell (script_in input) prefix.script

-- `choices`: the state after the run, with what each thread may do next, and the notice. The entries that are listed are the legal ones with
-- worker 1. A thread that waits cannot go on, and one that has no choice waits
pub record ListsChoices (words : List (List ℕ)) (input : List ℕ) (code : ℕ) (text : List ℕ) : Type 0 where
  pub asked : inspection_asked words ≡ Some (inspection.Show view.Choices)
  pub prefix : FollowsPrefix input
  pub code_is : code ≡ code_after prefix
  pub text_is : text ≡ choices_text (statement_lines (script_in input)) prefix.script prefix.config prefix.after.world (length (entries_in prefix)) ++ notice prefix.illegal
  pub entries_are : AreLegalEntries prefix.script prefix.config prefix.after.world
  pub waits_are : (l : ListedThread) → Contains (listed_threads prefix.script prefix.config prefix.after.world) l → IsBlockedIfWaiting l
  pub lines_are : LinesSpell (script_in input) prefix.script

-- `states`: the state after the run, with the values of variables, mutexes, semaphores, keys and once controls, and what is registered, and the notice
pub record ListsStates (words : List (List ℕ)) (input : List ℕ) (code : ℕ) (text : List ℕ) : Type 0 where
  pub asked : inspection_asked words ≡ Some (inspection.Show view.States)
  pub prefix : FollowsPrefix input
  pub code_is : code ≡ code_after prefix
  pub text_is : text ≡ states_text (statement_lines (script_in input)) prefix.script prefix.config prefix.after.world (length (entries_in prefix)) ++ notice prefix.illegal
  pub lines_are : LinesSpell (script_in input) prefix.script

-- the steps are drawn in this form
abbrev pub is_drawn : Form → Bool
is_drawn form.Trace = false
is_drawn form.Lanes = true
is_drawn form.Picture = true

-- `lanes` and `picture`: of the text nothing is said, and the exit code is that of `trace`
pub record Draws (words : List (List ℕ)) (input : List ℕ) (code : ℕ) : Type 0 where
  pub shown : Form
  pub drawn : is_drawn shown ≡ true
  pub asked : inspection_asked words ≡ Some (inspection.Show (view.Steps shown))
  pub prefix : FollowsPrefix input
  pub code_is : code ≡ code_after prefix

-- the outcome for these arguments and this input. The cases are disjoint, and in the order in which they are decided.
pub data IsInspected (words : List (List ℕ)) (input : List ℕ) (code : ℕ) (text : List ℕ) : Type 0 where
  WordsRefused : RefusesWords words code text → IsInspected words input code text
  InputRefused : RefusesInput words input code text → IsInspected words input code text
  ScriptRefused : RefusesScript words input code text → IsInspected words input code text
  PrefixRefused : RefusesPrefix words input code text → IsInspected words input code text
  Continued : Continues words input code text → IsInspected words input code text
  Traced : Traces words input code text → IsInspected words input code text
  Listed : ListsChoices words input code text → IsInspected words input code text
  Valued : ListsStates words input code text → IsInspected words input code text
  Drawn : Draws words input code → IsInspected words input code text
  Tallied : Tallies words input code text → IsInspected words input code text
  TalliesRefused : RefusesTallies words input code text → IsInspected words input code text
  SumRefused : RefusesSum words input code text → IsInspected words input code text
  Summed : Sums words input code text → IsInspected words input code text
  ExpectationRefused : RefusesExpectation words input code text → IsInspected words input code text
  Surveyed : Surveys words input code text → IsInspected words input code text
  ReportRefused : RefusesReport words input code text → IsInspected words input code text
  Judged : Judges words input code text → IsInspected words input code text

-- ---- completeness

-- an input that is not refused, and in which each entry of the prefix is legal
pub record IsValidPrefix (input : List ℕ) : Type 0 where
  pub fits : length input ≤ MAX_INPUT
  pub script : Script
  pub spelled : Spells (script_in input) script
  pub config : Config
  pub entries : List Entry
  pub read : prefix_for script input ≡ Ok (config, entries)
  pub legal : first_illegal script config entries ≡ None

-- the code is that of a verdict, and with `continue` that of a run that is not open
pub record IsCodeOfRun (words : List (List ℕ)) (code : ℕ) : Type 0 where
  pub run_code : code < 5
  pub closed : (seed : ℕ) → inspection_asked words ≡ Some (inspection.Continue seed) → code < 4

-- the code of an input that is not refused: that of a run; 0 with `tally` if the input spells a script, and with `sum` if it is tallies with a sum; 0 or 14
-- with `survey` if the input is a script and an expectation; and 0 or 12 with `judge` if it is read as a report
pub record IsAcceptedCode (words : List (List ℕ)) (input : List ℕ) (code : ℕ) : Type 0 where
  pub run : follows_prefix (inspection_asked words) ≡ true → IsValidPrefix input → IsCodeOfRun words code
  pub tally : (seeds : Seeds) (script : Script) → inspection_asked words ≡ Some (inspection.Tally seeds) → length input ≤ MAX_INPUT → Spells input script → code ≡ 0
  pub sum : (tallies : List PlacedTally) (total : RangeTally) → inspection_asked words ≡ Some inspection.Sum → length input ≤ MAX_INPUT
      → tallies_in input ≡ Ok tallies → IsTotalOf tallies (Ok total) → code ≡ 0
  pub survey : (seeds : ℕ) (config : Config) (script : Script) (rules : List Rule) → inspection_asked words ≡ Some (inspection.Survey seeds config)
      → length input ≤ MAX_INPUT → Spells (script_in input) script → expects_in (expectation_in input) ≡ Ok rules → (code ≡ 0) ⊎ (code ≡ 14)
  pub judge : (config : Config) (lines : List Span) → inspection_asked words ≡ Some inspection.Judge → length input ≤ MAX_INPUT
      → report_in input ≡ Ok (config, lines) → (code ≡ 0) ⊎ (code ≡ 12)

-- if the source reports its bytes and no call failed, the outcome of all that it had left was written whole, or memory ran out;
-- with accepted words a valid input is not refused
abbrev pub IsWhole : List (List ℕ) → Outside → Outside → Status → Type 0
IsWhole words before after s =
    (input : List ℕ) → before.left ≡ Some input
    → s ≢ status.ReadFault → s ≢ status.WriteFault
    → (s ≡ status.NoMemory) ⊎ (WroteAll (IsInspected words) input before.written after.written (code_of s) × IsAcceptedCode words input (code_of s))

-- ---- uniqueness

-- the words ask for a drawing
abbrev pub asks_to_draw : Option Inspection → Bool
asks_to_draw (Some (inspection.Show (view.Steps shown))) = is_drawn shown
asks_to_draw _ = false

-- words and an input have at most one exit code, and at most one text, unless the words ask for a drawing
abbrev pub InspectionsAreOne : Type 0
InspectionsAreOne =
    (words : List (List ℕ)) (input : List ℕ) (code other_code : ℕ) (text other_text : List ℕ)
    → IsInspected words input code text → IsInspected words input other_code other_text
    → (code ≡ other_code) × (asks_to_draw (inspection_asked words) ≡ false → text ≡ other_text)
