-- Answers: their statuses and their texts, and what the functions below `inspect` promise of them.
use Rattle.std.specs.Prelude.{◌≡◌, ℕ, ◌≤◌, Bool, if◌then◌else◌, List, ◌++◌, length, Option, Some, None, Result, IfOk, IsErrOf}
use Rattle.std.specs.Io.KnownBytes.{Consumes}
use Rattle.pct_io.specs.ErrorCounts.{Rose}
use Rattle.pct_model.specs.declared.limits.TheConstants.{MAX_INPUT}
use Rattle.pct_model.specs.declared.script.Script.{Script}
use Rattle.pct_model.specs.Keywords.{line_text, text_of}
use Rattle.pct_tallies.specs.TallyTexts.{range_lines}
use Rattle.pct_model.specs.Spells.{Spells}
use Rattle.pct_command.specs.declared.status.Status.{Status}
use Rattle.pct_command.specs.declared.status.Status.TheVariants as status
use Rattle.pct_command.specs.Status.{code_of}
use Rattle.pct_command.specs.Command.{HasRead, Reads}
use Rattle.pct_command.specs.Answer.{line_of_refusal, status_of_refusal, status_of_verdict, text_of_run, verdict_of_run}
use Rattle.pct_inspection.specs.declared.answer.Answer.{Answer}
use Rattle.pct_inspection.specs.declared.answer.Answer.TheVariants as answer
use Rattle.pct_inspection.specs.declared.answer.Unanswered.{Unanswered}
use Rattle.pct_inspection.specs.declared.answer.Unanswered.TheVariants as unanswered
use Rattle.pct_inspection.specs.declared.words.Inspection.{Inspection}
use Rattle.pct_inspection.specs.declared.words.Inspection.TheVariants as inspection
use Rattle.pct_inspection.specs.Words.{inspection_asked, is_inspection}
use Rattle.pct_inspection.specs.Inputs.{script_in, prefix_in}
use Rattle.pct_inspection.specs.Inspection.{notice, IsInspected}
use Rattle.pct_judgement.specs.AnswerTexts.{refused_report}
use Rattle.pct_survey.specs.declared.counting.Survey.{Survey}
use Rattle.pct_survey.specs.Surveys.{has_failure}
use Rattle.pct_survey.specs.SurveyTexts.{survey_text}
use Rattle.pct_inspection.specs.SurveyOutcomes.{refused_expect}
use Rattle.pct_inspection.specs.TallyOutcomes.{refused_tally}

-- ---- the status and the text of an answer

-- the status: that of the verdict, or that of a refused schedule, if an entry of the prefix is not legal
abbrev pub status_by : Option ℕ → Status → Status
status_by None s = s
status_by (Some entry_number) s = status.ScheduleRefused

-- the status of a survey: whether each rule holds of each run
abbrev pub status_of_survey : Survey → Status
status_of_survey survey = if has_failure survey then status.ExpectFailed else status.Complete

-- the status of a report that is judged: whether each law is kept
abbrev pub status_of_findings : Bool → Status
status_of_findings kept = if kept then status.Complete else status.AuditFailed

-- the status of an answer
abbrev pub status_of_answer : Answer → Status
status_of_answer (answer.Refused why) = status_of_refusal why
status_of_answer (answer.Continued engine illegal) = status_by illegal (status_of_verdict (verdict_of_run engine))
status_of_answer (answer.Shown text v illegal) = status_by illegal (status_of_verdict v)
status_of_answer (answer.Tallied range) = status.Complete
status_of_answer (answer.TallyRefused line why) = status.TallyRefused
status_of_answer (answer.Surveyed survey) = status_of_survey survey
status_of_answer (answer.ExpectRefused line why) = status.ExpectRefused
status_of_answer (answer.Judged text kept) = status_of_findings kept
status_of_answer (answer.ReportRefused line why) = status.ReportRefused

-- the code of an answer
abbrev pub code_of_answer : Answer → ℕ
code_of_answer a = code_of (status_of_answer a)

-- the text of an answer: the line of a refusal, the report of a run and the notice after it, a view, a tally, a survey, or what is found of a report
abbrev pub text_of_answer : Answer → List ℕ
text_of_answer (answer.Refused why) = line_text (line_of_refusal why)
text_of_answer (answer.Continued engine illegal) = text_of_run engine ++ notice illegal
text_of_answer (answer.Shown text v illegal) = text.items
text_of_answer (answer.Tallied range) = text_of (range_lines range)
text_of_answer (answer.TallyRefused line why) = line_text (refused_tally line why)
text_of_answer (answer.Surveyed survey) = survey_text survey
text_of_answer (answer.ExpectRefused line why) = line_text (refused_expect line why)
text_of_answer (answer.Judged text kept) = text.items
text_of_answer (answer.ReportRefused line why) = line_text (refused_report line why)

-- ---- the answer to a text

-- the words ask for this
abbrev pub AsksFor : List (List ℕ) → Inspection → Type 0
AsksFor words asked = inspection_asked words ≡ Some asked

-- the words ask to continue with this seed
abbrev pub AsksToContinue : List (List ℕ) → ℕ → Type 0
AsksToContinue words seed = AsksFor words (inspection.Continue seed)

-- an input within the limit, whose script's part spells this script
pub record HasScript (input : List ℕ) (script : Script) : Type 0 where
  pub fits : length input ≤ MAX_INPUT
  pub spelled : Spells (script_in input) script

-- and whose text after that is this prefix
pub record HasParts (input : List ℕ) (script : Script) (prefix : List ℕ) : Type 0 where
  pub has_script : HasScript input script
  pub rest : prefix ≡ prefix_in input

-- an answer to the words and the input, unless memory ran out
abbrev pub Answered : {E : Type 0} → List (List ℕ) → List ℕ → Result Answer E → Type 0
Answered words input result = IfOk result (λ a. IsInspected words input (code_of_answer a) (text_of_answer a))

-- ---- the answer to what was read

-- an answer to the words and to the input that was read; if the source reports its bytes, the answer to all that it had left
pub record AnswersRead (words : List (List ℕ)) (before after : Option (List ℕ)) (a : Answer) : Type 0 where
  pub input : List ℕ
  pub read : Reads (is_inspection words) before after input (code_of_answer a)
  pub is_answer : IsInspected words input (code_of_answer a) (text_of_answer a)
  pub of_all : (left : List ℕ) → before ≡ Some left → IsInspected words left (code_of_answer a) (text_of_answer a)

-- how a source was read: `ReadFault` comes if and only if it recorded an error, `NoMemory` only after a byte was read
pub record ReadsInput {S : Type 0} (left_of : S → Option (List ℕ)) (errors_of : S → ℕ) (old new : S) (result : Result Answer Unanswered) : Type 0 where
  pub prefix : (taken : List ℕ) × Consumes (left_of old) (left_of new) taken
  pub memory : IsErrOf result unanswered.NoMemory → HasRead (left_of old) (left_of new)
  pub cause : IsErrOf result unanswered.ReadFault → Rose (errors_of old) (errors_of new)
  pub no_error : ¬ IsErrOf result unanswered.ReadFault → errors_of new ≡ errors_of old
