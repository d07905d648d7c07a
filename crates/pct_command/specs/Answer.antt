-- Answers: their statuses and their texts, and what the functions below `command` promise of them.
use Rattle.std.specs.Prelude.{◌≡◌, ℕ, ◌≤◌, Bool, true, if◌then◌else◌, List, [], length, nat_eq, drop, Option, Some, Result, IfOk, IsErrOf}
use Rattle.std.specs.Option.{option_map_or}
use Rattle.std.specs.Io.KnownBytes.{Consumes}
use Rattle.pct_io.specs.ErrorCounts.{Rose}
use Rattle.pct_model.specs.declared.limits.TheConstants.{MAX_INPUT}
use Rattle.pct_model.specs.declared.script.Script.{Script}
use Rattle.pct_model.specs.declared.stop.Verdict.{Verdict}
use Rattle.pct_model.specs.declared.stop.Verdict.TheVariants as verdict
use Rattle.pct_model.specs.Keywords.{line_text, text_of}
use Rattle.pct_model.specs.Points.{points_text}
use Rattle.pct_model.specs.Canon.{canon}
use Rattle.pct_model.specs.Spells.{Spells}
use Rattle.pct_model.specs.Run.{run, verdict_of}
use Rattle.pct_model.specs.Report.{report_of}
use Rattle.pct_model.specs.Demo.{summary_of}
use Rattle.pct_model.specs.Outcome.{script_part, refused_words, refused_input, refused_script, refused_schedule, refused_entry}
use Rattle.pct_engine.specs.EngineStates.{EngineValue}
use Rattle.pct_tallies.specs.TallyTexts.{tally_lines}
use Rattle.pct_judgement.specs.declared.judgement.Judgement.{Judgement}
use Rattle.pct_judgement.specs.declared.judgement.Judgement.TheVariants as judgement
use Rattle.pct_judgement.specs.AnswerTexts.{judgement_text}
use Rattle.pct_judgement.specs.Judgements.{failed_count}
use Rattle.pct_report_audit.specs.declared.report_audit.ReportAudit.{ReportAudit}
use Rattle.pct_report_audit.specs.declared.report_audit.ReportAudit.TheVariants as audit
use Rattle.pct_report_audit.specs.AuditTexts.{audit_text}
use Rattle.pct_command.specs.declared.answers.Refusal.{Refusal}
use Rattle.pct_command.specs.declared.answers.Refusal.TheVariants as refusal
use Rattle.pct_command.specs.declared.answers.Answer.{Answer}
use Rattle.pct_command.specs.declared.answers.Answer.TheVariants as answer
use Rattle.pct_command.specs.declared.answers.Unanswered.{Unanswered}
use Rattle.pct_command.specs.declared.answers.Unanswered.TheVariants as unanswered
use Rattle.pct_command.specs.declared.status.Status.{Status}
use Rattle.pct_command.specs.declared.status.Status.TheVariants as status
use Rattle.pct_command.specs.declared.words.Job.{Job}
use Rattle.pct_command.specs.Status.{code_of}
use Rattle.pct_command.specs.Words.{parts_of_job, reads_input}
use Rattle.pct_command.specs.Command.{HasRead, IsAnswer, Reads}

-- ---- the status and the text of an answer

-- the status of a refusal
abbrev pub status_of_refusal : Refusal → Status
status_of_refusal refusal.Words = status.Usage
status_of_refusal refusal.Input = status.TooLong
status_of_refusal (refusal.Script line why) = status.ScriptRefused
status_of_refusal (refusal.Schedule line why) = status.ScheduleRefused
status_of_refusal (refusal.Entry entry_number) = status.ScheduleRefused

-- the status of a verdict
abbrev pub status_of_verdict : Verdict → Status
status_of_verdict verdict.Complete = status.Complete
status_of_verdict verdict.Deadlock = status.Deadlock
status_of_verdict verdict.Budget = status.Budget
status_of_verdict (verdict.Undefined why) = status.Undefined
status_of_verdict verdict.Open = status.Open

-- the status of a judgement
abbrev pub status_of_judgement : Judgement → Status
status_of_judgement (judgement.Answered answers) = if nat_eq (failed_count answers) 0 then status.Complete else status.ExpectFailed
status_of_judgement (judgement.ExpectRefused line why) = status.ExpectRefused
status_of_judgement (judgement.ReportRefused line why) = status.ReportRefused

-- the status of an audit
abbrev pub status_of_audit : ReportAudit → Status
status_of_audit (audit.Passed events) = status.Complete
status_of_audit (audit.Failed fault) = status.AuditFailed
status_of_audit (audit.Refused line why) = status.ReportRefused

-- the verdict of the run of an engine; every engine has a run
abbrev pub verdict_of_run : EngineValue → Verdict
verdict_of_run engine = option_map_or (λ after. verdict_of engine.script engine.config after.world (length engine.history)) (run engine.script engine.config engine.history) verdict.Open

-- the report of the run of an engine
abbrev pub text_of_run : EngineValue → List ℕ
text_of_run engine = option_map_or (report_of engine.script engine.config engine.history) (run engine.script engine.config engine.history) []

-- the summary of the run of an engine, for a number
abbrev pub summary_of_run : ℕ → EngineValue → List ℕ
summary_of_run number engine = option_map_or (summary_of number engine.script engine.config engine.history) (run engine.script engine.config engine.history) []

-- the status of an answer
abbrev pub status_of_answer : Answer → Status
status_of_answer (answer.Refused why) = status_of_refusal why
status_of_answer (answer.Ran engine) = status_of_verdict (verdict_of_run engine)
status_of_answer (answer.Checked script) = status.Complete
status_of_answer answer.Points = status.Complete
status_of_answer (answer.Demonstrated number engine) = status.Complete
status_of_answer (answer.Sampled seeds tally) = status.Complete
status_of_answer (answer.Judged j) = status_of_judgement j
status_of_answer (answer.Audited audit) = status_of_audit audit

-- the code of an answer
abbrev pub code_of_answer : Answer → ℕ
code_of_answer a = code_of (status_of_answer a)

-- the line of a refusal
abbrev pub line_of_refusal : Refusal → List (List ℕ)
line_of_refusal refusal.Words = refused_words
line_of_refusal refusal.Input = refused_input
line_of_refusal (refusal.Script line why) = refused_script line why
line_of_refusal (refusal.Schedule line why) = refused_schedule line why
line_of_refusal (refusal.Entry entry_number) = refused_entry entry_number

-- the text of an answer: the line of a refusal, the report of a run, the canonical text of a script, the table of points, the summary of a
-- run, a tally, a judgement, or an audit
abbrev pub text_of_answer : Answer → List ℕ
text_of_answer (answer.Refused why) = line_text (line_of_refusal why)
text_of_answer (answer.Ran engine) = text_of_run engine
text_of_answer (answer.Checked script) = canon script
text_of_answer answer.Points = points_text
text_of_answer (answer.Demonstrated number engine) = summary_of_run number engine
text_of_answer (answer.Sampled seeds tally) = text_of (tally_lines seeds tally)
text_of_answer (answer.Judged j) = judgement_text j
text_of_answer (answer.Audited audit) = audit_text audit

-- ---- the answer to a text

-- an input within the limit, whose script's part spells this script
pub record HasScript (words : List (List ℕ)) (input : List ℕ) (script : Script) : Type 0 where
  pub fits : length input ≤ MAX_INPUT
  pub spelled : Spells (script_part words input) script

-- and whose text after that is this schedule
pub record HasParts (words : List (List ℕ)) (job : Job) (input : List ℕ) (script : Script) (schedule : List ℕ) : Type 0 where
  pub has_script : HasScript words input script
  pub rest : schedule ≡ drop (parts_of_job job input).1 input

-- an answer to the words and the input, unless memory ran out
abbrev pub Answered : {E : Type 0} → List (List ℕ) → List ℕ → Result Answer E → Type 0
Answered words input result = IfOk result (λ a. IsAnswer words input (code_of_answer a) (text_of_answer a))

-- an answer of `demo`, unless memory ran out
abbrev pub IsDemonstration : Answer → Type 0
IsDemonstration (answer.Demonstrated number engine) = Unit {0}
IsDemonstration _ = ⊥

abbrev pub IsDemonstrated : {E : Type 0} → Result Answer E → Type 0
IsDemonstrated result = IfOk result IsDemonstration

-- ---- the answer to what was read

-- an answer to the words and to the input that was read; if the source reports its bytes, the answer to all that it had left
pub record AnswersRead (words : List (List ℕ)) (before after : Option (List ℕ)) (a : Answer) : Type 0 where
  pub input : List ℕ
  pub read : Reads (reads_input words) before after input (code_of_answer a)
  pub is_answer : IsAnswer words input (code_of_answer a) (text_of_answer a)
  pub of_all : (left : List ℕ) → before ≡ Some left → IsAnswer words left (code_of_answer a) (text_of_answer a)

-- how a source was read: `ReadFault` comes if and only if it recorded an error; `NoMemory` comes only after a byte was read, if the
-- call reads before it takes memory
pub record ReadsInput {S : Type 0} (left_of : S → Option (List ℕ)) (errors_of : S → ℕ) (reads_first : Bool) (old new : S) (result : Result Answer Unanswered) : Type 0 where
  pub prefix : (taken : List ℕ) × Consumes (left_of old) (left_of new) taken
  pub memory : reads_first ≡ true → IsErrOf result unanswered.NoMemory → HasRead (left_of old) (left_of new)
  pub cause : IsErrOf result unanswered.ReadFault → Rose (errors_of old) (errors_of new)
  pub no_error : ¬ IsErrOf result unanswered.ReadFault → errors_of new ≡ errors_of old
