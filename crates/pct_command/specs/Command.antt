-- What `command` promises, by its answer.
use Rattle.std.specs.Prelude.{◌≡◌, ◌≢◌, ◌⊎◌, ℕ, ◌<◌, ◌≤◌, Bool, true, false, List, [], ◌∷◌, length, Option, Some, None, Ok}
use Rattle.std.specs.Io.KnownBytes.{Appends, Consumes, IsAtEnd, Keeps}
use Rattle.pct_io.specs.ErrorCounts.{Rose}
use Rattle.pct_io.specs.Sinks.{AppendsPrefix}
use Rattle.pct_model.specs.declared.limits.TheConstants.{MAX_INPUT}
use Rattle.pct_model.specs.declared.run_options.RunOptions.{RunOptions}
use Rattle.pct_model.specs.declared.script.Script.{Script}
use Rattle.pct_model.specs.declared.schedule.Config.{Config}
use Rattle.pct_model.specs.declared.schedule.Entry.{Entry}
use Rattle.pct_model.specs.declared.keyword.Keyword.TheVariants as keyword
use Rattle.pct_model.specs.Formats.{config_for}
use Rattle.pct_model.specs.Keywords.{keyword_text, text_of}
use Rattle.pct_model.specs.Spells.{Spells}
use Rattle.pct_model.specs.Schedule.{sched_of}
use Rattle.pct_laws.specs.Kept.{Kept}
use Rattle.pct_laws.specs.Laws.{Laws}
use Rattle.pct_audit_laws.specs.RunsPass.{Passes}
use Rattle.pct_model.specs.Report.{report}
use Rattle.pct_model.specs.Run.{Run, first_illegal, run}
use Rattle.pct_model.specs.RunOptions.{run_options}
use Rattle.pct_model.specs.Sample.{sample_number}
use Rattle.pct_model.specs.Outcome.{is_asked, is_accepted, script_part, schedule_part, Outcome}
use Rattle.pct_tallies.specs.declared.tally.Tally.{Tally}
use Rattle.pct_tallies.specs.Seeds.{first_seeds}
use Rattle.pct_tallies.specs.TallyTexts.{tally_lines}
use Rattle.pct_sample.specs.FirstSeeds.{AreFirstSeeds}
use Rattle.pct_sample.specs.Samples.{TallyOf}
use Rattle.pct_workers.specs.Schedules.{WorkersSchedule}
use Rattle.pct_command.specs.declared.status.Status.{Status}
use Rattle.pct_command.specs.declared.status.Status.TheVariants as status
use Rattle.pct_command.specs.declared.words.Job.{Job}
use Rattle.pct_command.specs.declared.words.Job.TheVariants as job
use Rattle.pct_command.specs.Status.{code_of}
use Rattle.pct_command.specs.Audits.{AuditOutcome, HasReadReport, IsAuditedCode}
use Rattle.pct_command.specs.Expectations.{ExpectOutcome, HasReadParts, IsJudgedCode}
use Rattle.pct_command.specs.Words.{asks_audit, asks_expect, job_asked, judges_report}

-- the source and the sink: the bytes that are left and those that were written, if they are known, and the counts of errors
pub record Outside : Type 0 where
  pub left : Option (List ℕ)
  pub read_errors : ℕ
  pub written : Option (List ℕ)
  pub write_errors : ℕ

-- below the last value of the count: one error was recorded if and only if the answer is the status of a failed call; a count at
-- its last value stays there
pub record Records (failed s : Status) (before after : ℕ) : Type 0 where
  pub error : s ≡ failed → Rose before after
  pub no_error : s ≢ failed → after ≡ before

-- ---- outcomes

-- `sample` with a number of seeds: the text is what is counted of the runs of the script under the seeds 1 to this number
pub record Samples (words : List (List ℕ)) (input : List ℕ) (code : ℕ) (text : List ℕ) : Type 0 where
  pub number : ℕ
  pub accepted : sample_number words ≡ Some number
  pub fits : length input ≤ MAX_INPUT
  pub script : Script
  pub spelled : Spells input script
  pub tally : Tally
  pub counted : TallyOf script (first_seeds number) tally
  pub first : AreFirstSeeds script (first_seeds number) tally
  pub code_is : code ≡ 0
  pub text_is : text ≡ text_of (tally_lines number tally)

-- the outcome of every command: that of `sample` for a script without a fault, that of `expect`, that of `audit`, or another outcome
-- (Outcome.antt). The cases are disjoint
pub data CommandOutcome (words : List (List ℕ)) (input : List ℕ) (schedule : List Entry) (code : ℕ) (text : List ℕ) : Type 0 where
  Sampled : Samples words input code text → CommandOutcome words input schedule code text
  Expected : ExpectOutcome words input code text → CommandOutcome words input schedule code text
  Audited : AuditOutcome words input code text → CommandOutcome words input schedule code text
  Other : judges_report words ≡ false → Outcome words input schedule code text → CommandOutcome words input schedule code text

-- ---- what is written

-- the options, with the format of the script
abbrev pub options_for : Script → RunOptions → RunOptions
options_for script options = record options { config = config_for script options.config }

-- the report of a `run` with these options and the format of the script: its configuration and its schedule are read back from the text, its
-- schedule is one that the workers may make for the script of the input, and the verdict is not `Open`
pub record IsClosedRun (options : RunOptions) (words : List (List ℕ)) (input : List ℕ) (schedule : List Entry) (code : ℕ) (text : List ℕ) : Type 0 where
  pub script : Script
  pub spelled : Spells (script_part words input) script
  pub read_back : sched_of text ≡ Ok (config_for script options.config, schedule)
  pub worked : WorkersSchedule script (options_for script options) schedule
  pub closed : code ≢ 4

-- `replay` of any input with the same script and the schedule of the text has this outcome
abbrev pub IsReplayed : List (List ℕ) → List ℕ → ℕ → List ℕ → Type 0
IsReplayed words input code text =
    (script : Script) (again : List ℕ)
    → Spells (script_part words input) script → Spells (script_part (keyword_text keyword.Replay ∷ []) again) script
    → sched_of (schedule_part again) ≡ sched_of text → length again ≤ MAX_INPUT
    → Outcome (keyword_text keyword.Replay ∷ []) again [] code text

-- the text is the report of a run of the script of the input. The run keeps the laws of how threads end (Laws.antt): those of cleanup
-- handlers, destructors and the calls of functions (XSH 2.9.5.3, pthread_exit, pthread_key_create), those of frames, of what a statement
-- does, and of results and values (pthread_cleanup_push, pthread_setspecific), that of cancellation (XSH 2.9.5.1, 2.9.5.2, pthread_cancel),
-- that of joins, requests and detaches (XSH 2.9.2, pthread_join, pthread_detach), those of mutexes, condition waits, wake-ups and what the
-- threads of a process share (pthread_mutex_lock, pthread_cond_wait, pthread_cond_timedwait, pthread_cond_signal, sem_wait), that of once
-- controls (pthread_once), that of the ids of threads and those of the threads and processes that are made (pthread_create, pthread_atfork,
-- fork, exit, waitpid). The state after it keeps the invariant. The text is read back with the configuration and as many events as the run
-- has, and their audit finds no fault.
pub record IsLawful (words : List (List ℕ)) (input : List ℕ) (text : List ℕ) : Type 0 where
  pub script : Script
  pub spelled : Spells (script_part words input) script
  pub config : Config
  pub entries : List Entry
  pub after : Run
  pub is_run : run script config entries ≡ Some after
  pub text_is : report script config entries ≡ Some text
  pub laws : Laws script config entries after
  pub kept : Kept script config after.world after.events
  pub audited : Passes config (length after.events) text

-- what holds of a report, by the job that the words name: the schedule of a `replay` is that of the input; both are replayed, and
-- keep the laws
abbrev pub IsReportOf : Option Job → List (List ℕ) → List ℕ → List Entry → ℕ → List ℕ → Type 0
IsReportOf (Some (job.Run options)) words input schedule code text = IsClosedRun options words input schedule code text × (IsReplayed words input code text × IsLawful words input text)
IsReportOf (Some job.Replay) words input schedule code text = (sched_of text ≡ sched_of (schedule_part input)) × (IsReplayed words input code text × IsLawful words input text)
IsReportOf (Some job.Check) words input schedule code text = Unit {0}
IsReportOf (Some job.Points) words input schedule code text = Unit {0}
IsReportOf (Some (job.Demo number)) words input schedule code text = Unit {0}
IsReportOf (Some (job.Sample seeds)) words input schedule code text = Unit {0}
IsReportOf (Some job.Expect) words input schedule code text = Unit {0}
IsReportOf (Some job.Audit) words input schedule code text = Unit {0}
IsReportOf None words input schedule code text = Unit {0}

-- the code and the text are the outcome of the words and the input, and a report is that of the job that the words name
pub record IsAnswer (words : List (List ℕ)) (input : List ℕ) (code : ℕ) (text : List ℕ) : Type 0 where
  pub schedule : List Entry
  pub is_outcome : CommandOutcome words input schedule code text
  pub is_report : code < 5 → IsReportOf (job_asked words) words input schedule code text

-- the whole text of the answer to the input was written, where the second argument says which code and text are an answer
pub record WroteAll (is_answer : List ℕ → ℕ → List ℕ → Type 0) (input : List ℕ) (before after : Option (List ℕ)) (code : ℕ) : Type 0 where
  pub text : List ℕ
  pub answer : is_answer input code text
  pub wrote : Appends before after text

-- a write failed: the sink recorded the error, and a prefix of the text was written
pub record WrotePrefix (is_answer : List ℕ → ℕ → List ℕ → Type 0) (input : List ℕ) (before after : Option (List ℕ)) (errors_before errors_after : ℕ) : Type 0 where
  pub code : ℕ
  pub text : List ℕ
  pub answer : is_answer input code text
  pub wrote : AppendsPrefix before after text
  pub cause : Rose errors_before errors_after

-- ---- the answers of a call whose words need an input or do not, and that takes memory or does not

-- what was read is a prefix of what the source had left, and all of it if the words need an input, unless it is too long
pub record Reads (needs : Bool) (before after : Option (List ℕ)) (input : List ℕ) (code : ℕ) : Type 0 where
  pub prefix : Consumes before after input
  pub to_end : needs ≡ true → code ≢ 8 → IsAtEnd after

-- the input that was read, and the whole answer to it was written
pub record Decides (needs : Bool) (is_answer : List ℕ → ℕ → List ℕ → Type 0) (before after : Outside) (code : ℕ) : Type 0 where
  pub input : List ℕ
  pub read : Reads needs before.left after.left input code
  pub output : WroteAll is_answer input before.written after.written code

-- the input that was read, and a prefix of the answer to it was written
pub record FailsToWrite (needs : Bool) (is_answer : List ℕ → ℕ → List ℕ → Type 0) (before after : Outside) : Type 0 where
  pub input : List ℕ
  pub output : WrotePrefix is_answer input before.written after.written before.write_errors after.write_errors
  pub read : Reads needs before.left after.left input output.code

-- the call may fail so, nothing was written, and what was taken is a prefix of what the source had left
pub record Takes (may_fail : Bool) (before after : Outside) : Type 0 where
  pub accepted : may_fail ≡ true
  pub nothing : Keeps before.written after.written
  pub taken : List ℕ
  pub prefix : Consumes before.left after.left taken

-- a read failed: the words need an input, and the source recorded the error
pub record FailsToRead (needs : Bool) (before after : Outside) : Type 0 where
  pub takes : Takes needs before after
  pub cause : Rose before.read_errors after.read_errors

-- what a call promises of each status; memory runs out before the first byte is written, and only where the call takes some
abbrev pub Answers : Bool → Bool → (List ℕ → ℕ → List ℕ → Type 0) → Outside → Outside → Status → Type 0
Answers needs allocates is_answer before after status.ReadFault = FailsToRead needs before after
Answers needs allocates is_answer before after status.WriteFault = FailsToWrite needs is_answer before after
Answers needs allocates is_answer before after status.NoMemory = Takes allocates before after
Answers needs allocates is_answer before after s = Decides needs is_answer before after (code_of s)

-- at least one byte was read
pub record HasRead (before after : Option (List ℕ)) : Type 0 where
  pub taken : List ℕ
  pub prefix : Consumes before after taken
  pub some : 0 < length taken

-- ---- completeness

-- the schedule of the input of `replay` has no fault, and each of its entries is legal
pub record HasLegalSchedule (script : Script) (input : List ℕ) : Type 0 where
  pub config : Config
  pub entries : List Entry
  pub read : sched_of (schedule_part input) ≡ Ok (config, entries)
  pub legal : first_illegal script config entries ≡ None

-- an input that is not refused
pub record IsValid (words : List (List ℕ)) (input : List ℕ) : Type 0 where
  pub fits : length input ≤ MAX_INPUT
  pub script : Script
  pub spelled : Spells (script_part words input) script
  pub schedule : is_asked keyword.Replay words ≡ true → HasLegalSchedule script input

-- if the source reports its bytes and no call failed, the outcome of all that it had left was written whole, or memory ran out;
-- with accepted words a valid input is not refused, nor is one of `expect` whose parts are read, or one of `audit` whose report is read
abbrev pub IsComplete : List (List ℕ) → Outside → Outside → Status → Type 0
IsComplete words before after s =
    (input : List ℕ) → before.left ≡ Some input
    → s ≢ status.ReadFault → s ≢ status.WriteFault
    → (s ≡ status.NoMemory) ⊎ (WroteAll (IsAnswer words) input before.written after.written (code_of s) × (is_accepted words ≡ true → IsValid words input → code_of s < 5) × (asks_expect words ≡ true → HasReadParts input → IsJudgedCode (code_of s)) × (asks_audit words ≡ true → HasReadReport input → IsAuditedCode (code_of s)))

-- words, an input and a schedule have at most one outcome
abbrev pub OutcomesAreOne : Type 0
OutcomesAreOne =
    (words : List (List ℕ)) (input : List ℕ) (schedule : List Entry) (code other_code : ℕ) (text other_text : List ℕ)
    → CommandOutcome words input schedule code text → CommandOutcome words input schedule other_code other_text → (code ≡ other_code) × (text ≡ other_text)

-- the words do not ask for more than one worker
abbrev pub HasOneWorker : List (List ℕ) → Type 0
HasOneWorker words = (options : RunOptions) → run_options words ≡ Some options → options.workers ≡ 1

-- words that do not ask for more than one worker and an input have at most one answer, whatever schedule it was found under
abbrev pub AnswersAreOne : Type 0
AnswersAreOne =
    (words : List (List ℕ)) (input : List ℕ) (code other_code : ℕ) (text other_text : List ℕ)
    → HasOneWorker words → IsAnswer words input code text → IsAnswer words input other_code other_text → (code ≡ other_code) × (text ≡ other_text)
