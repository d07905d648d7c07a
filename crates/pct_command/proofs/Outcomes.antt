-- What is answered is an outcome.
use Rattle.pct_names.proofs.Names.{Bool, cond, nat_eq, ◌||◌}
use Rattle.pct_names.proofs.Names.{◌<◌, [], ap, arith, canon, code_of_verdict, Config, config_for, default_config, demo_number, Entry, Err}
use Rattle.pct_names.proofs.Names.{false, first_illegal, FirstFault, generated_text, is_asked, keyword_text, length, line_text}
use Rattle.pct_names.proofs.Names.{List, needs_input, Ok, Option, option_map, option_map_or, Outcome, ParseWhy, points_text, refl}
use Rattle.pct_names.proofs.Names.{refused_entry, refused_input, refused_schedule, refused_script, refused_words, report, report_of, Run}
use Rattle.pct_names.proofs.Names.{run_options, RunOptions, sched_of, schedule_part, ScheduleWhy, Script, script_part, Some, Spells, subst}
use Rattle.pct_names.proofs.Names.{sample_number, summary_of, sym, text_of, true, Verdict, verdict_of, ℕ, ◌∙◌, ◌∷◌, ◌≡◌, ◌≢◌, ◌≤◌}
use Rattle.pct_model.specs.declared.stop.Verdict.TheVariants as verdict
use Rattle.pct_model.specs.declared.keyword.Keyword.TheVariants as keyword
use Rattle.pct_demo.specs.CountedRuns.{IsCountedEngine}
use Rattle.pct_model.specs.Outcome as outcome
use Rattle.pct_schedule_laws.proofs.ReadBack.{report_is_read_back}
use Rattle.pct_grammar.proofs.Scripts.{spells_one_script}
use Rattle.pct_engine.specs.EngineStates.{EngineValue, IsRunOf}
use Rattle.pct_engine.proofs.EngineLaws.{keeps_laws}
use Rattle.pct_audit_laws.specs.RunsPass.{Passes, ReportsOfRunsPass}
use Rattle.pct_tallies.specs.declared.tally.Tally.{Tally}
use Rattle.pct_tallies.specs.Seeds.{first_seeds}
use Rattle.pct_sample.specs.FirstSeeds.{AreFirstSeeds}
use Rattle.pct_sample.specs.Samples.{TallyOf}
use Rattle.pct_tallies.specs.TallyTexts.{tally_lines}
use Rattle.pct_workers.specs.Schedules.{WorkersSchedule}
use Rattle.pct_command.specs.declared.answers.Answer.TheVariants as answer
use Rattle.pct_command.specs.declared.words.Job.{Job}
use Rattle.pct_command.specs.declared.words.Job.TheVariants.{Run as run_job, Replay, Check, Points, Demo, Sample, Expect, Audit}
use Rattle.pct_command.specs.Status.{code_of}
use Rattle.pct_judgement.specs.declared.judgement.Judgement.{Judgement}
use Rattle.pct_judgement.specs.declared.judgement.Judgement.TheVariants as judgement
use Rattle.pct_judgement.specs.AnswerTexts.{judgement_text}
use Rattle.pct_judgement.specs.Judgements.{IsJudgement, failed_count, report_part, rules_part}
use Rattle.pct_report_audit.specs.declared.report_audit.ReportAudit.{ReportAudit}
use Rattle.pct_report_audit.specs.declared.report_audit.ReportAudit.TheVariants as audit
use Rattle.pct_report_audit.specs.AuditTexts.{audit_text}
use Rattle.pct_report_audit.specs.ReportAudits.{IsReportAudit}
use Rattle.pct_command.specs.declared.status.Status.TheVariants as status
use Rattle.pct_command.specs.Expectations.{InputRefused, Judged, code_of_judgement}
use Rattle.pct_command.specs.Audits as audits
use Rattle.pct_command.specs.Audits.{code_of_audit}
use Rattle.pct_command.specs.Words.{accepts, Asks, asks_audit, asks_expect, job_asked, judges_report, reads_input}
use Rattle.pct_command.specs.Command.{Audited, Expected, Other, Sampled, IsClosedRun, IsReplayed, IsLawful, IsReportOf, IsAnswer, options_for}
use Rattle.pct_command.specs.Answer.{HasScript, status_of_verdict, verdict_of_run, text_of_run, summary_of_run, code_of_answer}
use Rattle.pct_command.proofs.AskedWords.{input_is_no_judging, names_job, nothing_asked, other_job, part_of_run, part_of_check, part_of_sample, replay_asks_replay}

-- ---- reports

-- the verdict and the report of an engine that has this run
pub run-verdict : (engine : EngineValue) (after : Run) → IsRunOf engine after → verdict_of_run engine ≡ verdict_of engine.script engine.config after.world (length engine.history)
run-verdict engine after is_run = ap (λ (o : Option Run). option_map_or (λ r. verdict_of engine.script engine.config r.world (length engine.history)) o verdict.Open) is_run

pub run-text : (engine : EngineValue) (after : Run) → IsRunOf engine after → text_of_run engine ≡ report_of engine.script engine.config engine.history after
run-text engine after is_run = ap (λ (o : Option Run). option_map_or (report_of engine.script engine.config engine.history) o []) is_run

pub run-report : (engine : EngineValue) (after : Run) → IsRunOf engine after → report engine.script engine.config engine.history ≡ Some (text_of_run engine)
unfolding report
run-report engine after is_run =
    ap (option_map (report_of engine.script engine.config engine.history)) is_run
    ∙ ap (λ (text : List ℕ). Some text) (sym (run-text engine after is_run))

-- the code of a verdict
abbrev pub code_by : Verdict → ℕ
code_by v = code_of (status_of_verdict v)

pub code-is : (v : Verdict) → code_by v ≡ code_of_verdict v
unfolding code_of_verdict
code-is verdict.Complete = refl
code-is verdict.Deadlock = refl
code-is verdict.Budget = refl
code-is (verdict.Undefined why) = refl
code-is verdict.Open = refl

pub run-code : (engine : EngineValue) (after : Run) → IsRunOf engine after → code_of_answer (answer.Ran engine) ≡ code_of_verdict (verdict_of engine.script engine.config after.world (length engine.history))
run-code engine after is_run = code-is (verdict_of_run engine) ∙ ap code_of_verdict (run-verdict engine after is_run)

-- the run of a schedule that is read from an input is the outcome of `replay`
replay-outcome : (words : List (List ℕ)) (input : List ℕ) (schedule : List Entry) (engine : EngineValue) (after : Run)
    → is_asked keyword.Replay words ≡ true → HasScript words input engine.script → sched_of (schedule_part input) ≡ Ok (engine.config, engine.history) → IsRunOf engine after
    → Outcome words input schedule (code_of_answer (answer.Ran engine)) (text_of_run engine)
replay-outcome words input schedule engine after asked has read is_run =
    outcome.Replayed (record {
      accepted = asked;
      fits = has.fits;
      script = engine.script;
      spelled = has.spelled;
      config = engine.config;
      entries = engine.history;
      read = read;
      after = after;
      is_run = is_run;
      code_is = run-code engine after is_run;
      text_is = run-report engine after is_run;
    })

-- an engine with the configuration of a `run` with these options, and the format of the script
abbrev pub with_options : RunOptions → Script → List Entry → EngineValue
with_options options script entries = record { script = script; config = config_for script options.config; history = entries }

run-outcome : (words : List (List ℕ)) (input : List ℕ) (options : RunOptions) (script : Script) (entries : List Entry) (after : Run)
    → run_options words ≡ Some options → HasScript words input script → IsRunOf (with_options options script entries) after
    → Outcome words input entries (code_of_answer (answer.Ran (with_options options script entries))) (text_of_run (with_options options script entries))
run-outcome words input options script entries after asked has is_run =
    outcome.Ran (record {
      options = options;
      accepted = asked;
      fits = has.fits;
      script = script;
      spelled = subst (λ (part : List ℕ). Spells part script) (part_of_run words input options asked) has.spelled;
      after = after;
      is_run = is_run;
      code_is = run-code (with_options options script entries) after is_run;
      text_is = run-report (with_options options script entries) after is_run;
    })

-- the schedule of a report is replayed from any input that has it
is-replayed : (words : List (List ℕ)) (input : List ℕ) (engine : EngineValue) (after : Run)
    → HasScript words input engine.script → sched_of (text_of_run engine) ≡ Ok (engine.config, engine.history) → IsRunOf engine after
    → IsReplayed words input (code_of_answer (answer.Ran engine)) (text_of_run engine)
is-replayed words input engine after has read_back is_run = λ other again same_part part same fits.
    let spelled = subst (λ (s : Script). Spells (script_part (keyword_text keyword.Replay ∷ []) again) s) (spells_one_script _ other engine.script same_part has.spelled) part in
    replay-outcome (keyword_text keyword.Replay ∷ []) again [] engine after replay_asks_replay (record { fits = fits; spelled = spelled }) (same ∙ read_back) is_run

-- the events of a report keep the laws
is-lawful : (passes : ReportsOfRunsPass) (words : List (List ℕ)) (input : List ℕ) (engine : EngineValue) (after : Run) → HasScript words input engine.script → IsRunOf engine after → IsLawful words input (text_of_run engine)
is-lawful passes words input engine after has is_run = record {
  script = engine.script;
  spelled = has.spelled;
  config = engine.config;
  entries = engine.history;
  after = after;
  is_run = is_run;
  text_is = run-report engine after is_run;
  laws = (keeps_laws engine after is_run).laws;
  kept = (keeps_laws engine after is_run).kept;
  audited = subst (Passes engine.config (length after.events)) (sym (run-text engine after is_run)) (passes engine.script engine.config engine.history after is_run);
}

-- the schedule of a report is read back
pub read-back : (engine : EngineValue) (after : Run) → IsRunOf engine after → sched_of (text_of_run engine) ≡ Ok (engine.config, engine.history)
read-back engine after is_run = report_is_read_back engine.script engine.config engine.history (text_of_run engine) (run-report engine after is_run)

-- ---- answers

-- what holds of the report of the job that the words name
of-job : (words : List (List ℕ)) (job : Job) (input : List ℕ) (schedule : List Entry) (code : ℕ) (text : List ℕ) → Asks words job → IsReportOf (Some job) words input schedule code text → IsReportOf (job_asked words) words input schedule code text
of-job words job input schedule code text asks holds = subst (λ (named : Option Job). IsReportOf named words input schedule code text) (sym (names_job words job asks)) holds

-- a run that is not open has another code
closed_code : (v : Verdict) → ¬ (v ≡ verdict.Open) → code_by v ≢ 4
closed_code verdict.Complete closed e = absurd (omega (arith, e))
closed_code verdict.Deadlock closed e = absurd (omega (arith, e))
closed_code verdict.Budget closed e = absurd (omega (arith, e))
closed_code (verdict.Undefined why) closed e = absurd (omega (arith, e))
closed_code verdict.Open closed e = closed refl

run-with_options : (passes : ReportsOfRunsPass) (words : List (List ℕ)) (input : List ℕ) (options : RunOptions) (script : Script) (entries : List Entry)
    → run_options words ≡ Some options → HasScript words input script → WorkersSchedule script (options_for script options) entries
    → IsAnswer words input (code_of_answer (answer.Ran (with_options options script entries))) (text_of_run (with_options options script entries))
run-with_options passes words input options script entries asked has worked =
    let engine : EngineValue = with_options options script entries in
    let whole = worked.whole in
    let read_back = read-back engine whole.after whole.is_run in
    let closed : ¬ (verdict_of_run engine ≡ verdict.Open) = λ is_open. whole.is_closed (sym (run-verdict engine whole.after whole.is_run) ∙ is_open) in
    let closed_run : IsClosedRun options words input entries (code_of_answer (answer.Ran engine)) (text_of_run engine) = record { script = script; spelled = has.spelled; read_back = read_back; worked = worked; closed = closed_code (verdict_of_run engine) closed } in
    record {
      schedule = entries;
      is_outcome = Other (other_job words (run_job options) asked refl) (run-outcome words input options script entries whole.after asked has whole.is_run);
      is_report = λ below. of-job words (run_job options) input entries _ _ asked (closed_run, (is-replayed words input engine whole.after has read_back whole.is_run, is-lawful passes words input engine whole.after has whole.is_run));
    }

-- a run that the workers made from an engine of the script without entries is the answer of `run`
pub run-answer : (passes : ReportsOfRunsPass) (words : List (List ℕ)) (input : List ℕ) (script : Script) (options : RunOptions) (opened engine : EngineValue)
    → run_options words ≡ Some options → HasScript words input script → opened ≡ with_options options script []
    → (engine.script ≡ opened.script) × (engine.config ≡ opened.config) × WorkersSchedule opened.script (options_for script options) engine.history
    → IsAnswer words input (code_of_answer (answer.Ran engine)) (text_of_run engine)
run-answer passes words input script options opened engine asked has opened_is made =
    let script_is : engine.script ≡ script = made.0 ∙ ap (λ (e : EngineValue). e.script) opened_is in
    let config_is : engine.config ≡ config_for script options.config = made.1 ∙ ap (λ (e : EngineValue). e.config) opened_is in
    let same : with_options options script engine.history ≡ engine =
    ap (λ (s : Script). record engine { script = s; config = config_for script options.config }) (sym script_is)
    ∙ ap (λ (c : Config). record engine { config = c }) (sym config_is) in
    subst (λ (e : EngineValue). IsAnswer words input (code_of_answer (answer.Ran e)) (text_of_run e)) same
    (run-with_options passes words input options script engine.history asked has (subst (λ (e : EngineValue). WorkersSchedule e.script (options_for script options) engine.history) opened_is made.2))

replay-read : (passes : ReportsOfRunsPass) (words : List (List ℕ)) (input : List ℕ) (engine : EngineValue) (after : Run)
    → is_asked keyword.Replay words ≡ true → HasScript words input engine.script → sched_of (schedule_part input) ≡ Ok (engine.config, engine.history) → IsRunOf engine after
    → IsAnswer words input (code_of_answer (answer.Ran engine)) (text_of_run engine)
replay-read passes words input engine after asked has read is_run =
    let read_back = read-back engine after is_run in
    record {
      schedule = [];
      is_outcome = Other (other_job words Replay asked refl) (replay-outcome words input [] engine after asked has read is_run);
      is_report = λ below. of-job words Replay input [] _ _ asked (read_back ∙ sym read, (is-replayed words input engine after has read_back is_run, is-lawful passes words input engine after has is_run));
    }

pub replay-answer : (passes : ReportsOfRunsPass) (words : List (List ℕ)) (input : List ℕ) (script : Script) (config : Config) (entries : List Entry) (engine : EngineValue)
    → is_asked keyword.Replay words ≡ true → HasScript words input script → sched_of (schedule_part input) ≡ Ok (config, entries) → engine ≡ record { script = script; config = config; history = entries } → (after : Run) × IsRunOf engine after
    → IsAnswer words input (code_of_answer (answer.Ran engine)) (text_of_run engine)
replay-answer passes words input script config entries engine asked has read same runs =
    subst (λ (e : EngineValue). (after : Run) → IsRunOf e after → IsAnswer words input (code_of_answer (answer.Ran e)) (text_of_run e)) (sym same)
    (λ after is_run. replay-read passes words input (record { script = script; config = config; history = entries }) after asked has read is_run)
    runs.0 runs.1

-- the canonical text is the answer of `check`
pub check-answer : (words : List (List ℕ)) (input : List ℕ) (script : Script) → is_asked keyword.Check words ≡ true → HasScript words input script → IsAnswer words input 0 (canon script)
check-answer words input script asked has = record {
  schedule = [];
  is_outcome = Other (other_job words Check asked refl) (outcome.Checked (record { accepted = asked; fits = has.fits; script = script; spelled = subst (λ (part : List ℕ). Spells part script) (part_of_check words input asked) has.spelled; code_is = refl; text_is = refl }));
  is_report = λ below. of-job words Check input [] _ _ asked tt;
}

-- the table of points is the answer of `points`
pub points-answer : (words : List (List ℕ)) (input : List ℕ) → is_asked keyword.Points words ≡ true → IsAnswer words input 0 points_text
points-answer words input asked = record {
  schedule = [];
  is_outcome = Other (other_job words Points asked refl) (outcome.PointsWritten (record { accepted = asked; code_is = refl; text_is = refl }));
  is_report = λ below. of-job words Points input [] _ _ asked tt;
}

-- the summary of an engine that has this run
pub run-summary : (number : ℕ) (engine : EngineValue) (after : Run) → IsRunOf engine after → summary_of_run number engine ≡ summary_of number engine.script engine.config engine.history after
run-summary number engine after is_run = ap (λ (o : Option Run). option_map_or (summary_of number engine.script engine.config engine.history) o []) is_run

-- the summary of the counted run of the generated script is the answer of `demo`
pub demo-answer : (words : List (List ℕ)) (input : List ℕ) (number : ℕ) (script : Script) (engine : EngineValue)
    → demo_number words ≡ Some number → canon script ≡ generated_text number → IsCountedEngine script default_config engine → IsAnswer words input 0 (summary_of_run number engine)
demo-answer words input number script engine asked generated ran =
    let same : summary_of_run number engine ≡ summary_of number script default_config engine.history ran.after =
    ap (summary_of_run number) ran.engine_is ∙ run-summary number (record { script = script; config = default_config; history = engine.history }) ran.after ran.counted.is_run in
    record {
      schedule = [];
      is_outcome = Other (other_job words (Demo number) asked refl) (outcome.Demonstrated (record { number = number; accepted = asked; script = script; generated = generated; entries = engine.history; after = ran.after; is_run = ran.counted; code_is = refl; text_is = same }));
      is_report = λ below. of-job words (Demo number) input [] _ _ asked tt;
    }

-- the tally of the runs of the script is the answer of `sample`
pub sample-answer : (words : List (List ℕ)) (input : List ℕ) (seeds : ℕ) (script : Script) (tally : Tally)
    → sample_number words ≡ Some seeds → HasScript words input script → TallyOf script (first_seeds seeds) tally → AreFirstSeeds script (first_seeds seeds) tally → IsAnswer words input 0 (text_of (tally_lines seeds tally))
sample-answer words input seeds script tally asked has counted first = record {
  schedule = [];
  is_outcome = Sampled (record {
    number = seeds;
    accepted = asked;
    fits = has.fits;
    script = script;
    spelled = subst (λ (part : List ℕ). Spells part script) (part_of_sample words input seeds asked) has.spelled;
    tally = tally;
    counted = counted;
    first = first;
    code_is = refl;
    text_is = refl;
  });
  is_report = λ below. of-job words (Sample seeds) input [] _ _ asked tt;
}

-- the code of a judgement is that of its status
tested-code : (b : Bool) → code_of (cond b status.Complete status.ExpectFailed) ≡ cond b 0 14
tested-code true = refl
tested-code false = refl

judgement-code : (j : Judgement) → code_of_answer (answer.Judged j) ≡ code_of_judgement j
judgement-code (judgement.Answered answers) = tested-code (nat_eq (failed_count answers) 0)
judgement-code (judgement.ExpectRefused line why) = refl
judgement-code (judgement.ReportRefused line why) = refl

-- a judgement of the report in the input is the answer of `expect`
pub judgement-answer : (words : List (List ℕ)) (input : List ℕ) (j : Judgement) → asks_expect words ≡ true → length input ≤ 16777216 → IsJudgement (rules_part input) (report_part input) j
    → IsAnswer words input (code_of_answer (answer.Judged j)) (judgement_text j)
judgement-answer words input j asked fits is = record {
  schedule = [];
  is_outcome = Expected (Judged (record { accepted = asked; fits = fits; judgement = j; is_judgement = is; code_is = judgement-code j; text_is = refl }));
  is_report = λ below. of-job words Expect input [] _ _ asked tt;
}

-- the code of an audit is that of its status
audit-code : (a : ReportAudit) → code_of_answer (answer.Audited a) ≡ code_of_audit a
audit-code (audit.Passed events) = refl
audit-code (audit.Failed fault) = refl
audit-code (audit.Refused line why) = refl

-- an audit of the report that is the input is the answer of `audit`
pub audit-answer : (words : List (List ℕ)) (input : List ℕ) (a : ReportAudit) → asks_audit words ≡ true → length input ≤ 16777216 → IsReportAudit input a → IsAnswer words input (code_of_answer (answer.Audited a)) (audit_text a)
audit-answer words input a asked fits is = record {
  schedule = [];
  is_outcome = Audited (audits.Audited (record { accepted = asked; fits = fits; audit = a; is_audit = is; code_is = audit-code a; text_is = refl }));
  is_report = λ below. of-job words Audit input [] _ _ asked tt;
}

-- ---- refusals

-- a refusal is no report
refusal : (words : List (List ℕ)) (input : List ℕ) (code : ℕ) (text : List ℕ) → 4 < code → judges_report words ≡ false → Outcome words input [] code text → IsAnswer words input code text
refusal words input code text above no_judging is_outcome = record { schedule = []; is_outcome = Other no_judging is_outcome; is_report = λ below. absurd (omega (arith, above, below)) }

pub words-answer : (words : List (List ℕ)) (input : List ℕ) → accepts words ≡ false → IsAnswer words input 5 (line_text refused_words)
words-answer words input refused =
    let nothing = nothing_asked words refused in
    refusal words input 5 _ (omega arith) nothing.no_judging (outcome.WordsRefused (record { refused = nothing.refused; code_is = refl; text_is = refl }))

-- one part holds if the other does not
or_left : (b : Bool) → (b || false) ≡ true → b ≡ true
or_left true is = refl
or_left false is = is

long-answer : (words : List (List ℕ)) (input : List ℕ) (expect audits : Bool) → asks_expect words ≡ expect → asks_audit words ≡ audits → (needs_input words || (expect || audits)) ≡ true → 16777216 < length input → IsAnswer words input 8 (line_text refused_input)
long-answer words input true other asked _ reads too_long = record {
  schedule = [];
  is_outcome = Expected (InputRefused (record { accepted = asked; too_long = too_long; code_is = refl; text_is = refl }));
  is_report = λ below. of-job words Expect input [] _ _ asked tt;
}
long-answer words input false true no_expect asked reads too_long = record {
  schedule = [];
  is_outcome = Audited (audits.InputRefused (record { accepted = asked; too_long = too_long; code_is = refl; text_is = refl }));
  is_report = λ below. of-job words Audit input [] _ _ asked tt;
}
long-answer words input false false no_expect no_audit reads too_long =
    let no_judging : judges_report words ≡ false = ap (λ (b : Bool). b || asks_audit words) no_expect ∙ no_audit in
    refusal words input 8 _ (omega arith) no_judging (outcome.InputRefused (record { accepted = or_left (needs_input words) reads; too_long = too_long; code_is = refl; text_is = refl }))

pub input-answer : (words : List (List ℕ)) (input : List ℕ) → reads_input words ≡ true → 16777216 < length input → IsAnswer words input 8 (line_text refused_input)
input-answer words input reads too_long = long-answer words input (asks_expect words) (asks_audit words) refl refl reads too_long

pub script-answer : (words : List (List ℕ)) (input : List ℕ) (line : ℕ) (why : ParseWhy) → needs_input words ≡ true → length input ≤ 16777216 → FirstFault (script_part words input) line why → IsAnswer words input 6 (line_text (refused_script line why))
script-answer words input line why accepted fits first =
    refusal words input 6 _ (omega arith) (input_is_no_judging words accepted) (outcome.ScriptRefused (record { accepted = accepted; fits = fits; line = line; why = why; first = first; code_is = refl; text_is = refl }))

pub schedule-answer : (words : List (List ℕ)) (input : List ℕ) (script : Script) (line : ℕ) (why : ScheduleWhy) → is_asked keyword.Replay words ≡ true → HasScript words input script
    → sched_of (schedule_part input) ≡ Err (line, why) → IsAnswer words input 7 (line_text (refused_schedule line why))
schedule-answer words input script line why asked has first =
    refusal words input 7 _ (omega arith) (other_job words Replay asked refl) (outcome.ScheduleRefused (record { accepted = asked; fits = has.fits; script = script; spelled = has.spelled; line = line; why = why; first = first; code_is = refl; text_is = refl }))

pub entry-answer : (words : List (List ℕ)) (input : List ℕ) (script : Script) (config : Config) (entries : List Entry) (entry_number : ℕ) → is_asked keyword.Replay words ≡ true → HasScript words input script
    → sched_of (schedule_part input) ≡ Ok (config, entries) → first_illegal script config entries ≡ Some entry_number → IsAnswer words input 7 (line_text (refused_entry entry_number))
entry-answer words input script config entries entry_number asked has read illegal =
    refusal words input 7 _ (omega arith) (other_job words Replay asked refl) (outcome.EntryRefused (record { accepted = asked; fits = has.fits; script = script; spelled = has.spelled; config = config; entries = entries; read = read; entry_number = entry_number; illegal = illegal; code_is = refl; text_is = refl }))
