-- What is answered is an outcome.
use Rattle.pct_names.proofs.Names.{◌<◌, ap, Bool, code_of_verdict, cond, Config, config_for, Entry, Err, false, first_illegal, FirstFault, length, line_text, List}
use Rattle.pct_names.proofs.Names.{None, Ok, Option, ParseWhy, refl, refused_input, refused_schedule, refused_script, refused_words, Run}
use Rattle.pct_names.proofs.Names.{ScheduleWhy, Script, Some, Spells, subst, sym, text_of, true, verdict_of, ℕ, ◌∙◌, ◌≡◌, ◌≤◌}
use Rattle.pct_expect.specs.declared.fault.ExpectWhy.{ExpectWhy}
use Rattle.pct_expect.specs.declared.rule.Rule.{Rule}
use Rattle.pct_expect.specs.Reading.{expects_in}
use Rattle.pct_expect.specs.declared.span.Span.{Span}
use Rattle.pct_report_reader.specs.declared.fault.ReportWhy.{ReportWhy}
use Rattle.pct_report_reader.specs.Reading.{report_in}
use Rattle.pct_judgement.specs.AnswerTexts.{refused_report}
use Rattle.pct_event_judge.specs.declared.findings.Findings.{Findings}
use Rattle.pct_event_judge.specs.Findings.{are_kept}
use Rattle.pct_report_judge.specs.FindingsTexts.{findings_text}
use Rattle.pct_report_judge.specs.ReportFindings.{IsJudged}
use Rattle.pct_survey.specs.declared.counting.Survey.{Survey}
use Rattle.pct_survey.specs.Surveys.{IsSurveyOf, has_failure}
use Rattle.pct_command.specs.declared.status.Status.TheVariants as status
use Rattle.pct_command.specs.Status.{code_of}
use Rattle.pct_engine.specs.EngineStates.{EngineValue, IsRunOf}
use Rattle.pct_engine.proofs.EngineLaws.{keeps_laws}
use Rattle.pct_history.specs.Replays.{followed, Follows}
use Rattle.pct_command.specs.SeedSchedule.{SeedContinuation}
use Rattle.pct_command.specs.Answer.{text_of_run}
use Rattle.pct_command.proofs.Outcomes.{read-back, run-code, run-report}
use Rattle.pct_sample.specs.FirstSeeds.{AreFirstSeeds}
use Rattle.pct_sample.specs.Samples.{TallyOf}
use Rattle.pct_tallies.specs.declared.fault.TallyWhy.{TallyWhy}
use Rattle.pct_tallies.specs.declared.range_tally.RangeTally.{RangeTally}
use Rattle.pct_tallies.specs.declared.range_tally.Subject.{Subject}
use Rattle.pct_tallies.specs.declared.seeds.Seeds.{Seeds}
use Rattle.pct_tallies.specs.declared.tally.Tally.{Tally}
use Rattle.pct_tallies.specs.TallyTexts.{range_lines}
use Rattle.pct_inspection.specs.declared.answer.Answer.TheVariants as answer
use Rattle.pct_inspection.specs.declared.words.Inspection.{Inspection}
use Rattle.pct_inspection.specs.declared.words.Inspection.TheVariants as inspection
use Rattle.pct_inspection.specs.Words.{is_inspection}
use Rattle.pct_inspection.specs.Inspection.{prefix_for, code_by, follows_prefix, script_asked, IsInspected}
use Rattle.pct_inspection.specs.Inspection as outcome
use Rattle.pct_inspection.specs.TallyOutcomes.{IsTotalIn, NotRead, refused_tally, subject_of, Totalled}
use Rattle.pct_inspection.specs.SurveyOutcomes.{refused_expect}
use Rattle.pct_inspection.specs.Answer.{code_of_answer, status_of_findings, text_of_answer, AsksFor, AsksToContinue, HasParts, HasScript}
use Rattle.pct_inspection.proofs.Inputs.{is_accepted}
use Rattle.pct_inspection.proofs.Totals.{same_err}

-- ---- runs

-- the code of a run
code-is : (engine : EngineValue) (after : Run) (illegal : Option ℕ) → IsRunOf engine after
    → code_of_answer (answer.Continued engine illegal) ≡ code_by illegal (code_of_verdict (verdict_of engine.script engine.config after.world (length engine.history)))
code-is engine after None is_run = run-code engine after is_run
code-is engine after (Some entry_number) is_run = refl

-- a run that begins with the entries of a prefix, and goes on as a seed chooses
continues : (words : List (List ℕ)) (input : List ℕ) (seed : ℕ) (engine : EngineValue) (entries : List Entry) (illegal : Option ℕ)
    → AsksToContinue words seed → HasScript input engine.script → prefix_for engine.script input ≡ Ok (engine.config, entries)
    → first_illegal engine.script engine.config entries ≡ illegal → SeedContinuation engine.script engine.config seed (followed illegal entries) engine.history
    → IsInspected words input (code_of_answer (answer.Continued engine illegal)) (text_of_answer (answer.Continued engine illegal))
continues words input seed engine entries illegal asked has read first continued =
    let after = continued.whole.after in
    let is_run : IsRunOf engine after = continued.whole.is_run in
    outcome.Continued (record {
      seed = seed;
      asked = asked;
      fits = has.fits;
      script = engine.script;
      spelled = has.spelled;
      config = engine.config;
      entries = entries;
      read = read;
      illegal = illegal;
      illegal_is = first;
      schedule = engine.history;
      continued = continued;
      after = after;
      is_run = is_run;
      code_is = code-is engine after illegal is_run;
      report_text = text_of_run engine;
      report_is = run-report engine after is_run;
      text_is = refl;
      read_back = read-back engine after is_run;
      laws = (keeps_laws engine after is_run).laws;
      kept = (keeps_laws engine after is_run).kept;
    })

-- the answer of an engine that followed the entries of a prefix, and then went on as a seed chooses
pub continue-answer : (words : List (List ℕ)) (input : List ℕ) (seed : ℕ) (script : Script) (config : Config) (entries : List Entry) (before engine : EngineValue) (illegal : Option ℕ)
    → AsksToContinue words seed → HasScript input script → prefix_for script input ≡ Ok (config, entries)
    → Follows script config entries before illegal → engine ≡ record before { history = engine.history } → SeedContinuation before.script before.config seed before.history engine.history
    → IsInspected words input (code_of_answer (answer.Continued engine illegal)) (text_of_answer (answer.Continued engine illegal))
continue-answer words input seed script config entries before engine illegal asked has read follows same continued =
    let went_on : EngineValue = record { script = script; config = config; history = engine.history } in
    let is : went_on ≡ engine = sym (same ∙ ap (λ (e : EngineValue). record e { history = engine.history }) follows.engine_is) in
    let begun : SeedContinuation script config seed (followed illegal entries) engine.history =
    subst (λ (e : EngineValue). SeedContinuation e.script e.config seed e.history engine.history) follows.engine_is continued in
    subst (λ (e : EngineValue). IsInspected words input (code_of_answer (answer.Continued e illegal)) (text_of_answer (answer.Continued e illegal))) is
    (continues words input seed went_on entries illegal asked has read follows.illegal_is begun)

-- ---- refusals

pub words-answer : (words : List (List ℕ)) (input : List ℕ) → is_inspection words ≡ false → IsInspected words input 5 (line_text refused_words)
words-answer words input refused = outcome.WordsRefused (record { refused = refused; code_is = refl; text_is = refl })

pub input-answer : (words : List (List ℕ)) (input : List ℕ) (what : Inspection) → AsksFor words what → 16777216 < length input → IsInspected words input 8 (line_text refused_input)
input-answer words input what asked too_long = outcome.InputRefused (record { accepted = is_accepted words what asked; too_long = too_long; code_is = refl; text_is = refl })

pub script-answer : (words : List (List ℕ)) (input part : List ℕ) (what : Inspection) (line : ℕ) (why : ParseWhy) → AsksFor words what → script_asked (Some what) input ≡ Some part → length input ≤ 16777216 → FirstFault part line why → IsInspected words input 6 (line_text (refused_script line why))
script-answer words input part what line why asked of_part fits first =
    outcome.ScriptRefused (record { part = part; asked = ap (λ (o : Option Inspection). script_asked o input) asked ∙ of_part; fits = fits; line = line; why = why; first = first; code_is = refl; text_is = refl })

pub prefix-answer : (words : List (List ℕ)) (input : List ℕ) (what : Inspection) (script : Script) (line : ℕ) (why : ScheduleWhy) → AsksFor words what → follows_prefix (Some what) ≡ true → HasScript input script
    → prefix_for script input ≡ Err (line, why) → IsInspected words input 7 (line_text (refused_schedule line why))
prefix-answer words input what script line why asked follows has first =
    outcome.PrefixRefused (record { accepted = ap follows_prefix asked ∙ follows; fits = has.fits; script = script; spelled = has.spelled; line = line; why = why; first = first; code_is = refl; text_is = refl })

-- ---- tallies

-- the tally of the runs of the script
pub tally-answer : (words : List (List ℕ)) (input : List ℕ) (seeds : Seeds) (script : Script) (subject : Subject) (tally : Tally)
    → AsksFor words (inspection.Tally seeds) → length input ≤ 16777216 → Spells input script → subject ≡ subject_of script → TallyOf script seeds tally → AreFirstSeeds script seeds tally
    → IsInspected words input 0 (text_of (range_lines (record { seeds = seeds; subject = subject; tally = tally })))
tally-answer words input seeds script subject tally asked fits spelled of_script counted first =
    outcome.Tallied (record {
      seeds = seeds;
      asked = asked;
      fits = fits;
      script = script;
      spelled = spelled;
      tally = tally;
      counted = counted;
      first = first;
      code_is = refl;
      text_is = ap (λ (s : Subject). text_of (range_lines (record { seeds = seeds; subject = s; tally = tally }))) of_script;
    })

-- the sum of the tallies in an input
pub sum-answer : (words : List (List ℕ)) (input : List ℕ) (total : RangeTally) → AsksFor words inspection.Sum → length input ≤ 16777216 → IsTotalIn input (Ok total) → IsInspected words input 0 (text_of (range_lines total))
sum-answer words input total asked fits (NotRead fault read is) = absurd cc
sum-answer words input total asked fits (Totalled tallies read summed) =
    outcome.Summed (record { asked = asked; fits = fits; tallies = tallies; read = read; total = total; summed = summed; code_is = refl; text_is = refl })

-- tallies without a sum, or an input that is not only tallies
pub sum_refusal-answer : (words : List (List ℕ)) (input : List ℕ) (line : ℕ) (why : TallyWhy) → AsksFor words inspection.Sum → length input ≤ 16777216 → IsTotalIn input (Err (line, why)) → IsInspected words input 16 (line_text (refused_tally line why))
sum_refusal-answer words input line why asked fits (NotRead fault read is) =
    let same : fault ≡ (line, why) = same_err {X = RangeTally} (Err (line, why)) fault (line, why) is refl in
    outcome.TalliesRefused (record { asked = asked; fits = fits; line = line; why = why; read = read ∙ ap Err same; code_is = refl; text_is = refl })
sum_refusal-answer words input line why asked fits (Totalled tallies read refused) =
    outcome.SumRefused (record { asked = asked; fits = fits; tallies = tallies; read = read; line = line; why = why; refused = refused; code_is = refl; text_is = refl })

-- ---- surveys

code_of_test : (failed : Bool) → code_of (cond failed status.ExpectFailed status.Complete) ≡ cond failed 14 0
code_of_test true = refl
code_of_test false = refl

-- what is counted of the rules of an expectation
pub survey-answer : (words : List (List ℕ)) (input expectation : List ℕ) (seeds : ℕ) (config used : Config) (script : Script) (rules : List Rule) (survey : Survey)
    → AsksFor words (inspection.Survey seeds config) → HasParts input script expectation → expects_in expectation ≡ Ok rules → used ≡ config_for script config → IsSurveyOf script used rules seeds survey
    → IsInspected words input (code_of_answer (answer.Surveyed survey)) (text_of_answer (answer.Surveyed survey))
survey-answer words input expectation seeds config used script rules survey asked has read used_is counted =
    outcome.Surveyed (record {
      seeds = seeds;
      config = config;
      asked = asked;
      fits = has.has_script.fits;
      script = script;
      spelled = has.has_script.spelled;
      rules = rules;
      read = ap expects_in (sym has.rest) ∙ read;
      survey = survey;
      counted = subst (λ (c : Config). IsSurveyOf script c rules seeds survey) used_is counted;
      code_is = code_of_test (has_failure survey);
      text_is = refl;
    })

-- an expectation with a fault
pub expectation-answer : (words : List (List ℕ)) (input expectation : List ℕ) (seeds : ℕ) (config : Config) (script : Script) (line : ℕ) (why : ExpectWhy)
    → AsksFor words (inspection.Survey seeds config) → HasParts input script expectation → expects_in expectation ≡ Err (line, why) → IsInspected words input 15 (line_text (refused_expect line why))
expectation-answer words input expectation seeds config script line why asked has first =
    outcome.ExpectationRefused (record {
      seeds = seeds;
      config = config;
      asked = asked;
      fits = has.has_script.fits;
      script = script;
      spelled = has.has_script.spelled;
      line = line;
      why = why;
      first = ap expects_in (sym has.rest) ∙ first;
      code_is = refl;
      text_is = refl;
    })

-- ---- reports

-- the code by whether each law is kept
code_of_kept : (kept : Bool) → code_of (status_of_findings kept) ≡ cond kept 0 12
code_of_kept true = refl
code_of_kept false = refl

-- what is found of a report
pub judge-answer : (words : List (List ℕ)) (input text : List ℕ) (kept : Bool) (found : Findings) (lines : List Span)
    → AsksFor words inspection.Judge → length input ≤ 16777216 → IsJudged input found lines → kept ≡ are_kept found → text ≡ findings_text input lines found
    → IsInspected words input (code_of (status_of_findings kept)) text
judge-answer words input text kept found lines asked fits judged kept_is text_is =
    outcome.Judged (record { asked = asked; fits = fits; found = found; lines = lines; judged = judged; code_is = code_of_kept kept ∙ ap (λ (b : Bool). cond b 0 12) kept_is; text_is = text_is })

-- an input that is not a report
pub report-answer : (words : List (List ℕ)) (input : List ℕ) (line : ℕ) (why : ReportWhy) → AsksFor words inspection.Judge → length input ≤ 16777216
    → report_in input ≡ Err (line, why) → IsInspected words input 13 (line_text (refused_report line why))
report-answer words input line why asked fits first = outcome.ReportRefused (record { asked = asked; fits = fits; line = line; why = why; first = first; code_is = refl; text_is = refl })
