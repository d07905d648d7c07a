-- What `expect` answers: the rules of a text, judged over the events in a report.
use Rattle.std.specs.Prelude.{◌≡◌, ℕ, not, List, count_by, drop, map, take, Ok, Err}
use Rattle.pct_model.specs.declared.schedule.Config.{Config}
use Rattle.pct_model.specs.LineParsing.{words_in}
use Rattle.pct_model.specs.Schedule.{replay_parts}
use Rattle.pct_expect.specs.declared.rule.Rule.{Rule}
use Rattle.pct_expect.specs.declared.span.Span.{Span}
use Rattle.pct_expect.specs.declared.verdict.Judged.{Judged}
use Rattle.pct_expect.specs.Answers.{AreAnswers}
use Rattle.pct_expect.specs.Reading.{expects_in}
use Rattle.pct_report_reader.specs.declared.fault.ReportWhy.{ReportWhy}
use Rattle.pct_report_reader.specs.Reading.{event_lines, report_in}
use Rattle.pct_judgement.specs.declared.judgement.Judgement.{Judgement}
use Rattle.pct_judgement.specs.declared.judgement.Judgement.TheVariants.{Answered, ExpectRefused, ReportRefused}

-- ---- the parts of an input

-- the rules in an input: the part before the line `%%`
abbrev pub rules_part : List ℕ → List ℕ
rules_part input = take (replay_parts input).0 input

-- the report in it: the part after that line, empty without such a line
abbrev pub report_part : List ℕ → List ℕ
report_part input = drop (replay_parts input).1 input

-- the events in a report: the words of each event line
abbrev pub events_of : List ℕ → List (List (List ℕ))
events_of report = map (λ line. words_in line.1) (event_lines report)

-- ---- judgements

-- neither text has a fault, and these are the answers to the rules
pub record AreJudged (rules_text report : List ℕ) (answers : List Judged) : Type 0 where
  pub rules : List Rule
  pub read_rules : expects_in rules_text ≡ Ok rules
  pub config : Config
  pub lines : List Span
  pub read_report : report_in report ≡ Ok (config, lines)
  pub are_answers : AreAnswers (events_of report) rules answers

-- the rules have no fault, and the report has this one first
pub record RefusesReport (rules_text report : List ℕ) (line : ℕ) (why : ReportWhy) : Type 0 where
  pub rules : List Rule
  pub read_rules : expects_in rules_text ≡ Ok rules
  pub first : report_in report ≡ Err (line, why)

-- the judgement of a report by the rules of a text
abbrev pub IsJudgement : (rules_text report : List ℕ) → Judgement → Type 0
IsJudgement rules_text report (Answered answers) = AreJudged rules_text report answers
IsJudgement rules_text report (ExpectRefused line why) = expects_in rules_text ≡ Err (line, why)
IsJudgement rules_text report (ReportRefused line why) = RefusesReport rules_text report line why

-- how many rules do not hold, by their answers
abbrev pub failed_count : List Judged → ℕ
failed_count answers = count_by (λ answer. not answer.holds) answers
