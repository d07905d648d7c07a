-- The outcomes of `expect`.
use Rattle.std.specs.Prelude.{◌≡◌, ◌⊎◌, ℕ, ◌≤◌, true, if◌then◌else◌, List, length, nat_eq, Ok}
use Rattle.pct_model.specs.declared.limits.TheConstants.{MAX_INPUT}
use Rattle.pct_model.specs.declared.schedule.Config.{Config}
use Rattle.pct_expect.specs.declared.rule.Rule.{Rule}
use Rattle.pct_expect.specs.declared.span.Span.{Span}
use Rattle.pct_expect.specs.Reading.{expects_in}
use Rattle.pct_report_reader.specs.Reading.{report_in}
use Rattle.pct_judgement.specs.declared.judgement.Judgement.{Judgement}
use Rattle.pct_judgement.specs.declared.judgement.Judgement.TheVariants as judgement
use Rattle.pct_judgement.specs.AnswerTexts.{judgement_text}
use Rattle.pct_judgement.specs.Judgements.{IsJudgement, failed_count, report_part, rules_part}
use Rattle.pct_command.specs.LongInputs.{RefusesLongInput}
use Rattle.pct_command.specs.Words.{asks_expect}

-- the exit code of a judgement: 0 if each rule holds, 14 if one does not, 15 if the rules are refused, 13 if the report is
abbrev pub code_of_judgement : Judgement → ℕ
code_of_judgement (judgement.Answered answers) = if nat_eq (failed_count answers) 0 then 0 else 14
code_of_judgement (judgement.ExpectRefused line why) = 15
code_of_judgement (judgement.ReportRefused line why) = 13

-- the judgement of the report in the input by the rules in it
pub record Judges (words : List (List ℕ)) (input : List ℕ) (code : ℕ) (text : List ℕ) : Type 0 where
  pub accepted : asks_expect words ≡ true
  pub fits : length input ≤ MAX_INPUT
  pub judgement : Judgement
  pub is_judgement : IsJudgement (rules_part input) (report_part input) judgement
  pub code_is : code ≡ code_of_judgement judgement
  pub text_is : text ≡ judgement_text judgement

-- the outcome of `expect`
pub data ExpectOutcome (words : List (List ℕ)) (input : List ℕ) (code : ℕ) (text : List ℕ) : Type 0 where
  InputRefused : RefusesLongInput (asks_expect words) input code text → ExpectOutcome words input code text
  Judged : Judges words input code text → ExpectOutcome words input code text

-- an input of `expect` that is not refused: its rules and its report have no fault
pub record HasReadParts (input : List ℕ) : Type 0 where
  pub fits : length input ≤ MAX_INPUT
  pub rules : List Rule
  pub read_rules : expects_in (rules_part input) ≡ Ok rules
  pub config : Config
  pub lines : List Span
  pub read_report : report_in (report_part input) ≡ Ok (config, lines)

-- the code of rules that are judged: each holds, or one does not
abbrev pub IsJudgedCode : ℕ → Type 0
IsJudgedCode code = (code ≡ 0) ⊎ (code ≡ 14)
