-- The outcomes of `judge`.
use Rattle.std.specs.Prelude.{◌≡◌, ℕ, ◌≤◌, if◌then◌else◌, List, length, Some, Err}
use Rattle.pct_model.specs.declared.limits.TheConstants.{MAX_INPUT}
use Rattle.pct_model.specs.Keywords.{line_text}
use Rattle.pct_expect.specs.declared.span.Span.{Span}
use Rattle.pct_report_reader.specs.declared.fault.ReportWhy.{ReportWhy}
use Rattle.pct_report_reader.specs.Reading.{report_in}
use Rattle.pct_judgement.specs.AnswerTexts.{refused_report}
use Rattle.pct_event_judge.specs.declared.findings.Findings.{Findings}
use Rattle.pct_event_judge.specs.Findings.{are_kept}
use Rattle.pct_report_judge.specs.FindingsTexts.{findings_text}
use Rattle.pct_report_judge.specs.ReportFindings.{IsJudged}
use Rattle.pct_inspection.specs.declared.words.Inspection.TheVariants as inspection
use Rattle.pct_inspection.specs.Words.{inspection_asked}

-- the exit code of findings: whether each law is kept
abbrev pub code_of_findings : Findings → ℕ
code_of_findings found = if are_kept found then 0 else 12

-- `judge` of an input that is not a report: its first fault is reported
pub record RefusesReport (words : List (List ℕ)) (input : List ℕ) (code : ℕ) (text : List ℕ) : Type 0 where
  pub asked : inspection_asked words ≡ Some inspection.Judge
  pub fits : length input ≤ MAX_INPUT
  pub line : ℕ
  pub why : ReportWhy
  pub first : report_in input ≡ Err (line, why)
  pub code_is : code ≡ 13
  pub text_is : text ≡ line_text (refused_report line why)

-- `judge` of a report: for each law the first event that it does not allow
pub record Judges (words : List (List ℕ)) (input : List ℕ) (code : ℕ) (text : List ℕ) : Type 0 where
  pub asked : inspection_asked words ≡ Some inspection.Judge
  pub fits : length input ≤ MAX_INPUT
  pub found : Findings
  pub lines : List Span
  pub judged : IsJudged input found lines
  pub code_is : code ≡ code_of_findings found
  pub text_is : text ≡ findings_text input lines found
