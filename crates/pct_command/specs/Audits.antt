-- The outcomes of `audit`.
use Rattle.std.specs.Prelude.{◌≡◌, ◌⊎◌, ℕ, ◌≤◌, true, List, length, Ok}
use Rattle.pct_model.specs.declared.limits.TheConstants.{MAX_INPUT}
use Rattle.pct_model.specs.declared.schedule.Config.{Config}
use Rattle.pct_expect.specs.declared.span.Span.{Span}
use Rattle.pct_report_reader.specs.Reading.{report_in}
use Rattle.pct_report_audit.specs.declared.report_audit.ReportAudit.{ReportAudit}
use Rattle.pct_report_audit.specs.declared.report_audit.ReportAudit.TheVariants as audit
use Rattle.pct_report_audit.specs.AuditTexts.{audit_text}
use Rattle.pct_report_audit.specs.ReportAudits.{IsReportAudit}
use Rattle.pct_command.specs.LongInputs.{RefusesLongInput}
use Rattle.pct_command.specs.Words.{asks_audit}

-- the exit code of an audit: 0 if the events keep the laws, 12 if they do not, 13 if the report is refused
abbrev pub code_of_audit : ReportAudit → ℕ
code_of_audit (audit.Passed events) = 0
code_of_audit (audit.Failed fault) = 12
code_of_audit (audit.Refused line why) = 13

-- the audit of the report that is the input
pub record Audits (words : List (List ℕ)) (input : List ℕ) (code : ℕ) (text : List ℕ) : Type 0 where
  pub accepted : asks_audit words ≡ true
  pub fits : length input ≤ MAX_INPUT
  pub audit : ReportAudit
  pub is_audit : IsReportAudit input audit
  pub code_is : code ≡ code_of_audit audit
  pub text_is : text ≡ audit_text audit

-- the outcome of `audit`
pub data AuditOutcome (words : List (List ℕ)) (input : List ℕ) (code : ℕ) (text : List ℕ) : Type 0 where
  InputRefused : RefusesLongInput (asks_audit words) input code text → AuditOutcome words input code text
  Audited : Audits words input code text → AuditOutcome words input code text

-- an input of `audit` that is not refused: a report without a fault
pub record HasReadReport (input : List ℕ) : Type 0 where
  pub fits : length input ≤ MAX_INPUT
  pub config : Config
  pub lines : List Span
  pub read_report : report_in input ≡ Ok (config, lines)

-- the code of a report that is audited: its events keep the laws, or they do not
abbrev pub IsAuditedCode : ℕ → Type 0
IsAuditedCode code = (code ≡ 0) ⊎ (code ≡ 12)
