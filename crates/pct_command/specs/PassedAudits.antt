-- `audit` of the reports of runs.
use Rattle.std.specs.Prelude.{ℕ, ◌≤◌, List, [], ◌∷◌, length, codes}
use Rattle.pct_model.specs.declared.limits.TheConstants.{MAX_INPUT}
use Rattle.pct_report_audit.specs.declared.report_audit.ReportAudit.TheVariants.{Passed}
use Rattle.pct_report_audit.specs.AuditTexts.{audit_text}
use Rattle.pct_command.specs.Command.{IsAnswer, IsLawful}

-- the report of a run, if it is no longer than an input may be, is one of which `audit` answers that its events keep the laws
abbrev pub ReportsPassAudit : Type 0
ReportsPassAudit =
    (words : List (List ℕ)) (input text : List ℕ) (lawful : IsLawful words input text) → length text ≤ MAX_INPUT
    → IsAnswer (codes "audit" ∷ []) text 0 (audit_text (Passed (length lawful.after.events)))
