-- The text of an audit.
use Rattle.std.specs.Prelude.{ℕ, List, [], ◌∷◌, codes, decimal}
use Rattle.pct_model.specs.Keywords.{line_text}
use Rattle.pct_audit.specs.declared.law.Law.{Law}
use Rattle.pct_audit.specs.declared.law.Law.TheVariants as law
use Rattle.pct_judgement.specs.AnswerTexts.{refused_report}
use Rattle.pct_report_audit.specs.declared.report_audit.ReportAudit.{ReportAudit}
use Rattle.pct_report_audit.specs.declared.report_audit.ReportAudit.TheVariants.{Passed, Failed, Refused}

-- the word for a law
unfoldable pub law_text : Law → List ℕ
law_text law.Once = codes "once"
law_text law.Slot = codes "slot"
law_text law.Join = codes "join"
law_text law.Cond = codes "cond"
law_text law.CallOnce = codes "call_once"

-- `audit ok N`, `audit event K LAW`, or `refused report LINE WHY`
unfoldable pub audit_line : ReportAudit → List (List ℕ)
audit_line (Passed number) = codes "audit" ∷ codes "ok" ∷ decimal number ∷ []
audit_line (Failed fault) = codes "audit" ∷ codes "event" ∷ decimal fault.event ∷ law_text fault.law ∷ []
audit_line (Refused line why) = refused_report line why

-- the text of an audit
abbrev pub audit_text : ReportAudit → List ℕ
audit_text audit = line_text (audit_line audit)
