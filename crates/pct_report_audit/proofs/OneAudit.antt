-- A report has one audit.
use Rattle.pct_names.proofs.Names.{ap, Config, Err, length, List, None, none-some, Option, same_Some, Some, subst, sym, ℕ, ◌∙◌, ◌≡◌}
use Rattle.pct_model.specs.declared.event.Event.{Event}
use Rattle.pct_expect.specs.declared.span.Span.{Span}
use Rattle.pct_report_reader.specs.declared.fault.ReportWhy.{ReportWhy}
use Rattle.pct_report_reader.specs.Reading.{report_in}
use Rattle.pct_event_reader.specs.EventReports.{event_report_in}
use Rattle.pct_audit.specs.declared.law.AuditFault.{AuditFault}
use Rattle.pct_audit.specs.AuditOf.{IsAuditOf}
use Rattle.pct_audit.proofs.Determined.{audit_is_one}
use Rattle.pct_judgement.proofs.OneJudgement.{same_error, same_value, value_or_error}
use Rattle.pct_report_audit.specs.declared.report_audit.ReportAudit.{ReportAudit}
use Rattle.pct_report_audit.specs.declared.report_audit.ReportAudit.TheVariants.{Passed, Failed, Refused}
use Rattle.pct_report_audit.specs.ReportAudits.{IsAudited, IsReportAudit}
use Rattle.pct_report_audit.proofs.ReadReports.{report_read}

-- a report with its events is read in one way
abbrev EventReport : Type 0
EventReport = Config × (Option (List Event) × List Span)

same_reading : (text : List ℕ) (config other : Config) (events others : List Event) (a b : Option AuditFault) (one : IsAudited text config events a) (two : IsAudited text other others b)
    → ◌≡◌ {A = EventReport} (config, (Some events, one.lines)) (other, (Some others, two.lines))
same_reading text config other events others a b one two =
    same_value (event_report_in text) (config, (Some events, one.lines)) (other, (Some others, two.lines)) one.read two.read

same_events : (text : List ℕ) (config other : Config) (events others : List Event) (a b : Option AuditFault) → IsAudited text config events a → IsAudited text other others b → events ≡ others
same_events text config other events others a b one two =
    same_Some events others (ap (λ (r : EventReport). r.1.0) (same_reading text config other events others a b one two))

-- and the events have one audit
same_audit : (text : List ℕ) (config other : Config) (events others : List Event) (a b : Option AuditFault) → IsAudited text config events a → IsAudited text other others b → a ≡ b
same_audit text config other events others a b one two =
    let config_is : config ≡ other = ap (λ (r : EventReport). r.0) (same_reading text config other events others a b one two) in
    let by_config : IsAuditOf other.passes other.slots events a = subst (λ (c : Config). IsAuditOf c.passes c.slots events a) config_is one.is_audit in
    let by_events : IsAuditOf other.passes other.slots others a = subst (λ (es : List Event). IsAuditOf other.passes other.slots es a) (same_events text config other events others a b one two) by_config in
    audit_is_one other.passes other.slots others a b by_events two.is_audit

-- a report that is audited is not refused
audited_or_refused : (text : List ℕ) (config : Config) (events : List Event) (found : Option AuditFault) (line : ℕ) (why : ReportWhy) → IsAudited text config events found → report_in text ≡ Err (line, why) → ⊥
audited_or_refused text config events found line why one first =
    value_or_error (report_in text) (config, one.lines) (line, why) (report_read text config (Some events) one.lines one.read) first

pub audits_are_one : (text : List ℕ) (a b : ReportAudit) → IsReportAudit text a → IsReportAudit text b → a ≡ b
audits_are_one text (Passed n) (Passed m) f g =
    ap (λ (k : ℕ). Passed k) (f.number_is ∙ ap (λ (es : List Event). length es) (same_events text f.config g.config f.events g.events None None f.audited g.audited) ∙ sym g.number_is)
audits_are_one text (Passed n) (Failed fault) f g = absurd (none-some fault (same_audit text f.config g.config f.events g.events None (Some fault) f.audited g.audited))
audits_are_one text (Failed fault) (Passed n) f g = absurd (none-some fault (sym (same_audit text f.config g.config f.events g.events (Some fault) None f.audited g.audited)))
audits_are_one text (Failed fault) (Failed other) f g =
    ap (λ (e : AuditFault). Failed e) (same_Some fault other (same_audit text f.config g.config f.events g.events (Some fault) (Some other) f.audited g.audited))
audits_are_one text (Passed n) (Refused line why) f g = absurd (audited_or_refused text f.config f.events None line why f.audited g)
audits_are_one text (Failed fault) (Refused line why) f g = absurd (audited_or_refused text f.config f.events (Some fault) line why f.audited g)
audits_are_one text (Refused line why) (Passed n) f g = absurd (audited_or_refused text g.config g.events None line why g.audited f)
audits_are_one text (Refused line why) (Failed fault) f g = absurd (audited_or_refused text g.config g.events (Some fault) line why g.audited f)
audits_are_one text (Refused line why) (Refused other reason) f g = ap (λ (e : ℕ × ReportWhy). Refused e.0 e.1) (same_error (report_in text) (line, why) (other, reason) f g)
