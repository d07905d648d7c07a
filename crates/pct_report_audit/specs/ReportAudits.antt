-- What `audit` answers: whether the events of a report keep the laws that are judged.
use Rattle.std.specs.Prelude.{◌≡◌, ℕ, List, length, Option, Some, None, Ok, Err}
use Rattle.pct_model.specs.declared.event.Event.{Event}
use Rattle.pct_model.specs.declared.schedule.Config.{Config}
use Rattle.pct_expect.specs.declared.span.Span.{Span}
use Rattle.pct_report_reader.specs.Reading.{report_in}
use Rattle.pct_event_reader.specs.EventReports.{event_report_in}
use Rattle.pct_audit.specs.declared.law.AuditFault.{AuditFault}
use Rattle.pct_audit.specs.AuditOf.{IsAuditOf}
use Rattle.pct_report_audit.specs.declared.report_audit.ReportAudit.{ReportAudit}
use Rattle.pct_report_audit.specs.declared.report_audit.ReportAudit.TheVariants.{Passed, Failed, Refused}

-- the report has this configuration and these events, and the audit of the events, with the limits of the configuration, answers this
pub record IsAudited (text : List ℕ) (config : Config) (events : List Event) (found : Option AuditFault) : Type 0 where
  pub lines : List Span
  pub read : event_report_in text ≡ Ok (config, (Some events, lines))
  pub is_audit : IsAuditOf config.passes config.slots events found

-- the report is read, and this many events keep the laws
pub record Passes (text : List ℕ) (number : ℕ) : Type 0 where
  pub config : Config
  pub events : List Event
  pub audited : IsAudited text config events None
  pub number_is : number ≡ length events

-- the report is read, and this fault of its events is the first
pub record Fails (text : List ℕ) (fault : AuditFault) : Type 0 where
  pub config : Config
  pub events : List Event
  pub audited : IsAudited text config events (Some fault)

-- the audit of a report: the number of its events, if they keep the laws; the first event at which a law fails, and the first law that fails
-- there; or the first fault of the text
abbrev pub IsReportAudit : List ℕ → ReportAudit → Type 0
IsReportAudit text (Passed number) = Passes text number
IsReportAudit text (Failed fault) = Fails text fault
IsReportAudit text (Refused line why) = report_in text ≡ Err (line, why)
