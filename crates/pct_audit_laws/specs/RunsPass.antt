-- The law that the report of every run passes its audit.
use Rattle.std.specs.Prelude.{◌≡◌, ℕ, List, length, Some, None, Ok}
use Rattle.pct_model.specs.declared.event.Event.{Event}
use Rattle.pct_model.specs.declared.schedule.Config.{Config}
use Rattle.pct_model.specs.declared.schedule.Entry.{Entry}
use Rattle.pct_model.specs.declared.script.Script.{Script}
use Rattle.pct_model.specs.Report.{report_of}
use Rattle.pct_model.specs.Run.{Run, run}
use Rattle.pct_expect.specs.declared.span.Span.{Span}
use Rattle.pct_event_reader.specs.EventReports.{event_report_in}
use Rattle.pct_audit.specs.AuditOf.{IsAuditOf}

-- the text is read as a report with this configuration and with so many events, each in a line, in which an audit finds no fault
pub record Passes (config : Config) (count : ℕ) (text : List ℕ) : Type 0 where
  pub events : List Event
  pub lines : List Span
  pub read : event_report_in text ≡ Ok (config, (Some events, lines))
  pub events_count : length events ≡ count
  pub lines_count : length lines ≡ count
  pub audit : IsAuditOf config.passes config.slots events None

-- so does the report of every run
abbrev pub ReportsOfRunsPass : Type 0
ReportsOfRunsPass =
    (script : Script) (config : Config) (entries : List Entry) (r : Run)
    → run script config entries ≡ Some r → Passes config (length r.events) (report_of script config entries r)
