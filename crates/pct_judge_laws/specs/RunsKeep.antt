-- The law that the events in the report of every run keep each law that is about events alone.
use Rattle.std.specs.Prelude.{◌≡◌, ℕ, List, length, Some, Ok}
use Rattle.pct_model.specs.declared.event.Event.{Event}
use Rattle.pct_model.specs.declared.schedule.Config.{Config}
use Rattle.pct_model.specs.declared.schedule.Entry.{Entry}
use Rattle.pct_model.specs.declared.script.Script.{Script}
use Rattle.pct_model.specs.Report.{report_of}
use Rattle.pct_model.specs.Run.{Run, run}
use Rattle.pct_expect.specs.declared.span.Span.{Span}
use Rattle.pct_event_reader.specs.EventReports.{event_report_in}
use Rattle.pct_event_judge.specs.Findings.{AreFindings, all_kept}

-- the text is read as a report with this configuration and with so many events, each in a line, which keep all laws
pub record KeepsLaws (config : Config) (count : ℕ) (text : List ℕ) : Type 0 where
  pub events : List Event
  pub lines : List Span
  pub read : event_report_in text ≡ Ok (config, (Some events, lines))
  pub events_count : length events ≡ count
  pub lines_count : length lines ≡ count
  pub are_kept : AreFindings config.passes config.slots events all_kept

-- so does the report of every run
abbrev pub ReportsOfRunsKeepLaws : Type 0
ReportsOfRunsKeepLaws =
    (script : Script) (config : Config) (entries : List Entry) (r : Run)
    → run script config entries ≡ Some r → KeepsLaws config (length r.events) (report_of script config entries r)
