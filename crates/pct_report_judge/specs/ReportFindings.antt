-- What `judge` finds in a report.
use Rattle.std.specs.Prelude.{◌≡◌, ℕ, List, [], Some, Ok, Err}
use Rattle.pct_model.specs.declared.event.Event.{Event}
use Rattle.pct_model.specs.declared.schedule.Config.{Config}
use Rattle.pct_expect.specs.declared.span.Span.{Span}
use Rattle.pct_report_reader.specs.Reading.{report_in}
use Rattle.pct_event_reader.specs.EventReports.{event_report_in}
use Rattle.pct_event_judge.specs.declared.findings.Findings.{Findings}
use Rattle.pct_event_judge.specs.Findings.{AreFindings}
use Rattle.pct_report_judge.specs.declared.report_findings.ReportFindings.{ReportFindings}
use Rattle.pct_report_judge.specs.declared.report_findings.ReportFindings.TheVariants.{Judged, Refused}

-- the report has these event lines, and its events have these findings, with the limits of its configuration
pub record IsJudged (text : List ℕ) (found : Findings) (lines : List Span) : Type 0 where
  pub config : Config
  pub events : List Event
  pub read : event_report_in text ≡ Ok (config, (Some events, lines))
  pub are_findings : AreFindings config.passes config.slots events found

-- what is found in a report, or the first fault of the text
abbrev pub AreReportFindings : List ℕ → ReportFindings → Type 0
AreReportFindings text (Judged found lines) = IsJudged text found lines
AreReportFindings text (Refused line why) = report_in text ≡ Err (line, why)

-- the event lines of a report that is judged
abbrev pub lines_in : ReportFindings → List Span
lines_in (Judged found lines) = lines
lines_in (Refused line why) = []
