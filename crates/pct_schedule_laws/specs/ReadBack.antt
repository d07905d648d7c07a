-- The laws that the schedule of a report is read back from its text.
use Rattle.std.specs.Prelude.{◌≡◌, ℕ, List, Some, Ok}
use Rattle.pct_model.specs.declared.script.Script.{Script}
use Rattle.pct_model.specs.declared.schedule.Config.{Config}
use Rattle.pct_model.specs.declared.schedule.Entry.{Entry}
use Rattle.pct_model.specs.declared.event.Event.{Event}
use Rattle.pct_model.specs.declared.stop.Verdict.{Verdict}
use Rattle.pct_model.specs.Keywords.{text_of}
use Rattle.pct_model.specs.Report.{report_lines, report}
use Rattle.pct_model.specs.Schedule.{sched_of}
use Rattle.pct_schedule.specs.Schedules.{IsSchedule}

-- the schedule of a report is read back from its text, for every script, events and verdict
abbrev pub ReportsAreReadBack : Type 0
ReportsAreReadBack =
    (script : Script) (config : Config) (events : List Event) (verdict : Verdict) (entries : List Entry)
    → IsSchedule config entries → sched_of (text_of (report_lines script config events verdict entries)) ≡ Ok (config, entries)

-- the schedule of every run is read back from the report of that run
abbrev pub RunReportsAreReadBack : Type 0
RunReportsAreReadBack =
    (script : Script) (config : Config) (entries : List Entry) (text : List ℕ)
    → report script config entries ≡ Some text → sched_of text ≡ Ok (config, entries)
