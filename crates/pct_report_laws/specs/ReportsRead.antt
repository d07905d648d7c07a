-- The law that a report is read: its configuration, and the words of its event lines.
use Rattle.std.specs.Prelude.{◌≡◌, ℕ, List, map, All, Ok}
use Rattle.pct_model.specs.declared.event.Event.{Event}
use Rattle.pct_model.specs.declared.schedule.Config.{Config}
use Rattle.pct_model.specs.declared.schedule.Entry.{Entry}
use Rattle.pct_model.specs.declared.script.Script.{Script}
use Rattle.pct_model.specs.declared.stop.Verdict.{Verdict}
use Rattle.pct_model.specs.EventTexts.{event_names}
use Rattle.pct_model.specs.Keywords.{text_of}
use Rattle.pct_model.specs.Report.{event_line, report_lines}
use Rattle.pct_schedule.specs.Schedules.{IsSchedule}
use Rattle.pct_report_reader.specs.EventWords.{event_words_in}
use Rattle.pct_report_reader.specs.Reading.{event_lines, report_in, span_of}
use Rattle.pct_event_bounds.specs.EventBounds.{EventNamesItems}
use Rattle.pct_event_bounds.specs.EventNumbers.{EventNumbersFit}

-- the text is read as a report with this configuration, and its event lines are those of these events, the oldest first
pub record IsReadAs (script : Script) (config : Config) (events : List Event) (text : List ℕ) : Type 0 where
  pub report : report_in text ≡ Ok (config, map span_of (event_lines text))
  pub words : event_words_in text ≡ map (event_line script) events

-- so is each report of events that name items of the script, by numbers of 32 bits, if its entries are a schedule; whatever its verdict is
abbrev pub ReportsAreRead : Type 0
ReportsAreRead =
    (script : Script) (config : Config) (events : List Event) (verdict : Verdict) (entries : List Entry)
    → IsSchedule config entries → All (EventNamesItems (event_names script)) events → All EventNumbersFit events
    → IsReadAs script config events (text_of (report_lines script config events verdict entries))
