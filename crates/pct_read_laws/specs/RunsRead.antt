-- The law that the report of every run is read back, with its configuration, and that the events that are read keep the laws.
use Rattle.std.specs.Prelude.{◌≡◌, ℕ, List, length, map, reverse, Some, Ok}
use Rattle.pct_model.specs.declared.event.Event.{Event}
use Rattle.pct_model.specs.declared.schedule.Config.{Config}
use Rattle.pct_model.specs.declared.schedule.Entry.{Entry}
use Rattle.pct_model.specs.declared.script.Script.{Script}
use Rattle.pct_model.specs.EventTexts.{EventNames}
use Rattle.pct_model.specs.Report.{report_of}
use Rattle.pct_model.specs.Run.{Run, run}
use Rattle.pct_name_numbers.specs.EventReading.{events_of, no_names}
use Rattle.pct_report_reader.specs.EventWords.{event_words_in}
use Rattle.pct_report_reader.specs.Reading.{event_lines, report_in, span_of}
use Rattle.pct_event_laws.specs.EventLaws.{EventLaws}

-- the text is read as a report with this configuration and with so many events, the oldest first, each in a line, and they keep the laws
pub record IsLawfulReport (config : Config) (count : ℕ) (text : List ℕ) : Type 0 where
  pub names : EventNames
  pub events : List Event
  pub report : report_in text ≡ Ok (config, map span_of (event_lines text))
  pub read : events_of no_names (event_words_in text) ≡ Some (names, events)
  pub events_count : length events ≡ count
  pub lines_count : length (event_lines text) ≡ count
  pub laws : EventLaws config.passes config.slots (reverse events)

-- such is the report of every run
abbrev pub ReportsOfRunsAreLawful : Type 0
ReportsOfRunsAreLawful =
    (script : Script) (config : Config) (entries : List Entry) (r : Run)
    → run script config entries ≡ Some r → IsLawfulReport config (length r.events) (report_of script config entries r)
