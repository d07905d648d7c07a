-- The law that event lines are read back as their events, whose names are numbered otherwise.
use Rattle.std.specs.Prelude.{◌≡◌, List, map, All, Some}
use Rattle.pct_model.specs.declared.event.Event.{Event}
use Rattle.pct_model.specs.declared.script.Script.{Script}
use Rattle.pct_model.specs.EventTexts.{EventNames, event_names}
use Rattle.pct_model.specs.Report.{event_line}
use Rattle.pct_name_numbers.specs.EventReading.{events_of, no_names}
use Rattle.pct_event_laws.specs.Renamed.{Naming, TellsApart, renamed_events}
use Rattle.pct_event_bounds.specs.EventBounds.{EventNamesItems}
use Rattle.pct_event_bounds.specs.EventNumbers.{EventNumbersFit}

-- the lines of a script's events, the oldest first, are read as these events, but for the numbers of names: an item of the script has one
-- number in all of them, and different items of a kind have different numbers
pub record AreReadBack (script : Script) (events : List Event) : Type 0 where
  pub names : EventNames
  pub naming : Naming
  pub read : events_of no_names (map (event_line script) events) ≡ Some (names, renamed_events naming events)
  pub apart : TellsApart naming

-- so it is with events that name items of the script, by numbers of 32 bits
abbrev pub EventLinesAreReadBack : Type 0
EventLinesAreReadBack =
    (script : Script) (events : List Event) → All (EventNamesItems (event_names script)) events → All EventNumbersFit events → AreReadBack script events
