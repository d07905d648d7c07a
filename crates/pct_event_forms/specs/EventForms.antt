-- The law that the lines with the form of an event are those that are read as events.
use Rattle.std.specs.Prelude.{◌≡◌, ℕ, List, is_some}
use Rattle.pct_model.specs.EventTexts.{EventNames}
use Rattle.pct_name_numbers.specs.EventReading.{event_of}
use Rattle.pct_report_reader.specs.Reading.{is_event_of_words}

-- words have the form of an event exactly if they are read as an event, whatever names were read before
abbrev pub EventsAreReadByForms : Type 0
EventsAreReadByForms = (names : EventNames) (words : List (List ℕ)) → is_event_of_words words ≡ is_some (event_of names words)
