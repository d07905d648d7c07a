-- A report with its events: the configuration of the run, the events that the event lines spell, and the places of these lines.
use Rattle.std.specs.Prelude.{ℕ, ◌<◌, List, Option, Ok, Err, option_map}
use Rattle.pct_model.specs.declared.event.Event.{Event}
use Rattle.pct_model.specs.declared.event.What.{What}
use Rattle.pct_model.specs.declared.event.What.TheVariants as what
use Rattle.pct_model.specs.declared.schedule.Config.{Config}
use Rattle.pct_expect.specs.declared.span.Span.{Span}
use Rattle.pct_name_numbers.specs.EventReading.{events_of, no_names}
use Rattle.pct_report_reader.specs.EventWords.{event_words_in}
use Rattle.pct_report_reader.specs.Reading.{Read, report_in}

-- the events that the words of lines spell, if they spell one in each line
abbrev pub events_of_words : List (List (List ℕ)) → Option (List Event)
events_of_words lines = option_map (λ r. r.1) (events_of no_names lines)

-- the events of a report: those that its event lines spell
unfoldable pub report_events : List ℕ → Option (List Event)
report_events text = events_of_words (event_words_in text)

-- a report with its events
abbrev pub with_events : Option (List Event) → Read (Config × List Span) → Read (Config × (Option (List Event) × List Span))
with_events events (Ok report) = Ok (report.0, (events, report.1))
with_events events (Err fault) = Err fault

-- the configuration of a report, its events, and the places of its event lines, or its first fault
unfoldable pub event_report_in : List ℕ → Read (Config × (Option (List Event) × List Span))
event_report_in text = with_events (report_events text) (report_in text)

-- a thread or a process that the event creates has an id that is not 0
abbrev pub HasCreatedId : What → Type 0
HasCreatedId (what.Created id detached) = 0 < id
HasCreatedId (what.Forked pid) = 0 < pid
HasCreatedId _ = Unit {0}

-- the ids of the event's process and thread, and of a thread or a process that it creates, are not 0
pub record HasIds (event : Event) : Type 0 where
  pub process : 0 < event.pid
  pub thread : 0 < event.tid
  pub created : HasCreatedId event.what
