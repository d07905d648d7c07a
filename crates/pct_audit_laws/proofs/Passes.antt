-- A report whose events keep the laws passes its audit.
use Rattle.pct_names.proofs.Names.{◌≡◌, ℕ, List, map, reverse, Option, Some, None, Config, Event}
use Rattle.pct_names.proofs.Names.{ap, length-map, option_map, refl, ◌∙◌}
use Rattle.pct_model.specs.EventTexts.{EventNames}
use Rattle.pct_name_numbers.specs.EventReading.{Reading, events_of, no_names}
use Rattle.pct_report_reader.specs.EventWords.{event_words_in}
use Rattle.pct_report_reader.specs.Reading.{event_lines, report_in, span_of}
use Rattle.pct_event_laws.specs.EventLaws.{EventLaws}
use Rattle.pct_event_reader.specs.EventReports.{event_report_in, report_events, with_events}
use Rattle.pct_read_laws.specs.RunsRead.{IsLawfulReport}
use Rattle.pct_audit.specs.AuditOf.{first_broken}
use Rattle.pct_audit.proofs.Determined.{none_of_kept}
use Rattle.pct_audit_laws.specs.RunsPass.{Passes}

none_broken : (passes slots : ℕ) (events : List Event) → EventLaws passes slots events → first_broken passes slots events ≡ None
none_broken passes slots events laws = rw (laws.once, laws.creations, laws.joins, laws.conds, laws.controls) refl

events_are : (text : List ℕ) (names : EventNames) (events : List Event) → events_of no_names (event_words_in text) ≡ Some (names, events) → report_events text ≡ Some events
unfolding report_events
events_are text names events read = ap (λ (r : Reading (List Event)). option_map (λ x. x.1) r) read

pub passes : (config : Config) (count : ℕ) (text : List ℕ) → IsLawfulReport config count text → Passes config count text
unfolding event_report_in
passes config count text lawful = record {
  events = lawful.events;
  lines = map span_of (event_lines text);
  read = ap (λ (events : Option (List Event)). with_events events (report_in text)) (events_are text lawful.names lawful.events lawful.read)
      ∙ ap (with_events (Some lawful.events)) lawful.report;
  events_count = lawful.events_count;
  lines_count = length-map (event_lines text) span_of ∙ lawful.lines_count;
  audit = none_of_kept config.passes config.slots lawful.events (none_broken config.passes config.slots (reverse lawful.events) lawful.laws);
}
