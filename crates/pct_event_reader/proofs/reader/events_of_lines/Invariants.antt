use Rattle.pct_names.proofs.Names.{◌*◌, ◌≡◌, ◌≤◌, All, length, map, take, words_of}
use Rattle.pct_expect.specs.Events.{part_at}
use Rattle.pct_name_numbers.specs.EventReading.{events_of, no_names}
use Rattle.pct_event_reader.specs.EventReports.{HasIds}
use Rattle.pct_event_reader.specs.Numberings.{Numbers, name_count}
use Rattle.pct_event_reader.proofs.reader.events_of_lines.Given as goal

-- the events of the lines so far
abbrev pub invariant-loop-span : goal.invariant-loop-span
invariant-loop-span l = record {
  read : Numbers (events_of no_names (map (λ span. words_of (part_at l.text span)) (take l.span-index l.lines))) l.names l.events.items;
  ids : All HasIds l.events.items;
  count : name_count l.names ≤ 4 * l.span-index;
  length : length l.events.items ≡ l.span-index;
}
