use Rattle.pct_names.proofs.Names.{◌-◌, ◌++◌, length, lines_of, map, ◌≡◌, ◌≤◌}
use Rattle.pct_report_reader.specs.Reading.{event_lines, event_lines_from, span_of}
use Rattle.pct_report_reader.proofs.reader.event_spans.Given as goal

abbrev pub invariant-loop-raw : goal.invariant-loop-raw
invariant-loop-raw l = record {
  spans : map span_of (event_lines l.text) ≡ l.spans.items ++ map span_of (event_lines_from (length l.text - length l.rest) (lines_of l.rest));
  within : length l.rest ≤ length l.text;
}

abbrev pub decreases-loop-raw : goal.decreases-loop-raw
decreases-loop-raw l = length l.rest
