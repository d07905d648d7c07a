use Rattle.pct_names.proofs.Names.{◌++◌, drop, event_line, length, line_text, take, ◌≡◌, ◌≤◌}
use Rattle.std.specs.List.{flat_map}
use Rattle.pct_report.proofs.report.prepend_events.Given as goal

-- the lines of the events from this index on precede the old content of the buffer
abbrev pub invariant-loop-position : goal.invariant-loop-position
invariant-loop-position l = record {
  within : l.position ≤ length l.events;
  len : length l.buffer ≡ length l.initial.buffer;
  start : l.start ≤ l.end;
  written : flat_map (λ e. line_text (event_line l.script e)) l.events ++ drop l.end l.initial.buffer ≡ flat_map (λ e. line_text (event_line l.script e)) (take l.position l.events) ++ drop l.start l.buffer;
}
