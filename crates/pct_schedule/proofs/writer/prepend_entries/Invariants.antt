use Rattle.pct_names.proofs.Names.{◌++◌, drop, entry_line, length, line_text, take, ◌≡◌, ◌≤◌}
use Rattle.std.specs.List.{flat_map}
use Rattle.pct_schedule.proofs.writer.prepend_entries.Given as goal

-- the lines of the entries from this index on precede the old content of the buffer
abbrev pub invariant-loop-position : goal.invariant-loop-position
invariant-loop-position l = record {
  within : l.position ≤ length l.entries;
  len : length l.buffer ≡ length l.initial.buffer;
  start : l.start ≤ l.end;
  written : flat_map (λ e. line_text (entry_line e)) l.entries ++ drop l.end l.initial.buffer ≡ flat_map (λ e. line_text (entry_line e)) (take l.position l.entries) ++ drop l.start l.buffer;
}
