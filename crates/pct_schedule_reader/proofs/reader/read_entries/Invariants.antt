use Rattle.pct_names.proofs.Names.{◌+◌, ◌<◌, length, lines_of, map, strip_cr, true, with_config, ◌≡◌, ◌≤◌}
use Rattle.pct_schedule.specs.Ends.{entries_to}
use Rattle.pct_schedule.specs.Memory.{entry_is_first}
use Rattle.pct_schedule.proofs.LineByLine.{entries_in_to}
use Rattle.pct_schedule_reader.proofs.reader.read_entries.Given as goal

abbrev pub invariant-loop-rest : goal.invariant-loop-rest
invariant-loop-rest l = record {
  read : with_config l.config (entries_to l.end l.lines.first l.config 0 (map strip_cr (lines_of l.lines.text.now))) ≡ entries_in_to l.end l.number l.config l.entries.items (lines_of l.rest);
  bound : l.number + length l.rest ≤ l.lines.first + length l.lines.text.now;
  start : length l.entries.items ≡ 0 → l.rest ≡ l.lines.text.now;
  memory : 0 < length l.entries.items → entry_is_first l.config.format (lines_of l.lines.text.now) ≡ true;
}

abbrev pub decreases-loop-rest : goal.decreases-loop-rest
decreases-loop-rest l = length l.rest
