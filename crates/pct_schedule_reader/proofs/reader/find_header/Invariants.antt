use Rattle.pct_names.proofs.Names.{◌+◌, length, lines_of, ◌≡◌, ◌≤◌}
use Rattle.pct_schedule.specs.Memory.{header_line}
use Rattle.pct_schedule_reader.proofs.reader.find_header.Given as goal

abbrev pub invariant-loop-raw : goal.invariant-loop-raw
invariant-loop-raw l = record { found : header_line 1 (lines_of l.text) ≡ header_line l.number (lines_of l.rest); bound : l.number + length l.rest ≤ 16777217 }

abbrev pub decreases-loop-raw : goal.decreases-loop-raw
decreases-loop-raw l = length l.rest
