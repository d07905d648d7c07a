use Rattle.pct_names.proofs.Names.{length, ◌≡◌}
use Rattle.pct_expect.specs.Reading.{bad_line}
use Rattle.pct_expect.proofs.reader.bad_line.Given as goal

abbrev pub invariant-loop-number : goal.invariant-loop-number
invariant-loop-number l = bad_line l.fn.spelled ≡ bad_line l.lines

abbrev pub decreases-loop-number : goal.decreases-loop-number
decreases-loop-number l = length l.lines
