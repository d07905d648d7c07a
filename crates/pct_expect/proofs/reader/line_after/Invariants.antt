use Rattle.pct_names.proofs.Names.{length, slice_get, ◌≡◌}
use Rattle.pct_expect.proofs.reader.line_after.Given as goal

abbrev pub invariant-loop-number : goal.invariant-loop-number
invariant-loop-number l = slice_get l.fn.spelled l.count ≡ slice_get l.lines l.left

abbrev pub decreases-loop-number : goal.decreases-loop-number
decreases-loop-number l = length l.lines
