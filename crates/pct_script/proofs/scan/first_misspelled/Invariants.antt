use Rattle.pct_names.proofs.Names.{length, spelling, ◌≡◌}
use Rattle.pct_script.proofs.scan.first_misspelled.Given as goal

abbrev pub invariant-loop-number : goal.invariant-loop-number
invariant-loop-number l = spelling l.fn.spelled ≡ spelling l.lines

abbrev pub decreases-loop-number : goal.decreases-loop-number
decreases-loop-number l = length l.lines
