use Rattle.pct_names.proofs.Names.{first_that, length, names_other, ◌≡◌}
use Rattle.pct_script_lines.proofs.plain_functions.other_in.Given as goal

abbrev pub invariant-loop-line : goal.invariant-loop-line
invariant-loop-line l = first_that (names_other l.lines) l.rest ≡ first_that (names_other l.lines) l.body

abbrev pub decreases-loop-line : goal.decreases-loop-line
decreases-loop-line l = length l.rest
