use Rattle.pct_names.proofs.Names.{length, nesting, nesting_in, ◌≡◌}
use Rattle.pct_script_lines.specs.Outlines.{outlines_of, outline_roles}
use Rattle.pct_script_lines.proofs.nesting.check_nesting.Given as goal

abbrev pub invariant-loop-number : goal.invariant-loop-number
invariant-loop-number l = nesting (outline_roles (outlines_of l.lines)) ≡ nesting_in l.blocks (outline_roles l.outlines)

abbrev pub decreases-loop-number : goal.decreases-loop-number
decreases-loop-number l = length l.outlines
