use Rattle.pct_names.proofs.Names.{length, ◌≡◌}
use Rattle.pct_script_lines.specs.Outlines.{outlines_in}
use Rattle.pct_script_lines.proofs.stored_lines.next_outline.Given as goal

abbrev pub invariant-loop-number : goal.invariant-loop-number
invariant-loop-number l = outlines_in l.fn.lines ≡ outlines_in l.lines

abbrev pub decreases-loop-number : goal.decreases-loop-number
decreases-loop-number l = length l.lines
