use Rattle.pct_names.proofs.Names.{length, ◌≡◌}
use Rattle.pct_script_lines.specs.Outlines.{outlines_of}
use Rattle.pct_script_lines.specs.LineCounts.{none_yet, limit_in}
use Rattle.pct_script_lines.proofs.limits.check_limits.Given as goal

abbrev pub invariant-loop-number : goal.invariant-loop-number
invariant-loop-number l = limit_in none_yet (outlines_of l.lines) ≡ limit_in l.counts l.outlines

abbrev pub decreases-loop-number : goal.decreases-loop-number
decreases-loop-number l = length l.outlines
