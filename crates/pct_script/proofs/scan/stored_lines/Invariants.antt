use Rattle.pct_names.proofs.Names.{length}
use Rattle.pct_script.proofs.TextChecks.{IsStored}
use Rattle.pct_script.proofs.scan.stored_lines.Given as goal

abbrev pub invariant-loop-number : goal.invariant-loop-number
invariant-loop-number l = IsStored l.text l.lines.items l.after

abbrev pub decreases-loop-number : goal.decreases-loop-number
decreases-loop-number l = length l.after
