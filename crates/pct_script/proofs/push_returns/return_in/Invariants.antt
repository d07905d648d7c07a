use Rattle.pct_names.proofs.Names.{◌+◌, [], first_wrong, is_in_push, length, roles, ◌≡◌, ◌≤◌}
use Rattle.pct_script.specs.PushCounts.{return_after}
use Rattle.pct_script.proofs.push_returns.return_in.Given as goal

abbrev pub invariant-loop-line : goal.invariant-loop-line
invariant-loop-line l = record { found : return_after l.pushes l.pops (roles l.rest) ≡ first_wrong is_in_push [] (roles l.body); few_pushes : l.pushes + length l.rest ≤ length l.body; few_pops : l.pops + length l.rest ≤ length l.body }

abbrev pub decreases-loop-line : goal.decreases-loop-line
decreases-loop-line l = length l.rest
