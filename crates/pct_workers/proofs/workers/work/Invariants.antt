use Rattle.pct_names.proofs.Names.{◌-◌, ◌≤◌}
use Rattle.pct_workers.proofs.Working.{WorkedSoFar}
use Rattle.pct_workers.proofs.workers.work.Given as goal

-- the turns so far
abbrev pub invariant-loop-made : goal.invariant-loop-made
invariant-loop-made g l = record {
  few : l.made ≤ l.turns;
  so_far : WorkedSoFar l.made l.initial.worker l.worker;
}

abbrev pub decreases-loop-made : goal.decreases-loop-made
decreases-loop-made g l = l.turns - l.made
