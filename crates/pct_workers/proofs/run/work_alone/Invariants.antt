use Rattle.pct_names.proofs.Names.{◌-◌, ◌≤◌}
use Rattle.pct_workers.proofs.LoneRuns.{MadeSoFar}
use Rattle.pct_workers.proofs.run.work_alone.Given as goal

-- the turns so far
abbrev pub invariant-loop-made : goal.invariant-loop-made
invariant-loop-made g l = record {
  few : l.made ≤ l.turns;
  so_far : MadeSoFar l.made l.initial.picks l.picks l.initial.engine l.engine;
}

abbrev pub decreases-loop-made : goal.decreases-loop-made
decreases-loop-made g l = l.turns - l.made
