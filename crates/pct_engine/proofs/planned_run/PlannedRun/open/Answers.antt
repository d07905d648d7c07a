use Rattle.pct_names.proofs.Names.{has_timeouts, List, subst, sym}
use Rattle.pct_ready_sets.specs.ReadyConditions.{FollowAll}
use Rattle.pct_ready_sets.specs.ReadyGroups.{ReadyValue}
use Rattle.pct_ready_sets.proofs.FollowingSets.{unknown_follow_all}
use Rattle.pct_engine.proofs.EngineRuns.{stands-first}
use Rattle.pct_engine.proofs.planned_run.PlannedRun.open.Goals as goal

pub invariant_of-result : goal.invariant_of-result
invariant_of-result c =
    let program = c.in_ok-program.program in
    let timeouts = has_timeouts program.config.format in
    let machine = c.in_ok-machine.machine in (
      stands-first program c.in_ok-trace.trace machine c.args.script c.args.config _ c.requires.config c.in_ok-program.ensures c.in_ok-trace.ensures c.in_ok-machine.ensures,
      subst (λ (vs : List ReadyValue). FollowAll program.script timeouts machine.processes vs) (sym c.in_ok-sets.ensures) (unknown_follow_all program.script timeouts machine.processes 8),
    )
