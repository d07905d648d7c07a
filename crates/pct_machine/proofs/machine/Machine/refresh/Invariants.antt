use Rattle.pct_names.proofs.Names.{has_timeouts}
use Rattle.pct_ready_sets.specs.ReadyConditions.{AreFresh, FollowAll}
use Rattle.pct_machine.proofs.machine.Machine.refresh.Given as goal

abbrev pub invariant-loop-index : goal.invariant-loop-index
invariant-loop-index l = record {
  follow : FollowAll l.program.script (has_timeouts l.program.config.format) l.self.processes l.sets;
  fresh : AreFresh l.index l.sets;
}
