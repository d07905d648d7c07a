use Rattle.pct_names.proofs.Names.{[], false, has_timeouts, length, ◌≡◌}
use Rattle.pct_set.specs.Slots.{has_slot}
use Rattle.pct_set.proofs.SlotScans.{Scans}
use Rattle.pct_transitions.specs.ProcessSteps.{with_data}
use Rattle.pct_ready_sets.specs.ReadyConditions.{Follows}
use Rattle.pct_ready_sets.proofs.refreshing.refresh.Given as goal

abbrev pub invariant-loop-slot : goal.invariant-loop-slot
invariant-loop-slot l = record {
  scan : Scans (λ _. false) (has_slot l.initial.sets.stale) l.rest [];
  follows : Follows l.program.script (has_timeouts l.program.config.format) (with_data l.process) l.sets;
  same : l.sets.stale ≡ l.rest;
}

abbrev pub decreases-loop-slot : goal.decreases-loop-slot
decreases-loop-slot l = length l.rest
