use Rattle.pct_names.proofs.Names.{has_timeouts, length, true, ℕ}
use Rattle.pct_set.proofs.SlotScans.{Scans}
use Rattle.pct_engine_laws.specs.SeenSteps.{environment_in}
use Rattle.pct_process.specs.FamilyViews.{other_processes}
use Rattle.pct_transitions.specs.Readiness.{is_met}
use Rattle.pct_ready_sets.specs.ReadyGroups.{condition_on}
use Rattle.pct_ready_sets.proofs.known_slots.known_ready.Given as goal

abbrev pub invariant-loop-slot : goal.invariant-loop-slot
invariant-loop-slot l = (tid : ℕ) → Scans (λ k. is_met l.process.shared (environment_in (has_timeouts l.around.program.now.config.format) (length l.process.slots) (other_processes l.around.family) l.process.slots tid) (condition_on l.sets.conditions k)) (λ _. true) l.rest l.ready

abbrev pub decreases-loop-slot : goal.decreases-loop-slot
decreases-loop-slot l = length l.rest
