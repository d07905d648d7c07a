use Rattle.pct_names.proofs.Names.{has_timeouts, is_some, length}
use Rattle.pct_set.proofs.SlotScans.{Scans}
use Rattle.pct_engine_laws.specs.SeenSteps.{is_ready_in}
use Rattle.pct_process.specs.FamilyViews.{other_processes}
use Rattle.pct_process.specs.ProcessViews.{thread_on_slot}
use Rattle.pct_transitions.specs.ProcessSteps.{with_data}
use Rattle.pct_ready_sets.proofs.ReadySlots.{is_ready_on}
use Rattle.pct_place.proofs.scheduler.ready_slots.Given as goal

abbrev pub invariant-loop-slot : goal.invariant-loop-slot
invariant-loop-slot l = Scans (is_ready_on (is_ready_in l.around.program.now.script (has_timeouts l.around.program.now.config.format) (length l.process.slots) (other_processes l.around.family) (with_data l.process)) l.process.slots) (λ k. is_some (thread_on_slot l.process.slots k)) l.rest l.ready

abbrev pub decreases-loop-slot : goal.decreases-loop-slot
decreases-loop-slot l = length l.rest
