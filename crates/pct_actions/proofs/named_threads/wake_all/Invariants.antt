use Rattle.pct_names.proofs.Names.{◌+◌, [], false, length, ◌≡◌, ◌≤◌}
use Rattle.pct_set.proofs.SlotScans.{Scans}
use Rattle.pct_process.specs.Standings.{AreStandings}
use Rattle.pct_actions.specs.SharedChanges.{waiting_slots}
use Rattle.pct_actions.proofs.WokenThreads.{waits_at, WokenBut}
use Rattle.pct_actions.proofs.named_threads.wake_all.Given as goal

abbrev pub invariant-loop-slot : goal.invariant-loop-slot
invariant-loop-slot g l = record {
  scan : Scans (λ s. false) (waits_at l.cond l.initial.threads) l.rest [];
  woken : WokenBut l.cond l.initial.threads l.rest l.threads;
  long : length l.threads ≡ length l.initial.threads;
  stand : AreStandings l.standings l.threads;
  count : l.steps + length l.rest ≤ l.initial.steps + length (waiting_slots l.cond l.initial.threads);
}

abbrev pub decreases-loop-slot : goal.decreases-loop-slot
decreases-loop-slot g l = length l.rest
