use Rattle.pct_names.proofs.Names.{ap, refl, replicate}
use Rattle.pct_threads.specs.Slots.{Slot, unused}
use Rattle.pct_process.proofs.FirstProcess.{free_slot}
use Rattle.pct_process.proofs.StandingsKept.{standings_none}
use Rattle.pct_process.proofs.process_state.ProcessState.reserve.Goals as goal

pub invariant_of-result : goal.invariant_of-result
invariant_of-result c =
    rw (c.in_ok-new.ensures, c.in_ok-new-2.ensures, c.new-2.ensures)
    (refl, standings_none (replicate 1 unused) (λ k small. ap (λ (s : Slot). s.here) (free_slot 1 k)))
