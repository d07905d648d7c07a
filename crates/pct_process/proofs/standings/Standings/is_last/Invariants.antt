use Rattle.pct_names.proofs.Names.{[], length}
use Rattle.pct_set.proofs.SlotScans.{Scans}
use Rattle.pct_process.proofs.UnfinishedThreads.{is_another, is_left}
use Rattle.pct_process.proofs.standings.Standings.is_last.Given as goal

-- no slot before those to come has another thread that has not ended
abbrev pub invariant-loop-slot : goal.invariant-loop-slot
invariant-loop-slot l = Scans (is_another l.tid l.threads) (is_left l.threads) l.rest []

abbrev pub decreases-loop-slot : goal.decreases-loop-slot
decreases-loop-slot l = length l.rest
