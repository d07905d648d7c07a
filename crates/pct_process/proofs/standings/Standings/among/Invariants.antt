use Rattle.pct_names.proofs.Names.{◌&&◌, length}
use Rattle.pct_set.specs.Slots.{has_slot}
use Rattle.pct_set.proofs.SlotScans.{Scans}
use Rattle.pct_process.specs.Standings.{standing_at}
use Rattle.pct_process.specs.StandingsWanted.{is_wanted}
use Rattle.pct_process.proofs.standings.Standings.among.Given as goal

abbrev pub invariant-loop-slot : goal.invariant-loop-slot
invariant-loop-slot l = Scans (λ k. has_slot l.fn.candidates k && is_wanted l.wanted (standing_at l.self k)) (has_slot l.fn.candidates) l.rest l.found

abbrev pub decreases-loop-slot : goal.decreases-loop-slot
decreases-loop-slot l = length l.rest
