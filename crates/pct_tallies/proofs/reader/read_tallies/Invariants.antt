use Rattle.std.proofs.Common.{◌≡◌, ℕ, ◌≤◌, List, ◌++◌, length}
use Rattle.std.specs.Prelude.{Result, Ok, Err}
use Rattle.pct_tallies.specs.declared.range_tally.PlacedTally.{PlacedTally}
use Rattle.pct_tallies.specs.Faults.{Fault}
use Rattle.pct_tallies.specs.LinesLeft.{Fits, left_of}
use Rattle.pct_tallies.specs.Readings.{lines_in, tallies_from}
use Rattle.pct_tallies.proofs.reader.read_tallies.Given as goal
use Rattle.pct_tallies.proofs.ManyTallies.{GoesOn}

abbrev pub invariant-loop-lines : goal.invariant-loop-lines
invariant-loop-lines l = GoesOn l.fn.text l.tallies.items l.lines × Fits l.lines × (length l.lines.text.now ≤ length l.fn.text)

abbrev pub decreases-loop-lines : goal.decreases-loop-lines
decreases-loop-lines l = length l.lines.text.now
