use Rattle.std.proofs.Common.{◌≡◌, drop}
use Rattle.pct_tallies.specs.Totals.{first_subject_fault}
use Rattle.pct_tallies.proofs.total.first_subject_fault.Given as goal

-- the fault of all is that of the rest
abbrev pub invariant-loop-placed : goal.invariant-loop-placed
invariant-loop-placed l = first_subject_fault l.subject l.tallies ≡ first_subject_fault l.subject (drop l.placed-index l.tallies)
