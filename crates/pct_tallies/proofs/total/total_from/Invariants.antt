use Rattle.std.proofs.Common.{◌≡◌, drop}
use Rattle.pct_tallies.specs.Totals.{total_from}
use Rattle.pct_tallies.proofs.total.total_from.Given as goal

-- the sum so far and the ranges that are left have the sum of all
abbrev pub invariant-loop-next : goal.invariant-loop-next
invariant-loop-next l = total_from l.initial.total l.rest ≡ total_from l.total (drop l.next-index l.rest)
