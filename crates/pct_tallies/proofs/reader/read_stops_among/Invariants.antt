use Rattle.std.proofs.Common.{◌≡◌, drop}
use Rattle.pct_tallies.specs.LinesLeft.{IsNotBefore, left_of}
use Rattle.pct_tallies.specs.Readings.{stops_from}
use Rattle.pct_tallies.proofs.StopLines.{after_stops}
use Rattle.pct_tallies.proofs.reader.read_stops_among.Given as goal

-- what was read, and what is read of the lines that are left for the stops that are left, is all
abbrev pub invariant-loop-why : goal.invariant-loop-why
invariant-loop-why l =
    (after_stops l.stops.items (stops_from (drop l.why-index l.whys) l.seeds (left_of l.after)) ≡ stops_from l.whys l.seeds (left_of l.initial.lines)) × IsNotBefore l.initial.lines l.after
