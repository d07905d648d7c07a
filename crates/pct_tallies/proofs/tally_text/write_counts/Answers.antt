use Rattle.pct_names.proofs.Names.{err_from_is_err_and}
use Rattle.pct_io.proofs.WritesInTurn.{Writes-then, Writes-fails}
use Rattle.pct_tallies.proofs.TallyLines.{counts-text}
use Rattle.pct_tallies.proofs.tally_text.write_counts.Goals as goal

pub returns-in_err-write_verdicts : goal.returns-in_err-write_verdicts
returns-in_err-write_verdicts g c =
    let p = err_from_is_err_and c.from_residual.result c.from_residual.ensures.1 in
    rw (counts-text c.args.tally.now, p.1) (Writes-fails _ c.in_err-write_verdicts.ensures)

pub returns-in_err-write_stops : goal.returns-in_err-write_stops
returns-in_err-write_stops g c =
    let p = err_from_is_err_and c.from_residual-in_err-write_stops.result c.from_residual-in_err-write_stops.ensures.1 in
    rw (counts-text c.args.tally.now, p.1)
    (Writes-then _ c.in_ok-write_verdicts.ensures (Writes-fails _ (rw c.stops.ensures at c.in_err-write_stops.ensures)))

pub returns : goal.returns
returns g c =
    rw (counts-text c.args.tally.now)
    (Writes-then _ c.in_ok-write_verdicts.ensures (Writes-then _ (rw c.stops.ensures at c.in_ok-write_stops.ensures) c.write_totals.ensures))
