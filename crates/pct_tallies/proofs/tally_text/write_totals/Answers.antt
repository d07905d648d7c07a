use Rattle.pct_names.proofs.Names.{err_from_is_err_and}
use Rattle.pct_io.proofs.WritesInTurn.{Writes-then, Writes-fails}
use Rattle.pct_tallies.proofs.TallyLines.{totals-text}
use Rattle.pct_tallies.proofs.tally_text.write_totals.Goals as goal

pub returns-in_err-write_number : goal.returns-in_err-write_number
returns-in_err-write_number g c =
    let p = err_from_is_err_and c.from_residual.result c.from_residual.ensures.1 in
    rw (totals-text c.args.tally.now, p.1) (Writes-fails _ c.in_err-write_number.ensures)

pub returns-in_err-write_number-2 : goal.returns-in_err-write_number-2
returns-in_err-write_number-2 g c =
    let p = err_from_is_err_and c.from_residual-in_err-write_number-2.result c.from_residual-in_err-write_number-2.ensures.1 in
    rw (totals-text c.args.tally.now, p.1) (Writes-then _ c.in_ok-write_number.ensures (Writes-fails _ c.in_err-write_number-2.ensures))

pub returns-in_err-write_number-3 : goal.returns-in_err-write_number-3
returns-in_err-write_number-3 g c =
    let p = err_from_is_err_and c.from_residual-in_err-write_number-3.result c.from_residual-in_err-write_number-3.ensures.1 in
    rw (totals-text c.args.tally.now, p.1)
    (Writes-then _ c.in_ok-write_number.ensures (Writes-then _ c.in_ok-write_number-2.ensures (Writes-fails _ c.in_err-write_number-3.ensures)))

pub returns : goal.returns
returns g c =
    rw (totals-text c.args.tally.now)
    (Writes-then _ c.in_ok-write_number.ensures (Writes-then _ c.in_ok-write_number-2.ensures (Writes-then _ c.in_ok-write_number-3.ensures c.write_number-4.ensures)))
