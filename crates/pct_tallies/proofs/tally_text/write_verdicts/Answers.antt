use Rattle.pct_names.proofs.Names.{err_from_is_err_and}
use Rattle.pct_io.proofs.WritesInTurn.{Writes-then, Writes-fails}
use Rattle.pct_tallies.proofs.TallyLines.{verdicts-text}
use Rattle.pct_tallies.proofs.tally_text.write_verdicts.Goals as goal

pub returns-in_err-write_count : goal.returns-in_err-write_count
returns-in_err-write_count g c =
    let p = err_from_is_err_and c.from_residual.result c.from_residual.ensures.1 in
    rw (verdicts-text c.args.tally.now, p.1) (Writes-fails _ c.in_err-write_count.ensures)

pub returns-in_err-write_count-2 : goal.returns-in_err-write_count-2
returns-in_err-write_count-2 g c =
    let p = err_from_is_err_and c.from_residual-in_err-write_count-2.result c.from_residual-in_err-write_count-2.ensures.1 in
    rw (verdicts-text c.args.tally.now, p.1) (Writes-then _ c.in_ok-write_count.ensures (Writes-fails _ c.in_err-write_count-2.ensures))

pub returns : goal.returns
returns g c =
    rw (verdicts-text c.args.tally.now)
    (Writes-then _ c.in_ok-write_count.ensures (Writes-then _ c.in_ok-write_count-2.ensures c.write_count-3.ensures))
