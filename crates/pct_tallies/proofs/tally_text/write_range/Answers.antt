use Rattle.pct_names.proofs.Names.{err_from_is_err_and}
use Rattle.pct_io.proofs.WritesInTurn.{Writes-then, Writes-fails}
use Rattle.pct_tallies.proofs.TallyLines.{range-text}
use Rattle.pct_tallies.proofs.tally_text.write_range.Goals as goal

pub returns-in_err-write_line : goal.returns-in_err-write_line
returns-in_err-write_line g c =
    let p = err_from_is_err_and c.from_residual.result c.from_residual.ensures.1 in
    rw (range-text c.args.range.now, p.1) (Writes-fails _ c.in_err-write_line.ensures)

pub returns-in_err-write_subject : goal.returns-in_err-write_subject
returns-in_err-write_subject g c =
    let p = err_from_is_err_and c.from_residual-in_err-write_subject.result c.from_residual-in_err-write_subject.ensures.1 in
    rw (range-text c.args.range.now, p.1) (Writes-then _ c.in_ok-write_line.ensures (Writes-fails _ c.in_err-write_subject.ensures))

pub returns : goal.returns
returns g c =
    rw (range-text c.args.range.now)
    (Writes-then _ c.in_ok-write_line.ensures (Writes-then _ c.in_ok-write_subject.ensures c.write_counts.ensures))
