use Rattle.pct_names.proofs.Names.{err_from_is_err_and, summary_lines}
use Rattle.pct_io.proofs.WritesInTurn.{Writes-then, Writes-fails}
use Rattle.pct_demo.proofs.Summaries.{summary-text}
use Rattle.pct_demo.proofs.summary.write_parts.Goals as goal

pub returns-in_err-write_number : goal.returns-in_err-write_number
unfolding summary_lines
returns-in_err-write_number g c =
    let p = err_from_is_err_and c.from_residual.result c.from_residual.ensures.1 in
    rw p.1 (Writes-fails _ c.in_err-write_number.ensures)

pub returns-in_err-write_number-2 : goal.returns-in_err-write_number-2
unfolding summary_lines
returns-in_err-write_number-2 g c =
    let p = err_from_is_err_and c.from_residual-in_err-write_number-2.result c.from_residual-in_err-write_number-2.ensures.1 in
    rw p.1 (Writes-then _ c.in_ok-write_number.ensures (Writes-fails _ c.in_err-write_number-2.ensures))

pub returns-in_err-write_number-3 : goal.returns-in_err-write_number-3
unfolding summary_lines
returns-in_err-write_number-3 g c =
    let p = err_from_is_err_and c.from_residual-in_err-write_number-3.result c.from_residual-in_err-write_number-3.ensures.1 in
    rw p.1 (Writes-then _ c.in_ok-write_number.ensures (Writes-then _ c.in_ok-write_number-2.ensures (Writes-fails _ c.in_err-write_number-3.ensures)))

pub returns-in_err-write_number-4 : goal.returns-in_err-write_number-4
unfolding summary_lines
returns-in_err-write_number-4 g c =
    let p = err_from_is_err_and c.from_residual-in_err-write_number-4.result c.from_residual-in_err-write_number-4.ensures.1 in
    rw p.1 (Writes-then _ c.in_ok-write_number.ensures (Writes-then _ c.in_ok-write_number-2.ensures (Writes-then _ c.in_ok-write_number-3.ensures (Writes-fails _ c.in_err-write_number-4.ensures))))

pub returns-in_err-write_number-5 : goal.returns-in_err-write_number-5
unfolding summary_lines
returns-in_err-write_number-5 g c =
    let p = err_from_is_err_and c.from_residual-in_err-write_number-5.result c.from_residual-in_err-write_number-5.ensures.1 in
    rw p.1 (Writes-then _ c.in_ok-write_number.ensures (Writes-then _ c.in_ok-write_number-2.ensures (Writes-then _ c.in_ok-write_number-3.ensures (Writes-then _ c.in_ok-write_number-4.ensures (Writes-fails _ c.in_err-write_number-5.ensures)))))

pub returns : goal.returns
returns g c = rw (summary-text c.args.number c.args.steps c.args.total c.args.verdict) (Writes-then _ c.in_ok-write_number.ensures (Writes-then _ c.in_ok-write_number-2.ensures (Writes-then _ c.in_ok-write_number-3.ensures (Writes-then _ c.in_ok-write_number-4.ensures (Writes-then _ c.in_ok-write_number-5.ensures c.write_verdict_line.ensures)))))
