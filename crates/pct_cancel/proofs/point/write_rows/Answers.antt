use Rattle.pct_names.proofs.Names.{arith, err_from_is_err_and, line_text, row_words}
use Rattle.pct_io.proofs.WritesInTurn.{Writes-last, Writes-next, Writes-next_fails}
use Rattle.pct_cancel.specs.Rows.{as_row}
use Rattle.pct_cancel.proofs.point.write_rows.Goals as goal

pub loop-name-preserved : goal.loop-name-preserved
loop-name-preserved g c = λ new r writes.
    c.loop-name.invariant new r (Writes-next (λ row. line_text (row_words (as_row row))) c.args.rows.now c.loop-name.name-index _ r (omega arith) c.in_ok-write_row.ensures writes)

pub returns-in_err-write_row : goal.returns-in_err-write_row
returns-in_err-write_row g c =
    let p = err_from_is_err_and c.from_residual.result c.from_residual.ensures.1 in
    rw p.1 (c.loop-name.invariant _ _ (Writes-next_fails (λ row. line_text (row_words (as_row row))) c.args.rows.now c.loop-name.name-index _ (omega arith) c.in_err-write_row.ensures))

pub returns : goal.returns
returns g c = c.loop-name.invariant _ _ (Writes-last (λ row. line_text (row_words (as_row row))) c.args.rows.now c.loop-name.name-index _ (omega arith))
