use Rattle.pct_names.proofs.Names.{err_from_is_err_and, rules}
use Rattle.pct_io.proofs.BufferedWrites.{Writes-kept, Writes-through}
use Rattle.pct_cancel.proofs.Table.{text_is}
use Rattle.pct_cancel.proofs.point.write_points.Goals as goal

pub returns-in_err-write_rows : goal.returns-in_err-write_rows
returns-in_err-write_rows g c =
    let p = err_from_is_err_and c.from_residual.result c.from_residual.ensures.1 in
    rw (p.1, ← text_is c.table.result.now c.table.ensures) (Writes-through _ c.new-out.ensures.sink (search rules) c.new-out.ensures.buffer tt c.in_err-write_rows.ensures)

pub returns : goal.returns
returns g c =
    rw (← text_is c.table.result.now c.table.ensures) (Writes-through c.flush.result c.new-out.ensures.sink (search rules) c.new-out.ensures.buffer c.flush.ensures.buffer
    (Writes-kept c.flush.result c.in_ok-write_rows.ensures c.flush.ensures.kept))
