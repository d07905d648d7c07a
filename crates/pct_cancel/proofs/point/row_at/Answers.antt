use Rattle.pct_names.proofs.Names.{arith}
use Rattle.pct_cancel.proofs.Table.{rows_count, row_in}
use Rattle.pct_cancel.proofs.point.row_at.Goals as goal

pub bounds-table-index : goal.bounds-table-index
bounds-table-index c = omega (arith, rows_count c.table.result.now c.table.ensures)

pub returns : goal.returns
returns c = row_in c.table.result.now c.table.ensures c.args.index _ c.requires
