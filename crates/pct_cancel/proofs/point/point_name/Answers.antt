use Rattle.pct_names.proofs.Names.{arith}
use Rattle.pct_cancel.proofs.Table.{name_in_row, past_the_table}
use Rattle.pct_cancel.proofs.point.point_name.Goals as goal

pub returns-then-index-lt-POINT_COUNT : goal.returns-then-index-lt-POINT_COUNT
returns-then-index-lt-POINT_COUNT c = name_in_row c.args.index _ c.row_at.ensures

pub returns-else-index-lt-POINT_COUNT : goal.returns-else-index-lt-POINT_COUNT
returns-else-index-lt-POINT_COUNT c = past_the_table c.args.index (omega arith)
