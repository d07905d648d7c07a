use Rattle.pct_names.proofs.Names.{arith}
use Rattle.pct_cancel.proofs.Table.{point_in_row, no_point_past}
use Rattle.pct_cancel.proofs.point.point_at.Goals as goal

pub returns-then-index-lt-POINT_COUNT : goal.returns-then-index-lt-POINT_COUNT
returns-then-index-lt-POINT_COUNT c = point_in_row c.args.index _ c.row_at-kind.ensures

pub returns-else-index-lt-POINT_COUNT : goal.returns-else-index-lt-POINT_COUNT
returns-else-index-lt-POINT_COUNT c = no_point_past c.args.index (omega arith)
