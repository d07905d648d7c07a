use Rattle.pct_cancel.proofs.Table.{name_in_row}
use Rattle.pct_cancel.proofs.point.write_point.Goals as goal

pub returns : goal.returns
returns g c = rw (← name_in_row c.args.index _ c.row_at.ensures) c.write_all.ensures
