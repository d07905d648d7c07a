use Rattle.pct_names.proofs.Names.{points, refl}
use Rattle.pct_cancel.proofs.point.table.Goals as goal

pub returns : goal.returns
unfolding points
returns c = refl
