use Rattle.pct_io.proofs.WritesInTurn.{Writes-then}
use Rattle.pct_io.proofs.line.write_by_fields.Goals as goal

pub returns : goal.returns
returns g c = Writes-then _ c.in_ok-write_fields.ensures c.write_all.ensures
