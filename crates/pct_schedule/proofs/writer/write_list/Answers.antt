use Rattle.pct_io.proofs.WritesInTurn.{Writes-then}
use Rattle.pct_schedule.proofs.writer.write_list.Goals as goal

pub returns : goal.returns
returns g c = Writes-then _ c.in_ok-write_entries.ensures c.write_count.ensures
