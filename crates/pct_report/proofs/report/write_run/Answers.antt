use Rattle.pct_io.proofs.WritesInTurn.{Writes-then}
use Rattle.pct_report.proofs.report.write_run.Goals as goal

pub returns : goal.returns
returns g c = Writes-then _ c.in_ok-write_title.ensures c.write_events.ensures
