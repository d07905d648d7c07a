use Rattle.pct_io.proofs.WritesInTurn.{Writes-then}
use Rattle.pct_report.proofs.report.write_end.Goals as goal

pub returns : goal.returns
returns g c = Writes-then _ c.in_ok-write_verdict_line.ensures c.write_schedule.ensures
