use Rattle.pct_names.proofs.Names.{err_from_is_err_and}
use Rattle.pct_io.proofs.WritesInTurn.{Writes-then, Writes-fails}
use Rattle.pct_report.proofs.ReportTexts.{report-text}
use Rattle.pct_report.proofs.report.write_parts.Goals as goal

pub returns-in_err-write_run : goal.returns-in_err-write_run
returns-in_err-write_run g c =
    let p = err_from_is_err_and c.from_residual.result c.from_residual.ensures.1 in
    rw (report-text c.args.script.now c.args.config c.args.events.now c.args.verdict c.args.entries.now, p.1) (Writes-fails _ c.in_err-write_run.ensures)

pub returns : goal.returns
returns g c = rw (report-text c.args.script.now c.args.config c.args.events.now c.args.verdict c.args.entries.now) (Writes-then _ c.in_ok-write_run.ensures c.write_end.ensures)
