use Rattle.pct_io.proofs.WritesInTurn.{Writes-then}
use Rattle.pct_command.proofs.Outcomes.{run-text}
use Rattle.pct_inspection.proofs.answer_writer.write_continued.Goals as goal

pub returns : goal.returns
returns g c =
    let runs = c.write_report.ensures.runs in
    Writes-then _ (rw (run-text c.args.engine.now runs.0 runs.1) (c.in_ok-write_report.ensures.report runs.0 runs.1)) c.write_notice.ensures
