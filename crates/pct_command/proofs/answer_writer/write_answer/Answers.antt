use Rattle.pct_command.proofs.Outcomes.{run-text, run-summary}
use Rattle.pct_command.proofs.answer_writer.write_answer.Goals as goal

pub returns-in-Ran : goal.returns-in-Ran
returns-in-Ran g c =
    let runs = c.write_report.ensures.runs in
    rw c.in-Ran.is (rw (run-text c.in-Ran.engine runs.0 runs.1) (c.write_report.ensures.report runs.0 runs.1))

pub returns-in-Demonstrated : goal.returns-in-Demonstrated
returns-in-Demonstrated g c =
    let runs = c.write_summary.ensures.runs in
    rw c.in-Demonstrated.is (rw (run-summary c.in-Demonstrated.number c.in-Demonstrated.engine runs.0 runs.1) (c.write_summary.ensures.summary runs.0 runs.1))
