use Rattle.pct_command.proofs.Outcomes.{run-answer}
use Rattle.pct_command.proofs.run_command.run_script.Goals as goal

pub returns : goal.returns
returns g c = λ words input asked has.
    run-answer c.reports_of_runs_pass.ensures words input c.args.script c.args.options c.in_ok-engine.engine c.in_ok-ran.ran asked has (rw c.format_of.ensures at c.in_ok-engine.ensures) (rw c.format_of.ensures at c.in_ok-ran.ensures)
