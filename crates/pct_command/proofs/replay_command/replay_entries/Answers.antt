use Rattle.pct_command.proofs.Outcomes.{replay-answer, entry-answer}
use Rattle.pct_command.proofs.replay_command.replay_entries.Goals as goal

pub returns-in-Ok : goal.returns-in-Ok
returns-in-Ok c = λ words input asked has read.
    replay-answer c.reports_of_runs_pass.ensures words input c.args.script c.args.config c.args.entries c.in-Ok.engine asked has read c.in-Ok.ensures.ran c.in-Ok.ensures.runs

pub returns-in-Err-NotLegal : goal.returns-in-Err-NotLegal
returns-in-Err-NotLegal c = λ words input asked has read.
    entry-answer words input c.args.script c.args.config c.args.entries c.in-Err-NotLegal.entry_number asked has read (rw c.in-Err-NotLegal.field-0-is at c.in-Err-NotLegal.ensures.stopped)
