use Rattle.pct_command.proofs.Outcomes.{schedule-answer}
use Rattle.pct_command.proofs.replay_command.replay_script.Goals as goal

pub returns-in-Err-Refused : goal.returns-in-Err-Refused
returns-in-Err-Refused c = λ words input asked has same.
    rw c.in-Err-Refused.field-0-is
    (schedule-answer words input c.args.script c.in-Err-Refused.line c.in-Err-Refused.why asked has (rw (c.in-Err-Refused.field-0-is, same) at c.in-Err-Refused.ensures.read))
