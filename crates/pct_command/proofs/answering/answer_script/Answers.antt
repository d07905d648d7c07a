use Rattle.pct_names.proofs.Names.{schedule_part}
use Rattle.pct_command.proofs.Outcomes.{check-answer}
use Rattle.pct_command.proofs.answering.answer_script.Goals as goal

pub returns-in-Replay : goal.returns-in-Replay
unfolding schedule_part
returns-in-Replay g c = λ words input asks has. c.replay_script.ensures words input (rw c.in-Replay.is at asks) has.has_script (rw c.in-Replay.is at has.rest)

pub returns-in-Check : goal.returns-in-Check
returns-in-Check g c = λ words input asks has. check-answer words input c.args.script (rw c.in-Check.is at asks) has.has_script
