use Rattle.pct_command.proofs.Outcomes.{demo-answer}
use Rattle.pct_command.proofs.demo_command.demonstrate.Goals as goal

pub returns-clause-answer : goal.returns-clause-answer
returns-clause-answer c = λ words input asked. demo-answer words input c.args.number c.in_ok-script.script c.in_ok-engine.engine asked c.in_ok-script.ensures c.in_ok-engine.ensures
