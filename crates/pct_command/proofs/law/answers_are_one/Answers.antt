use Rattle.pct_command.proofs.OneAnswer.{answer_is_one}
use Rattle.pct_command.proofs.law.answers_are_one.Goals as goal

pub returns : goal.returns
returns c = answer_is_one
