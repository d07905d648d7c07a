use Rattle.pct_command.proofs.OneOutcome.{outcome_is_one}
use Rattle.pct_command.proofs.law.outcomes_are_one.Goals as goal

pub returns : goal.returns
returns c = outcome_is_one
