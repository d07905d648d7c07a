use Rattle.pct_expect.proofs.OneAnswer as one
use Rattle.pct_expect.proofs.law.answers_are_one.Goals as goal

pub returns : goal.returns
returns c = one.answers_are_one
