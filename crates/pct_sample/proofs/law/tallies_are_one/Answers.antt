use Rattle.pct_sample.proofs.OneTally.{tallies_are_one}
use Rattle.pct_sample.proofs.law.tallies_are_one.Goals as goal

pub returns : goal.returns
returns c = tallies_are_one
