use Rattle.pct_sample.proofs.Sums.{sums_are_tallies}
use Rattle.pct_sample.proofs.law.sums_are_tallies.Goals as goal

pub returns : goal.returns
returns c = sums_are_tallies
