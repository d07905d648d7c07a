use Rattle.pct_tallies.proofs.OneTotal.{totals_are_one}
use Rattle.pct_tallies.proofs.law.totals_are_one.Goals as goal

pub returns : goal.returns
returns c = totals_are_one
