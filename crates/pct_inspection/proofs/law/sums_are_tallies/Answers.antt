use Rattle.pct_inspection.proofs.SumsOfTallies.{sums_are_tallies}
use Rattle.pct_inspection.proofs.law.sums_are_tallies.Goals as goal

pub returns : goal.returns
returns c = sums_are_tallies
