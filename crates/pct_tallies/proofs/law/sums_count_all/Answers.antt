use Rattle.pct_tallies.proofs.SumsOfRuns.{sums_count_all}
use Rattle.pct_tallies.proofs.law.sums_count_all.Goals as goal

pub returns : goal.returns
returns c = sums_count_all
