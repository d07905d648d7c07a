-- Sums of the tallies of a script.
use Rattle.pct_tallies.proofs.SumsOfRuns.{sum_of_ranges}
use Rattle.pct_sample.specs.SeedRuns.{IsRunOfSeed}
use Rattle.pct_sample.specs.Sums.{SumsAreTallies}

pub sums_are_tallies : SumsAreTallies
sums_are_tallies script first middle last earlier later some more x y = sum_of_ranges (IsRunOfSeed script) first middle last earlier later some more x y
