use Rattle.pct_sample.proofs.SeedOptions.{seeds_are_options}
use Rattle.pct_sample.proofs.law.seeds_are_options.Goals as goal

pub returns : goal.returns
returns c = seeds_are_options
