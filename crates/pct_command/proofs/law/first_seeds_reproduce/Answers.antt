use Rattle.pct_command.proofs.FirstSeeds.{first_seeds_reproduce}
use Rattle.pct_command.proofs.law.first_seeds_reproduce.Goals as goal

pub returns : goal.returns
returns c = first_seeds_reproduce
