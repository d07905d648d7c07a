use Rattle.pct_tallies.proofs.TalliesSpelled.{read_is_spelled}
use Rattle.pct_tallies.proofs.law.tallies_are_spelled.Goals as goal

pub returns : goal.returns
returns c = read_is_spelled
