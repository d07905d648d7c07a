use Rattle.pct_tallies.proofs.TextsAgain.{spelled_is_read}
use Rattle.pct_tallies.proofs.law.written_tallies_are_read.Goals as goal

pub returns : goal.returns
returns c = spelled_is_read
