use Rattle.pct_actions.proofs.Stands.{standings_requested}
use Rattle.pct_actions.proofs.named_threads.request.Goals as goal

pub returns-in-Some-clause-standings : goal.returns-in-Some-clause-standings
returns-in-Some-clause-standings g c = λ v were. standings_requested v c.args.threads.now were c.in-Some.target c.request_on.new.threads c.in-Some.ensures.occupied c.request_on.ensures.table
