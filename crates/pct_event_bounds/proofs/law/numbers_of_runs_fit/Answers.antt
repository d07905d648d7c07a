use Rattle.pct_event_bounds.proofs.FittingRuns.{runs_numbers_fit}
use Rattle.pct_event_bounds.proofs.law.numbers_of_runs_fit.Goals as goal

pub returns : goal.returns
returns c = runs_numbers_fit
