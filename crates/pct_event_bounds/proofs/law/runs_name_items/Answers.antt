use Rattle.pct_event_bounds.proofs.NamedByRuns.{runs_name_items}
use Rattle.pct_event_bounds.proofs.law.runs_name_items.Goals as goal

pub returns : goal.returns
returns c = runs_name_items
