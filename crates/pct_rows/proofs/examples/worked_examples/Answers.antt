use Rattle.pct_names.proofs.Names.{Ran}
use Rattle.pct_rows.proofs.Outcomes.{smallest_runs, cleanup_runs}
use Rattle.pct_rows.proofs.examples.worked_examples.Goals as goal

pub returns : goal.returns
returns c = record { smallest = Ran smallest_runs; cleanup = Ran cleanup_runs }
