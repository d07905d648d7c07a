use Rattle.pct_demo.proofs.CountedRuns.{counted_engine}
use Rattle.pct_demo.proofs.counted_run.run_counted.Goals as goal

pub returns : goal.returns
returns c = counted_engine c.args.script c.args.config c.in_ok-engine.engine c.continue_run.new.engine c.in_ok-engine.ensures c.continue_run.ensures.same c.continue_run.ensures.run
