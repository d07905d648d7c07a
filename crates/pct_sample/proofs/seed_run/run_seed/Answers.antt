use Rattle.pct_sample.proofs.SeedRuns.{run_of_seed}
use Rattle.pct_sample.proofs.seed_run.run_seed.Goals as goal

pub returns-clause-run : goal.returns-clause-run
returns-clause-run c =
    run_of_seed c.args.engine.now.script c.args.engine.now.config c.args.seed c.run_again.new.engine c.summary_of.result c.requires c.run_again.ensures.run
    c.summary_of.ensures.seed c.summary_of.ensures.counted
