use Rattle.std.proofs.Common.{ap, subst, ◌∙◌}
use Rattle.rand_pcg.specs.Lcg.{Lcg}
use Rattle.pct_engine.specs.EngineStates.{EngineValue}
use Rattle.pct_scheduled_run.specs.ScheduledRuns.{IsContinuedBy}
use Rattle.pct_scheduled_run.specs.Streams.{draws}
use Rattle.pct_sample.proofs.SeedRuns.{seeded_run}
use Rattle.pct_sample.proofs.seed_run.run_again.Goals as goal

pub returns-clause-same : goal.returns-clause-same
returns-clause-same c =
    c.continue_run.ensures.same ∙ ap (λ (v : EngineValue). record v { history = c.continue_run.new.engine.history }) c.restart.ensures

pub returns-clause-run : goal.returns-clause-run
returns-clause-run c =
    let old : EngineValue = c.args.engine.now in
    let begun : EngineValue = c.restart.new.self in
    let made : EngineValue = c.continue_run.new.engine in
    seeded_run old.script old.config c.args.seed begun made c.restart.ensures c.continue_run.ensures.same
    (subst (λ (g : Lcg). IsContinuedBy (draws g) 1 begun.script begun.config begun.history made.history) c.stream_of.ensures c.continue_run.ensures.run)
