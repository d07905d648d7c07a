use Rattle.pct_names.proofs.Names.{length, subst, ℕ, ◌<◌}
use Rattle.rand_pcg.specs.Lcg.{Lcg}
use Rattle.pct_scheduled_run.specs.ScheduledRuns.{IsChosenAt, IsContinuedBy}
use Rattle.pct_scheduled_run.specs.Streams.{draws}
use Rattle.pct_workers.proofs.LoneRuns.{schedule_of_one}
use Rattle.pct_workers.proofs.run.run_alone.Goals as goal

pub returns : goal.returns
returns g c =
    let engine = c.args.engine in
    let worked = c.work_alone.new.engine in
    let made = c.continue_run.new.engine in
    let worker_1 = subst (λ (words : Lcg). (k : ℕ) → k < length worked.history → IsChosenAt (draws words) 1 engine.script engine.config worked.history k k) c.stream_of-picks.ensures c.work_alone.ensures.chosen in
    let number_0 = subst (λ (words : Lcg). IsContinuedBy (draws words) 0 worked.script worked.config worked.history made.history) c.stream_of.ensures c.continue_run.ensures.run in
    schedule_of_one engine worked made c.args.options c.requires.0 c.requires.2 c.work_alone.ensures.same worker_1 c.work_alone.ensures.few c.work_alone.ensures.whole c.continue_run.ensures.same number_0
