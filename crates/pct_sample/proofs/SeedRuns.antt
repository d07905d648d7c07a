-- The run that one worker makes under a seed.
use Rattle.std.proofs.Common.{ℕ, ◌≡◌, ◌+◌, ◌≤◌, List, [], Some, ap, subst, subst₂, arith, length, ◌∙◌}
use Rattle.pct_model.specs.declared.script.Script.{Script}
use Rattle.pct_model.specs.declared.schedule.Config.{Config}
use Rattle.pct_model.specs.declared.schedule.Entry.{Entry}
use Rattle.pct_model.specs.Run.{Run, run}
use Rattle.pct_engine_laws.proofs.LongerRuns.{run_parts}
use Rattle.pct_engine.specs.EngineStates.{EngineValue, IsRunOf}
use Rattle.pct_scheduled_run.specs.ScheduledRuns.{IsChosenAt, IsContinuedBy}
use Rattle.pct_scheduled_run.specs.SeedSchedules.{SeedSchedule}
use Rattle.pct_scheduled_run.specs.Streams.{draws, stream_of}
use Rattle.pct_tallies.specs.declared.seed_run.SeedRun.{SeedRun}
use Rattle.pct_sample.specs.SeedRuns.{IsRunOfSeed, IsSummaryOf, config_of}
use Rattle.pct_sample.specs.SeededRuns.{IsSeededRun}

-- a run without entries that worker 1 went on with to its end is that of the seed, if it has no more entries than the worker has turns
seed_schedule : (script : Script) (config : Config) (seed turns : ℕ) (entries : List Entry) → length entries ≤ turns
    → IsContinuedBy (draws (stream_of seed 1)) 1 script config [] entries → SeedSchedule script config seed turns entries
seed_schedule script config seed turns entries few made = record {
  whole = made.whole;
  worked = λ k within turn.
      let place : 0 + k ≡ k = omega arith in
      subst (λ (at : ℕ). IsChosenAt (draws (stream_of seed 1)) 1 script config entries at k) place (made.choices k (omega (arith, place, within)));
  finished = λ k within. absurd (omega (arith, few, within));
}

-- an engine that was opened with a script, and went on so, has made the run of the seed
pub seeded_run : (script : Script) (config : Config) (seed : ℕ) (opened engine : EngineValue)
    → opened ≡ record { script = script; config = config; history = [] } → engine ≡ record opened { history = engine.history }
    → IsContinuedBy (draws (stream_of seed 1)) 1 opened.script opened.config opened.history engine.history
    → IsSeededRun script config seed engine
seeded_run script config seed opened engine opened_is same made =
    let engine_is : engine ≡ record { script = script; config = config; history = engine.history } = same ∙ ap (λ (o : EngineValue). record o { history = engine.history }) opened_is in
    let whole : IsContinuedBy (draws (stream_of seed 1)) 1 script config [] engine.history =
    subst (λ (o : EngineValue). IsContinuedBy (draws (stream_of seed 1)) 1 o.script o.config o.history engine.history) opened_is made in
    let within : length engine.history ≤ config.budget = (run_parts script config engine.history whole.whole.after whole.whole.is_run).within in
    record {
      script_is = ap (λ (e : EngineValue). e.script) engine_is;
      config_is = ap (λ (e : EngineValue). e.config) engine_is;
      scheduled = seed_schedule script config seed config.budget engine.history within whole;
    }

-- what is counted of the run of an engine is counted of the run of the seed, if the engine has made it
pub run_of_seed : (script : Script) (config : Config) (seed : ℕ) (engine : EngineValue) (r : SeedRun) → config ≡ config_of script → IsSeededRun script config seed engine
    → r.seed ≡ seed
    → ((after : Run) → IsRunOf engine after → IsSummaryOf engine.script engine.config engine.history after r)
    → IsRunOfSeed script seed r
run_of_seed script config seed engine r is made seed_is counted =
    let whole = made.scheduled.whole in
    let summary : IsSummaryOf script config engine.history whole.after r =
    subst₂ (λ (s : Script) (c : Config). run s c engine.history ≡ Some whole.after → IsSummaryOf s c engine.history whole.after r) made.script_is made.config_is (counted whole.after) whole.is_run in
    record {
      seed_is = seed_is;
      entries = engine.history;
      after = whole.after;
      runs = record {
        scheduled = subst (λ (c : Config). SeedSchedule script c seed c.budget engine.history) is made.scheduled;
        is_run = subst (λ (c : Config). run script c engine.history ≡ Some whole.after) is whole.is_run;
      };
      counted = subst (λ (c : Config). IsSummaryOf script c engine.history whole.after r) is summary;
    }
