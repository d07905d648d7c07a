-- Runs whose entries the number of the entries before them chooses.
use Rattle.pct_names.proofs.Names.{◌%◌, ◌+◌, [], ◌^◌, ap, arith, chosen, Config, Entry, IsCountedRun, List, Run, Script, subst, sym, ℕ, ◌∙◌}
use Rattle.pct_names.proofs.Names.{◌≡◌}
use Rattle.std.proofs.Math.Nat.{mod-eq_of_lt}
use Rattle.pct_engine.specs.EngineStates.{EngineValue}
use Rattle.pct_engine_laws.proofs.RunNumbers.{run_limited}
use Rattle.pct_scheduled_run.specs.ScheduledRuns.{IsChosenAt, IsContinuedBy}
use Rattle.pct_scheduled_run.proofs.WholeRuns.{whole_is_one}
use Rattle.pct_demo.specs.CountedRuns.{IsCountedEngine, counts}

-- a run that goes on by counting from the first entry on
counted_run : (script : Script) (config : Config) (entries : List Entry) (x : IsContinuedBy (counts 0) 0 script config [] entries) → IsCountedRun script config entries x.whole.after
counted_run script config entries x = record {
  is_run = x.whole.is_run;
  is_closed = x.whole.is_closed;
  choices = λ k before within is.
      let place : 0 + k ≡ k = omega arith in
      let few = (run_limited script config entries x.whole.after x.whole.is_run).budget in
      let count : (0 + k) % 2 ^ 32 ≡ k = mod-eq_of_lt (omega (arith, place, within, few)) ∙ place in
      let by_counts : IsChosenAt (counts 0) 0 script config entries k k = subst (λ (at : ℕ). IsChosenAt (counts 0) 0 script config entries at k) place (x.choices k (omega (arith, place, within))) in
      by_counts before is ∙ ap (λ (n : ℕ). chosen script config before.world 0 n n) count;
}

-- the engine that was opened and went on so
pub counted_engine : (script : Script) (config : Config) (opened engine : EngineValue) → opened ≡ record { script = script; config = config; history = [] } → engine ≡ record opened { history = engine.history }
    → IsContinuedBy (counts 0) 0 opened.script opened.config opened.history engine.history → IsCountedEngine script config engine
counted_engine script config opened engine opened_is same continued =
    let whole = subst (λ (x : EngineValue). IsContinuedBy (counts 0) 0 x.script x.config x.history engine.history) opened_is continued in
    record {
      engine_is = same ∙ ap (λ (x : EngineValue). record x { history = engine.history }) opened_is;
      after = whole.whole.after;
      counted = counted_run script config engine.history whole;
    }

-- such a run has one schedule
pub counted_is_one : (script : Script) (config : Config) (one other : List Entry) (after then : Run) → IsCountedRun script config one after → IsCountedRun script config other then → one ≡ other
counted_is_one script config one other after then x y =
    whole_is_one script config one other (record { after = after; is_run = x.is_run; is_closed = x.is_closed }) (record { after = then; is_run = y.is_run; is_closed = y.is_closed })
    (λ k before in_one in_other ran_one ran_other. x.choices k before in_one ran_one ∙ sym (y.choices k before in_other ran_other))
