-- The runs of seeds have few joins.
use Rattle.std.proofs.Common.{ℕ, ◌≤◌, List, [], ◌∷◌, arith, reverse}
use Rattle.std.specs.List.{AllZip}
use Rattle.std.proofs.lemmas.List.Sums.{count_by-le-length, sum_by-cons}
use Rattle.pct_model.specs.declared.script.Script.{Script}
use Rattle.pct_tallies.specs.declared.seed_run.SeedRun.{SeedRun}
use Rattle.pct_tallies.proofs.FittingSums.{AreFew}
use Rattle.pct_sample.specs.SeedRuns.{IsRunOfSeed, config_of, is_canceled, is_joined}
use Rattle.pct_sample.proofs.EventCounts.{few_events}

-- the numbers of the joins of a run have 32 bits
record IsFew (r : SeedRun) : Type 0 where
  joined : r.joined ≤ 4294967295
  canceled : r.canceled ≤ 4294967295

row_is_few : (script : Script) (seed : ℕ) (r : SeedRun) → IsRunOfSeed script seed r → IsFew r
row_is_few script seed r made =
    let events = reverse made.after.events in
    let few = few_events script (config_of script) made.entries made.after made.runs.is_run in
    let joins = count_by-le-length is_joined events in
    let canceled = count_by-le-length is_canceled events in
    record {
      joined = omega (arith, few, joins, made.counted.joined);
      canceled = omega (arith, few, canceled, made.counted.canceled);
    }

few_more : (r : SeedRun) (runs : List SeedRun) → IsFew r → AreFew runs → AreFew (r ∷ runs)
few_more r runs few are = record {
  joined = (let all = sum_by-cons (λ (x : SeedRun). x.joined) r runs in omega (arith, all, few.joined, are.joined));
  canceled = (let all = sum_by-cons (λ (x : SeedRun). x.canceled) r runs in omega (arith, all, few.canceled, are.canceled));
}

-- so the runs of seeds have few
pub runs_are_few : (script : Script) (seeds : List ℕ) (runs : List SeedRun) → AllZip (IsRunOfSeed script) seeds runs → AreFew runs
runs_are_few script [] [] each = record { joined = omega arith; canceled = omega arith }
runs_are_few script [] (r ∷ runs) each = absurd each
runs_are_few script (seed ∷ seeds) [] each = absurd each
runs_are_few script (seed ∷ seeds) (r ∷ runs) each = few_more r runs (row_is_few script seed r each.0) (runs_are_few script seeds runs each.1)
