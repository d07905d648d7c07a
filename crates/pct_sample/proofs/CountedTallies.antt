-- The tally of a range of at most 1,000,000 seeds has a text.
use Rattle.std.proofs.Common.{◌≡◌, ℕ, ◌≤◌, List, [], ◌∷◌, arith, length, max, subst, sym}
use Rattle.std.specs.List.{AllZip, fold}
use Rattle.pct_model.specs.declared.script.Script.{Script}
use Rattle.pct_engine_laws.proofs.RunNumbers.{run_limited}
use Rattle.pct_tallies.specs.declared.seed_run.SeedRun.{SeedRun}
use Rattle.pct_tallies.specs.declared.seeds.Seeds.{Seeds}
use Rattle.pct_tallies.specs.declared.tally.Tally.{Tally}
use Rattle.pct_tallies.specs.Seeds.{IsRange, seed_count, seeds_in}
use Rattle.pct_tallies.specs.TextLaws.{IsCounted}
use Rattle.pct_tallies.proofs.CountedRuns.{counted_runs}
use Rattle.pct_sample.specs.Samples.{TallyOf}
use Rattle.pct_sample.specs.SeedRuns.{IsRunOfSeed, config_of}
use Rattle.pct_sample.proofs.FewJoins.{runs_are_few}
use Rattle.pct_sample.proofs.LongerTallies.{run_count}

-- a run has at most 200,000 entries
row_is_short : (script : Script) (seed : ℕ) (r : SeedRun) → IsRunOfSeed script seed r → r.steps ≤ 200000
row_is_short script seed r made =
    let limit = (run_limited script (config_of script) made.entries made.after made.runs.is_run).budget in
    omega (arith, limit, made.counted.steps)

most_from : (script : Script) (most : ℕ) (seeds : List ℕ) (runs : List SeedRun) → most ≤ 200000 → AllZip (IsRunOfSeed script) seeds runs → fold (λ most (r : SeedRun). max most r.steps) most runs ≤ 200000
most_from script most [] [] short each = short
most_from script most [] (r ∷ runs) short each = absurd each
most_from script most (seed ∷ seeds) [] short each = absurd each
most_from script most (seed ∷ seeds) (r ∷ runs) short each =
    let here = row_is_short script seed r each.0 in
    most_from script (max most r.steps) seeds runs (omega (arith, short, here)) each.1

-- so the numbers of the tally fit
pub tally_is_counted : (script : Script) (seeds : Seeds) (tally : Tally) → IsRange seeds → seed_count seeds ≤ 1000000 → TallyOf script seeds tally → IsCounted seeds tally
tally_is_counted script seeds tally range few x =
    let runs : length x.runs ≡ seed_count seeds = run_count script seeds x.runs x.of_seeds in
    let short = most_from script 0 (seeds_in seeds) x.runs (omega arith) x.of_seeds in
    subst (λ (t : Tally). IsCounted seeds t) (sym x.counted)
    (counted_runs (IsRunOfSeed script) (λ n r made. made.seed_is) seeds range x.runs x.of_seeds (omega (arith, runs, few)) (runs_are_few script (seeds_in seeds) x.runs x.of_seeds) (omega (arith, short)))
