use Rattle.std.proofs.Common.{◌≡◌, ℕ, ◌+◌, ◌*◌, ◌-◌, ap, arith, length, List, min, subst, subst₂, sym, ◌∙◌}
use Rattle.std.specs.List.{AllZip, range_with_len}
use Rattle.std.proofs.lemmas.List.FromFn.{length-range_with_len}
use Rattle.rayon.proofs.ListFacts.{IfOk-then}
use Rattle.pct_model.specs.declared.script.Script.{Script}
use Rattle.pct_engine.specs.EngineStates.{EngineValue}
use Rattle.pct_tallies.specs.declared.seed_run.SeedRun.{SeedRun}
use Rattle.pct_tallies.specs.Seeds.{seed_count}
use Rattle.pct_tallies.specs.Tallies.{tally_of}
use Rattle.pct_sample.specs.SeedRuns.{IsRunOfSeed}
use Rattle.pct_sample.proofs.LongerRows.{longer_rows}
use Rattle.pct_sample.proofs.OkRuns.{all_length}
use Rattle.pct_sample.proofs.sampling.sample_part.Goals as goal

pub loop-more-preserved : goal.loop-more-preserved
loop-more-preserved c =
    let first = c.args.seeds.first + c.min-before.result in
    let more = c.loop-more.more in
    let same = c.run_seed.ensures.same in
    let run = subst (λ (s : Script). IsRunOfSeed s (first + more) c.run_seed.result) c.loop-more.invariant.script c.run_seed.ensures.run in
    record {
      script = ap (λ (v : EngineValue). v.script) same ∙ c.loop-more.invariant.script;
      config = ap (λ (v : EngineValue). v.config) same ∙ c.loop-more.invariant.config;
      rows = subst (λ (rows : List SeedRun). AllZip (IsRunOfSeed c.args.script.now) (range_with_len first (more + 1)) rows) (sym c.in_ok-push.ensures.items)
          (longer_rows (IsRunOfSeed c.args.script.now) c.run_seed.result first more (more + 1) c.loop-more.runs.items c.loop-more.invariant.rows run (omega arith));
    }

pub tally_of-requires : goal.tally_of-requires
tally_of-requires c =
    let first = c.args.seeds.first + c.min-before.result in
    let rows = all_length (IsRunOfSeed c.args.script.now) (range_with_len first c.loop-more.more) c.loop-more.runs.items c.loop-more.invariant.rows in
    let more = length-range_with_len first c.loop-more.more in
    omega (arith, ap length c.as_slice.ensures.value, rows, more, c.loop-more.auto.more-end, c.min-count.ensures, c.requires.size)

pub returns : goal.returns
returns c =
    let script = c.args.script.now in
    let seeds = c.args.seeds in
    let size = c.args.size in
    let before : c.min-before.result ≡ min (c.args.part * size) (seed_count seeds) = rw (c.from.ensures, c.count.ensures) at c.min-before.ensures in
    let count : c.loop-more.more ≡ min size (seed_count seeds - c.args.part * size) = omega (arith, before, c.min-count.ensures, c.count-2.ensures, c.loop-more.auto.more-end, c.loop-more-test.false) in
    let rows = subst₂ (λ (b n : ℕ). AllZip (IsRunOfSeed script) (range_with_len (seeds.first + b) n) c.loop-more.runs.items) before count c.loop-more.invariant.rows in
    IfOk-then c.tally_of.result _ _ c.tally_of.ensures (λ t is. record { runs = c.loop-more.runs.items; of_seeds = rows; counted = is ∙ ap tally_of c.as_slice.ensures.value })
