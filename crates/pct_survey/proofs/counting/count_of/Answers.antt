use Rattle.pct_names.proofs.Names.{◌+◌, ◌-◌, ◌<◌, ◌≡◌, ap, arith, length, sym, ◌∙◌}
use Rattle.std.proofs.lemmas.List.{at_drop_all}
use Rattle.std.proofs.Common.{le_refl}
use Rattle.pct_survey.specs.Surveys.{count_of, has}
use Rattle.pct_survey.proofs.CountedLists.{not_here}
use Rattle.pct_survey.proofs.counting.count_of.Goals as goal

pub loop-index-init : goal.loop-index-init
loop-index-init c = record {
  counted = sym (at_drop_all (count_of (has c.args.property)) c.args.runs.now (length c.args.runs.now) (le_refl _));
  few = omega arith;
}

pub loop-index-preserved : goal.loop-index-preserved
loop-index-preserved c =
    let runs = c.args.runs.now in
    let k = c.loop-index.index in
    let next : k ≡ (k - 1) + 1 = omega (arith, c.loop-index-test.true) in
    let inside : k - 1 < length runs = omega (arith, c.loop-index-test.true, c.loop-index.auto.index) in
    record {
      counted = not_here (has c.args.property) (λ r. r.seed) runs (k - 1) k c.index-runs-index.result next inside c.loop-index.count c.loop-index.invariant.counted (c.if-is_of.ensures ∙ ap (has c.args.property) c.index-runs-index.is);
      few = omega (arith, c.loop-index.invariant.few);
    }
