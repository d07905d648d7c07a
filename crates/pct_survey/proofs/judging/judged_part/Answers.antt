use Rattle.std.proofs.lemmas.List.{take_more}
use Rattle.pct_names.proofs.Names.{◌++◌, [], ap, AllZip, get_or, List, subst, sym, take, ℕ, ◌∙◌, ◌∷◌}
use Rattle.pct_engine.specs.EngineStates.{EngineValue}
use Rattle.pct_expect.proofs.RuleAnswers.{one_more_pair}
use Rattle.pct_survey.specs.declared.judging.JudgedRun.{JudgedRun}
use Rattle.pct_survey.specs.JudgedRuns.{IsJudgedRun}
use Rattle.pct_survey.proofs.JudgedEngines.{judged_alike}
use Rattle.pct_survey.proofs.judging.judged_part.Goals as goal

pub loop-seed-preserved : goal.loop-seed-preserved
loop-seed-preserved c =
    let loop = c.loop-seed.invariant in
    let subject = c.args.subject.now in
    let seeds = c.args.seeds.now in
    let i = c.loop-seed.seed-index in
    let same = c.judged_run.ensures.same in
    let R : ℕ → JudgedRun → Type 0 = λ seed run. IsJudgedRun subject.script.now subject.config subject.rules.now seed run in
    let seed : ℕ = get_or seeds i 0 in
    let one = judged_alike c.loop-seed.engine.script subject.script.now c.loop-seed.engine.config subject.config c.as_slice.result.now subject.rules.now seed c.in_ok-judged_run.field-0 loop.script loop.config c.as_slice.ensures c.in_ok-judged_run.ensures.run in
    let more = one_more_pair R (take i seeds) c.loop-seed.runs.items seed c.in_ok-judged_run.field-0 loop.runs one in
    record {
      script = ap (λ (e : EngineValue). e.script) same ∙ loop.script;
      config = ap (λ (e : EngineValue). e.config) same ∙ loop.config;
      runs = subst (λ (xs : List ℕ). AllZip R xs c.push.new.self.items) (sym (take_more seeds i 0 c.loop-seed-test.true)) (subst (λ (rs : List JudgedRun). AllZip R (take i seeds ++ seed ∷ []) rs) (sym c.in_ok-push.ensures.items) more);
    }
