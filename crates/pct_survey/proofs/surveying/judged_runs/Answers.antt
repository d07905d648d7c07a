use Rattle.pct_names.proofs.Names.{AllZip, flat_map, List, subst, ℕ, ◌∙◌}
use Rattle.rayon.proofs.ListFacts.{IfOk-then}
use Rattle.pct_survey.specs.JudgedRuns.{IsJudgedRun}
use Rattle.pct_survey.proofs.CollectedRuns.{all_collected}
use Rattle.pct_survey.proofs.surveying.judged_runs.Goals as goal

pub returns : goal.returns
returns g c =
    let subject = c.args.subject.now in
    let made = c.in_ok-collect.ensures in
    let chain = rw (c.map.ensures.base, c.map.ensures.f, c.with_min_len.ensures.base) at made.1 in
    let kept = rw c.in_ok-runs.was at made.2 in
    let each = all_collected _ (IsJudgedRun subject.script.now subject.config subject.rules.now) (λ v. v.items) (λ v. v.items) c.in_ok-runs.runs
    c.par_chunks.result.slice.now c.par_chunks.result.size chain.0 made.0 chain.1 chain.2 kept in
    let seeds = c.par_chunks.ensures.slice ∙ c.as_slice.ensures.value ∙ c.in_ok-seeds.ensures in
    let joined = subst (λ (l : List ℕ). AllZip (IsJudgedRun subject.script.now subject.config subject.rules.now) l (flat_map (λ v. v.items) c.in_ok-runs.runs.items)) seeds each in
    IfOk-then c.in_one.result _ _ c.in_one.ensures (λ all is. rw is joined)
