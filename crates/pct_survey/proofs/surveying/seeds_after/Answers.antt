use Rattle.pct_names.proofs.Names.{◌+◌, ◌++◌, [], arith, ◌∙◌, ◌∷◌}
use Rattle.pct_survey.proofs.MoreRuns.{range-more}
use Rattle.pct_survey.proofs.surveying.seeds_after.Goals as goal

pub loop-before-preserved : goal.loop-before-preserved
loop-before-preserved c =
    let seed = c.args.done + c.loop-before.before + 1 in
    c.in_ok-push.ensures.items ∙ (λ i. c.loop-before.invariant i ++ seed ∷ []) ∙ range-more (c.args.done + 1) c.loop-before.before seed (omega arith)
