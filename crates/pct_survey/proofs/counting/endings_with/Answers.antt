use Rattle.pct_names.proofs.Names.{◌++◌, [], sym, ◌∙◌, ◌∷◌}
use Rattle.pct_survey.specs.MoreRuns.{ending_with}
use Rattle.pct_survey.proofs.CountedLists.{mapped_more}
use Rattle.pct_survey.proofs.counting.endings_with.Goals as goal

pub loop-ending-preserved : goal.loop-ending-preserved
loop-ending-preserved c =
    c.in_ok-push.ensures.items ∙ (λ i. c.loop-ending.invariant i ++ c.ending_with.ensures i ∷ []) ∙ sym (mapped_more (ending_with c.args.runs.now) c.args.endings.now c.loop-ending.ending-index _ c.loop-ending-test.true)
