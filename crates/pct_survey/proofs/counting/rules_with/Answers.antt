use Rattle.pct_names.proofs.Names.{◌++◌, [], sym, ◌∙◌, ◌∷◌}
use Rattle.pct_survey.specs.MoreRuns.{rule_with}
use Rattle.pct_survey.proofs.CountedLists.{numbered_more}
use Rattle.pct_survey.proofs.counting.rules_with.Goals as goal

pub loop-index-preserved : goal.loop-index-preserved
loop-index-preserved c =
    c.in_ok-push.ensures.items ∙ (λ i. c.loop-index.invariant i ++ c.rule_with.ensures i ∷ []) ∙ sym (numbered_more (rule_with c.args.runs.now) c.args.rules.now c.loop-index.index _ c.loop-index-test.true)
