use Rattle.pct_names.proofs.Names.{arith, err_from_is_err_and}
use Rattle.pct_io.proofs.WritesInTurn.{Writes-last, Writes-next, Writes-next_fails}
use Rattle.pct_survey.specs.SurveyTexts.{rule_text}
use Rattle.pct_survey.proofs.survey_text.write_rules.Goals as goal

pub loop-rule-preserved : goal.loop-rule-preserved
loop-rule-preserved g c = λ new r writes. c.loop-rule.invariant new r (Writes-next rule_text _ c.loop-rule.rule-index _ r (omega arith) c.in_ok-write_rule.ensures writes)

pub returns-in_err-write_rule : goal.returns-in_err-write_rule
returns-in_err-write_rule g c =
    let p = err_from_is_err_and c.from_residual.result c.from_residual.ensures.1 in
    rw p.1 (c.loop-rule.invariant _ _ (Writes-next_fails rule_text _ c.loop-rule.rule-index _ (omega arith) c.in_err-write_rule.ensures))

pub returns : goal.returns
returns g c = c.loop-rule.invariant _ _ (Writes-last rule_text _ c.loop-rule.rule-index _ (omega arith))
