use Rattle.pct_names.proofs.Names.{arith, err_from_is_err_and}
use Rattle.pct_io.proofs.WritesInTurn.{Writes-last, Writes-next, Writes-next_fails}
use Rattle.pct_survey.specs.SurveyTexts.{shown_ending}
use Rattle.pct_survey.proofs.survey_text.write_endings.Goals as goal

pub loop-ending-preserved : goal.loop-ending-preserved
loop-ending-preserved g c = λ new r writes. c.loop-ending.invariant new r (Writes-next shown_ending _ c.loop-ending.ending-index _ r (omega arith) c.in_ok-write_shown.ensures writes)

pub returns-in_err-write_shown : goal.returns-in_err-write_shown
returns-in_err-write_shown g c =
    let p = err_from_is_err_and c.from_residual.result c.from_residual.ensures.1 in
    rw p.1 (c.loop-ending.invariant _ _ (Writes-next_fails shown_ending _ c.loop-ending.ending-index _ (omega arith) c.in_err-write_shown.ensures))

pub returns : goal.returns
returns g c = c.loop-ending.invariant _ _ (Writes-last shown_ending _ c.loop-ending.ending-index _ (omega arith))
