use Rattle.pct_names.proofs.Names.{arith, err_from_is_err_and, line_text}
use Rattle.pct_io.proofs.WritesInTurn.{Writes-last, Writes-next, Writes-next_fails}
use Rattle.pct_judgement.specs.AnswerTexts.{answer_line}
use Rattle.pct_judgement.proofs.answer_text.write_each.Goals as goal

pub loop-answer-preserved : goal.loop-answer-preserved
loop-answer-preserved g c = λ new r writes. c.loop-answer.invariant new r (Writes-next (λ answer. line_text (answer_line answer)) _ c.loop-answer.answer-index _ r (omega arith) c.in_ok-write_answer.ensures writes)

pub returns-in_err-write_answer : goal.returns-in_err-write_answer
returns-in_err-write_answer g c =
    let p = err_from_is_err_and c.from_residual.result c.from_residual.ensures.1 in
    rw p.1 (c.loop-answer.invariant _ _ (Writes-next_fails (λ answer. line_text (answer_line answer)) _ c.loop-answer.answer-index _ (omega arith) c.in_err-write_answer.ensures))

pub returns : goal.returns
returns g c = c.loop-answer.invariant _ _ (Writes-last (λ answer. line_text (answer_line answer)) _ c.loop-answer.answer-index _ (omega arith))
