use Rattle.pct_names.proofs.Names.{err_from_is_err_and}
use Rattle.pct_io.proofs.WritesInTurn.{Writes-then, Writes-fails}
use Rattle.pct_judgement.proofs.AnswerLines.{answers-text}
use Rattle.pct_judgement.proofs.answer_text.write_answers.Goals as goal

pub returns-in_err-write_each : goal.returns-in_err-write_each
returns-in_err-write_each g c =
    let p = err_from_is_err_and c.from_residual.result c.from_residual.ensures.1 in
    rw (answers-text c.args.answers.now, p.1) (Writes-fails _ c.in_err-write_each.ensures)

pub returns : goal.returns
returns g c = rw (answers-text c.args.answers.now) (Writes-then _ c.in_ok-write_each.ensures (rw c.failed_count.ensures at c.write_line.ensures))
