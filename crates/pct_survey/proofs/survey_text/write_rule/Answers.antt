use Rattle.pct_names.proofs.Names.{err_from_is_err_and}
use Rattle.pct_io.proofs.WritesInTurn.{Writes-fails, Writes-then}
use Rattle.pct_survey.proofs.survey_text.write_rule.Goals as goal

pub returns-in_err-write_digits : goal.returns-in_err-write_digits
returns-in_err-write_digits g c =
    let p = err_from_is_err_and c.from_residual.result c.from_residual.ensures.1 in
    rw p.1 (Writes-fails _ c.in_err-write_digits.ensures)

pub returns-in_err-write_number : goal.returns-in_err-write_number
returns-in_err-write_number g c =
    let p = err_from_is_err_and c.from_residual-in_err-write_number.result c.from_residual-in_err-write_number.ensures.1 in
    rw p.1 (Writes-then _ c.in_ok-write_digits.ensures (Writes-fails _ c.in_err-write_number.ensures))

pub returns-in_err-write_number-2 : goal.returns-in_err-write_number-2
returns-in_err-write_number-2 g c =
    let p = err_from_is_err_and c.from_residual-in_err-write_number-2.result c.from_residual-in_err-write_number-2.ensures.1 in
    rw p.1 (Writes-then _ c.in_ok-write_digits.ensures (Writes-then _ c.in_ok-write_number.ensures (Writes-fails _ c.in_err-write_number-2.ensures)))

pub returns-in_err-write_first : goal.returns-in_err-write_first
returns-in_err-write_first g c =
    let p = err_from_is_err_and c.from_residual-in_err-write_first.result c.from_residual-in_err-write_first.ensures.1 in
    rw p.1 (Writes-then _ c.in_ok-write_digits.ensures (Writes-then _ c.in_ok-write_number.ensures (Writes-then _ c.in_ok-write_number-2.ensures (Writes-fails _ c.in_err-write_first.ensures))))

pub returns-in_err-write_first-2 : goal.returns-in_err-write_first-2
returns-in_err-write_first-2 g c =
    let p = err_from_is_err_and c.from_residual-in_err-write_first-2.result c.from_residual-in_err-write_first-2.ensures.1 in
    rw p.1 (Writes-then _ c.in_ok-write_digits.ensures (Writes-then _ c.in_ok-write_number.ensures (Writes-then _ c.in_ok-write_number-2.ensures (Writes-then _ c.in_ok-write_first.ensures (Writes-fails _ c.in_err-write_first-2.ensures)))))

pub returns : goal.returns
returns g c = Writes-then _ c.in_ok-write_digits.ensures (Writes-then _ c.in_ok-write_number.ensures (Writes-then _ c.in_ok-write_number-2.ensures (Writes-then _ c.in_ok-write_first.ensures (Writes-then _ c.in_ok-write_first-2.ensures c.write_all.ensures))))
