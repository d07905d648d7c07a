use Rattle.pct_names.proofs.Names.{err_from_is_err_and}
use Rattle.pct_io.proofs.WritesInTurn.{Writes-fails, Writes-then}
use Rattle.pct_survey.proofs.survey_text.write_lines.Goals as goal

pub returns-in_err-write_rules : goal.returns-in_err-write_rules
returns-in_err-write_rules g c =
    let p = err_from_is_err_and c.from_residual.result c.from_residual.ensures.1 in
    rw p.1 (Writes-fails _ (rw c.as_slice.ensures at c.in_err-write_rules.ensures))

pub returns : goal.returns
returns g c = Writes-then _ (rw c.as_slice.ensures at c.in_ok-write_rules.ensures) (rw c.as_slice-2.ensures at c.write_endings.ensures)
