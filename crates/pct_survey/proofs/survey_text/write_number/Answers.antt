use Rattle.pct_io.proofs.WritesInTurn.{Writes-then}
use Rattle.pct_survey.proofs.survey_text.write_number.Goals as goal

pub returns : goal.returns
returns g c = Writes-then _ c.in_ok-write_all.ensures c.write_digits.ensures
