use Rattle.pct_names.proofs.Names.{arith, nat_eq, nat_tests, true, ◌≡◌}
use Rattle.pct_io.proofs.WritesInTurn.{Writes-nothing}
use Rattle.pct_survey.proofs.survey_text.write_shown.Goals as goal

pub returns-then-ending-eq0 : goal.returns-then-ending-eq0
returns-then-ending-eq0 g c =
    let none : nat_eq c.args.ending.count.runs 0 ≡ true = grind (arith, nat_tests) in
    rw none (Writes-nothing _)
