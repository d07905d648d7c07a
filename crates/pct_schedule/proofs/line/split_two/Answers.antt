use Rattle.pct_names.proofs.Names.{ap, List, Some, sym, ◌∙◌, ◌∷◌, ℕ}
use Rattle.pct_text.specs.FirstNumber.{split_number}
use Rattle.pct_schedule.proofs.DigitsFirst.{digit_first}
use Rattle.pct_schedule.proofs.line.split_two.Goals as goal

pub returns : goal.returns
returns c =
    let second : List ℕ = c.in-Some.second ∷ 32 ∷ c.in-Some.after.now in
    record {
      next = second;
      first = ap split_number c.in-Some.ensures ∙ digit_first c.in-Some.first second (sym c.if-is_digit.ensures) ∙ ap (λ n. Some (n, second)) (sym c.from.ensures);
      second = digit_first c.in-Some.second c.in-Some.after.now (sym c.if-is_digit-2.ensures) ∙ ap (λ n. Some (n, c.in-Some.after.now)) (sym c.from-2.ensures);
    }
