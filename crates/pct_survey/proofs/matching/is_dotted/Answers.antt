use Rattle.pct_names.proofs.Names.{◌&&◌, ◌++◌, ap, arith, Bool, bytes_eq, decimal, false, List, nat_eq, nat_tests, refl, sym, true, ℕ, ◌∙◌, ◌∷◌, ◌≡◌}
use Rattle.pct_survey.proofs.Dotted.{not_begun, some_left}
use Rattle.pct_survey.proofs.matching.is_dotted.Goals as goal

pub returns-then-dot-eq46 : goal.returns-then-dot-eq46
returns-then-dot-eq46 c =
    let rest = 46 ∷ decimal c.args.second in
    let begin = c.as_bytes.ensures.value ∙ c.format.ensures.text in
    let dot : nat_eq c.in-Some-split_first.dot.now 46 ≡ true = grind (arith, nat_tests) in
    c.is_number.ensures
    ∙ sym (ap (λ (t : Bool). t && bytes_eq c.in-Some-split_first.after.now (decimal c.args.second)) dot)
    ∙ some_left c.args.bytes.now c.as_bytes.result.now rest c.in-Some.rest.now c.in-Some-split_first.after.now (decimal c.args.second) c.in-Some-split_first.dot.now 46 refl
    c.in-Some.ensures.cases.0 c.in-Some.ensures.cases.1 c.in-Some-split_first.ensures.cases.0
    ∙ ap (λ (start : List ℕ). bytes_eq c.args.bytes.now (start ++ rest)) begin

pub returns-else-dot-eq46 : goal.returns-else-dot-eq46
returns-else-dot-eq46 c =
    let rest = 46 ∷ decimal c.args.second in
    let begin = c.as_bytes.ensures.value ∙ c.format.ensures.text in
    let dot : nat_eq c.in-Some-split_first.dot.now 46 ≡ false = grind (arith, nat_tests) in
    dot
    ∙ sym (ap (λ (t : Bool). t && bytes_eq c.in-Some-split_first.after.now (decimal c.args.second)) dot)
    ∙ some_left c.args.bytes.now c.as_bytes.result.now rest c.in-Some.rest.now c.in-Some-split_first.after.now (decimal c.args.second) c.in-Some-split_first.dot.now 46 refl
    c.in-Some.ensures.cases.0 c.in-Some.ensures.cases.1 c.in-Some-split_first.ensures.cases.0
    ∙ ap (λ (start : List ℕ). bytes_eq c.args.bytes.now (start ++ rest)) begin

pub returns-in-None : goal.returns-in-None
returns-in-None c =
    let rest = 46 ∷ decimal c.args.second in
    not_begun c.args.bytes.now c.as_bytes.result.now rest c.in-None.ensures.cases
    ∙ ap (λ (start : List ℕ). bytes_eq c.args.bytes.now (start ++ rest)) (c.as_bytes.ensures.value ∙ c.format.ensures.text)
