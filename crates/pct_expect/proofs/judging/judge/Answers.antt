use Rattle.std.proofs.lemmas.List.{take_more}
use Rattle.pct_names.proofs.Names.{◌++◌, ◌+◌, ◌<◌, [], ap, AllZip, get_or, length, List, subst, sym, take, ℕ, ◌∙◌, ◌∷◌, ◌≡◌}
use Rattle.pct_expect.specs.declared.rule.Rule.{Rule}
use Rattle.pct_expect.specs.declared.verdict.Judged.{Judged}
use Rattle.pct_expect.specs.Answers.{IsAnswer}
use Rattle.pct_expect.specs.Events.{events_in}
use Rattle.pct_expect.proofs.RuleAnswers.{one_more_pair}
use Rattle.pct_expect.proofs.judging.judge.Goals as goal

pub loop-rule-preserved : goal.loop-rule-preserved
loop-rule-preserved c =
    let events = events_in c.args.text.now c.args.lines.now in
    let rules = c.args.expects.now in
    let i = c.loop-rule.rule-index in
    let rule = c.rule-item.result in
    let answers = c.loop-rule.verdicts.items in
    let inside : i < length rules = subst (λ (xs : List Rule). i < length xs) c.as_slice-rule-items.ensures c.loop-rule-test.true in
    let is : rule ≡ get_or rules i rule = subst (λ (xs : List Rule). rule ≡ get_or xs i rule) c.as_slice-rule-items.ensures c.rule-item.is in
    let grown : take (i + 1) rules ≡ take i rules ++ rule ∷ [] = take_more rules i rule inside ∙ ap (λ (r : Rule). take i rules ++ r ∷ []) (sym is) in
    let here = subst (λ (es : List (List (List ℕ))). IsAnswer es rule c.in_ok-judged.field-0) c.in_ok-events.ensures c.in_ok-judged.ensures in
    let more = one_more_pair (IsAnswer events) (take i rules) answers rule c.in_ok-judged.field-0 c.loop-rule.invariant here in
    subst (λ (xs : List Rule). AllZip (IsAnswer events) xs c.push.new.self.items) (sym grown)
    (subst (λ (ys : List Judged). AllZip (IsAnswer events) (take i rules ++ rule ∷ []) ys) (sym {A = List Judged} c.in_ok-push.ensures.items) more)
