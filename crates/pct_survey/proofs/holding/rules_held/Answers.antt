use Rattle.std.proofs.lemmas.List.{take_more}
use Rattle.std.specs.Bool.{Decides}
use Rattle.pct_names.proofs.Names.{◌++◌, ◌+◌, [], ap, AllZip, Bool, List, subst, sym, take, ◌∙◌, ◌∷◌, ◌≡◌}
use Rattle.pct_expect.specs.declared.rule.Rule.{Rule}
use Rattle.pct_expect.specs.Answers.{Holds}
use Rattle.pct_expect.proofs.RuleAnswers.{one_more_pair}
use Rattle.pct_survey.proofs.EventLines.{lines}
use Rattle.pct_survey.proofs.holding.rules_held.Goals as goal

pub loop-rule-preserved : goal.loop-rule-preserved
loop-rule-preserved c =
    let events = lines c.args.script.now c.args.events.now in
    let rules = c.args.rules.now in
    let i = c.loop-rule.rule-index in
    let rule = c.rule-item.result in
    let grown : take (i + 1) rules ≡ take i rules ++ rule ∷ [] = take_more rules i rule c.loop-rule-test.true ∙ ap (λ (r : Rule). take i rules ++ r ∷ []) (sym c.rule-item.is) in
    let more = one_more_pair (λ (r : Rule) (h : Bool). Decides h (Holds r events)) (take i rules) c.loop-rule.held.items rule c.in_ok-is_held.field-0 c.loop-rule.invariant c.in_ok-is_held.ensures in
    subst (λ (xs : List Rule). AllZip (λ (r : Rule) (h : Bool). Decides h (Holds r events)) xs c.push.new.self.items) (sym grown)
    (subst (λ (hs : List Bool). AllZip (λ (r : Rule) (h : Bool). Decides h (Holds r events)) (take i rules ++ rule ∷ []) hs) (sym c.in_ok-push.ensures.items) more)
