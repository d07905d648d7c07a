use Rattle.pct_names.proofs.Names.{◌++◌, ap, List, Some, sym, ◌∙◌, ◌≡◌}
use Rattle.std.proofs.lemmas.List.{append-nil}
use Rattle.pct_expect.specs.declared.rule.Rule.{Rule}
use Rattle.pct_expect.specs.Reading.{rules_in}
use Rattle.pct_expect.specs.Rules.{rule_in}
use Rattle.pct_expect.proofs.LinesRead.{rules_first, rules_later, rules_none, stored_after}
use Rattle.pct_expect.proofs.reader.rules_in.Goals as goal

pub loop-number-preserved-in_ok-push : goal.loop-number-preserved-in_ok-push
loop-number-preserved-in_ok-push c =
    let n = c.in-Some.number in
    let line = c.in-Some.line.now in
    let stored = c.loop-number.rules.items in
    let rule = c.in_ok-rule_from.field-0 in
    let is : rule_in n line ≡ Some rule = sym (c.in-Some-parts_of.ensures n) ∙ ap (λ (r : Rule). Some r) (sym c.in_ok-rule_from.ensures) in
    c.loop-number.invariant
    ∙ ap (λ (others : List Rule). stored ++ others) (rules_first c.loop-number.lines n line c.next.new.self rule c.in-Some.ensures is)
    ∙ stored_after stored rule (rules_in c.next.new.self) c.push.new.self.items c.in_ok-push.ensures.items

pub loop-number-preserved : goal.loop-number-preserved
loop-number-preserved c =
    let n = c.in-Some.number in
    let stored = c.loop-number.rules.items in
    c.loop-number.invariant
    ∙ ap (λ (others : List Rule). stored ++ others) (rules_later c.loop-number.lines n c.in-Some.line.now c.next.new.self c.in-Some.ensures (sym (c.in_default-parts_of.ensures n)))

pub returns : goal.returns
returns c =
    let stored = c.loop-number.rules.items in
    sym (c.loop-number.invariant ∙ ap (λ (others : List Rule). stored ++ others) (rules_none c.loop-number.lines c.in_default.ensures.0) ∙ append-nil stored)
