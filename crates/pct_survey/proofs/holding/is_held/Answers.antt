use Rattle.std.specs.Bool.{Decides}
use Rattle.pct_names.proofs.Names.{◌==◌, ap, count_by, Event, event_line, IfOk, List, map, subst, sym, ℕ, ◌∙◌}
use Rattle.pct_expect.specs.declared.rule.RuleKind.{RuleKind}
use Rattle.pct_expect.specs.Answers.{HoldsAs}
use Rattle.pct_expect.specs.Events.{matches}
use Rattle.pct_survey.proofs.EventLines.{lines}
use Rattle.pct_survey.proofs.HeldRules.{count_mapped, count_tested, never_counted}
use Rattle.pct_survey.proofs.holding.is_held.Goals as goal

pub returns-in-Never : goal.returns-in-Never
returns-in-Never c =
    let script = c.args.script.now in
    let events = c.args.events.now in
    let rule = c.args.rule.now in
    let counted = c.count_matches.ensures ∙ ap (λ (pattern : List (List ℕ)). count_by (λ (event : Event). matches pattern (event_line script event)) events) c.as_slice.ensures in
    subst (λ (kind : RuleKind). Decides (c.count_matches.result == 0) (HoldsAs kind rule (lines script events))) (sym c.in-Never.is)
    (never_counted (event_line script) (matches rule.first) events c.count_matches.result counted)

pub returns-in-Count : goal.returns-in-Count
returns-in-Count c =
    let script = c.args.script.now in
    let events = c.args.events.now in
    let rule = c.args.rule.now in
    let count = c.count_matches-count in
    let counted = count.ensures ∙ ap (λ (pattern : List (List ℕ)). count_by (λ (event : Event). matches pattern (event_line script event)) events) c.as_slice-in-Count.ensures in
    subst (λ (kind : RuleKind). Decides (count.result == rule.number) (HoldsAs kind rule (lines script events))) (sym c.in-Count.is)
    (count_tested count.result _ (count_by (matches rule.first) (map (event_line script) events)) counted (count_mapped (event_line script) (matches rule.first) events) rule.number)

pub returns-in-Thread : goal.returns-in-Thread
returns-in-Thread c =
    subst (λ (kind : RuleKind). IfOk c.thread_held.result (λ held. Decides held (HoldsAs kind c.args.rule.now (lines c.args.script.now c.args.events.now)))) (sym c.in-Thread.is) c.thread_held.ensures
