use Rattle.pct_names.proofs.Names.{arith, refl}
use Rattle.pct_expect.specs.Events.{MatchesAt}
use Rattle.pct_expect.proofs.EventLines.{inside_events, matched_by, unmatched_by}
use Rattle.pct_expect.proofs.Failures.{to_one_more}
use Rattle.pct_expect.proofs.RuleFailures.{never_fails, never_holds}
use Rattle.pct_expect.proofs.judging.first_match.Goals as goal

pub returns-then-is_match : goal.returns-then-is_match
returns-then-is_match c =
    let events = c.args.events.now in
    let rule = c.args.rule.now in
    let k = c.loop-index.index in
    never_fails rule events k _ c.loop-index.invariant refl (matched_by rule.first _ events k c.of-first.ensures c.if-is_match.ensures)

pub loop-index-preserved : goal.loop-index-preserved
loop-index-preserved c =
    let events = c.args.events.now in
    let rule = c.args.rule.now in
    let k = c.loop-index.index in
    to_one_more (λ i. MatchesAt rule.first events i → ⊥) k c.loop-index.invariant (unmatched_by rule.first _ events k c.of-first.ensures c.if-is_match.ensures)

pub returns : goal.returns
returns c =
    let events = c.args.events.now in
    let rule = c.args.rule.now in
    never_holds rule events c.loop-index.index c.loop-index.invariant
    (λ i m. let inside = inside_events rule.first events i m in omega (arith, inside, c.len-index-end.ensures, c.loop-index-test.false))
