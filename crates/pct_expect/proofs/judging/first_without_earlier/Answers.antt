use Rattle.pct_names.proofs.Names.{arith, refl}
use Rattle.pct_expect.specs.Events.{MatchesAt}
use Rattle.pct_expect.proofs.EventLines.{inside_events, matched_by, unmatched_by}
use Rattle.pct_expect.proofs.Failures.{to_one_more}
use Rattle.pct_expect.proofs.RuleFailures.{before_fails, before_holds, before_never_asks}
use Rattle.pct_expect.proofs.judging.first_without_earlier.Goals as goal

pub returns-then-is_match : goal.returns-then-is_match
returns-then-is_match c =
    let events = c.args.events.now in
    let rule = c.args.rule.now in
    let k = c.loop-index.index in
    before_fails rule events k _ c.loop-index.invariant.no_first c.loop-index.invariant.no_second refl
    (matched_by rule.second _ events k c.of-second.ensures c.if-is_match.ensures)

pub returns-then-is_match-2 : goal.returns-then-is_match-2
returns-then-is_match-2 c =
    let events = c.args.events.now in
    let rule = c.args.rule.now in
    let k = c.loop-index.index in
    before_holds rule events k
    (to_one_more (λ i. MatchesAt rule.second events i → ⊥) k c.loop-index.invariant.no_second
    (unmatched_by rule.second _ events k c.of-second.ensures c.if-is_match.ensures))
    (matched_by rule.first _ events k c.of-first.ensures c.if-is_match-2.ensures)

pub loop-index-preserved : goal.loop-index-preserved
loop-index-preserved c =
    let events = c.args.events.now in
    let rule = c.args.rule.now in
    let k = c.loop-index.index in
    record {
      no_first = to_one_more (λ i. MatchesAt rule.first events i → ⊥) k c.loop-index.invariant.no_first
          (unmatched_by rule.first _ events k c.of-first.ensures c.if-is_match-2.ensures);
      no_second = to_one_more (λ i. MatchesAt rule.second events i → ⊥) k c.loop-index.invariant.no_second
          (unmatched_by rule.second _ events k c.of-second.ensures c.if-is_match.ensures);
    }

pub returns : goal.returns
returns c =
    let events = c.args.events.now in
    let rule = c.args.rule.now in
    before_never_asks rule events c.loop-index.index c.loop-index.invariant.no_second
    (λ i m. let inside = inside_events rule.second events i m in omega (arith, inside, c.len-index-end.ensures, c.loop-index-test.false))
