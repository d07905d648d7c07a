use Rattle.pct_names.proofs.Names.{◌+◌, arith, ◌≡◌}
use Rattle.pct_expect.specs.Events.{MatchesAt}
use Rattle.pct_expect.proofs.Failures.{to_one_more}
use Rattle.pct_expect.proofs.RuleFailures.{before_fails, before_holds, before_never_asks}
use Rattle.pct_survey.proofs.EventLines.{inside, lines, matched, unmatched}
use Rattle.pct_survey.proofs.HeldRules.{no, yes}
use Rattle.pct_survey.proofs.holding.before_held.Goals as goal

pub returns-then-is_match : goal.returns-then-is_match
returns-then-is_match c =
    let script = c.args.script.now in
    let events = c.args.events.now in
    let rule = c.args.rule.now in
    let k = c.loop-index.index in
    let number : k + 1 ≡ k + 1 = omega arith in
    no ((before_fails rule (lines script events) k (k + 1) c.loop-index.invariant.no_first c.loop-index.invariant.no_second number
    (matched script events rule.second _ k _ c.loop-index-test.true c.as_slice.ensures c.if-is_match.ensures)).0)

pub returns-then-is_match-2 : goal.returns-then-is_match-2
returns-then-is_match-2 c =
    let script = c.args.script.now in
    let events = c.args.events.now in
    let rule = c.args.rule.now in
    let k = c.loop-index.index in
    yes (before_holds rule (lines script events) k
    (to_one_more (λ i. MatchesAt rule.second (lines script events) i → ⊥) k c.loop-index.invariant.no_second (unmatched script events rule.second _ k _ c.loop-index-test.true c.as_slice.ensures c.if-is_match.ensures))
    (matched script events rule.first _ k _ c.loop-index-test.true c.as_slice-in-loop-index.ensures c.if-is_match-2.ensures))

pub loop-index-preserved : goal.loop-index-preserved
loop-index-preserved c =
    let script = c.args.script.now in
    let events = c.args.events.now in
    let rule = c.args.rule.now in
    let k = c.loop-index.index in
    record {
      no_first = to_one_more (λ i. MatchesAt rule.first (lines script events) i → ⊥) k c.loop-index.invariant.no_first
          (unmatched script events rule.first _ k _ c.loop-index-test.true c.as_slice-in-loop-index.ensures c.if-is_match-2.ensures);
      no_second = to_one_more (λ i. MatchesAt rule.second (lines script events) i → ⊥) k c.loop-index.invariant.no_second
          (unmatched script events rule.second _ k _ c.loop-index-test.true c.as_slice.ensures c.if-is_match.ensures);
    }

pub returns : goal.returns
returns c =
    let script = c.args.script.now in
    let events = c.args.events.now in
    let rule = c.args.rule.now in
    yes (before_never_asks rule (lines script events) c.loop-index.index c.loop-index.invariant.no_second (λ i m. let within = inside script events rule.second i m in omega (arith, within, c.loop-index-test.false)))
