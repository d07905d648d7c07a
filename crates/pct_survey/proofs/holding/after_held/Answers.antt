use Rattle.pct_names.proofs.Names.{◌+◌, ◌-◌, ◌<◌, arith, length, None, ◌≡◌}
use Rattle.pct_expect.specs.Events.{MatchesAt}
use Rattle.pct_expect.proofs.Failures.{from_one_less}
use Rattle.pct_expect.proofs.RuleFailures.{after_ends, after_more, after_stops}
use Rattle.pct_survey.proofs.EventLines.{lines, matched, unmatched}
use Rattle.pct_survey.proofs.HeldRules.{after_fails, no, yes}
use Rattle.pct_survey.proofs.holding.after_held.Goals as goal

pub returns-then-is_match : goal.returns-then-is_match
returns-then-is_match c =
    let script = c.args.script.now in
    let events = c.args.events.now in
    let rule = c.args.rule.now in
    let k = c.loop-index.index in
    let j = k - 1 in
    let next : k ≡ j + 1 = omega (arith, c.loop-index-test.true) in
    let inside : j < length events = omega (arith, c.loop-index-test.true, c.loop-index.invariant.within) in
    no (after_fails rule (lines script events) j k next c.loop-index.invariant.none (matched script events rule.first _ j _ inside c.as_slice.ensures c.if-is_match.ensures))

pub returns-then-is_match-2 : goal.returns-then-is_match-2
returns-then-is_match-2 c =
    let script = c.args.script.now in
    let events = c.args.events.now in
    let rule = c.args.rule.now in
    let k = c.loop-index.index in
    let j = k - 1 in
    let next : k ≡ j + 1 = omega (arith, c.loop-index-test.true) in
    let inside : j < length events = omega (arith, c.loop-index-test.true, c.loop-index.invariant.within) in
    yes (after_stops rule (lines script events) j None
    (after_more rule (lines script events) j k None next c.loop-index.invariant.found (unmatched script events rule.first _ j _ inside c.as_slice.ensures c.if-is_match.ensures))
    (matched script events rule.second _ j _ inside c.as_slice-in-loop-index.ensures c.if-is_match-2.ensures))

pub loop-index-preserved : goal.loop-index-preserved
loop-index-preserved c =
    let script = c.args.script.now in
    let events = c.args.events.now in
    let rule = c.args.rule.now in
    let k = c.loop-index.index in
    let j = k - 1 in
    let next : k ≡ j + 1 = omega (arith, c.loop-index-test.true) in
    let inside : j < length events = omega (arith, c.loop-index-test.true, c.loop-index.invariant.within) in
    record {
      within = omega (arith, inside);
      found = after_more rule (lines script events) j k None next c.loop-index.invariant.found (unmatched script events rule.first _ j _ inside c.as_slice.ensures c.if-is_match.ensures);
      none = from_one_less (λ i. MatchesAt rule.second (lines script events) i → ⊥) j k next
          (unmatched script events rule.second _ j _ inside c.as_slice-in-loop-index.ensures c.if-is_match-2.ensures) c.loop-index.invariant.none;
    }

pub returns : goal.returns
returns c =
    let zero : c.loop-index.index ≡ 0 = omega (arith, c.loop-index-test.false) in
    yes (after_ends c.args.rule.now (lines c.args.script.now c.args.events.now) c.loop-index.index None zero c.loop-index.invariant.found)
