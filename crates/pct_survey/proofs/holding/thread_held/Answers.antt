use Rattle.pct_names.proofs.Names.{◌+◌, ◌-◌, ◌<◌, ap, arith, bytes_eq, length, List, list_any, None, sym, ℕ, ◌∙◌, ◌≡◌}
use Rattle.pct_expect.proofs.RuleFailures.{FoundInThread, followed_more, followed_same, thread_ends, thread_followed, thread_more}
use Rattle.pct_survey.proofs.EventLines.{lines, matched, thread_is, unmatched}
use Rattle.pct_survey.proofs.HeldRules.{no, thread_fails, yes}
use Rattle.pct_survey.proofs.holding.thread_held.Goals.{else-is_match-via-then-is_match+else-not-contains, else-is_match-via-else-is_match}
use Rattle.pct_survey.proofs.holding.thread_held.Goals as goal

pub returns-then-not-contains : goal.returns-then-not-contains
returns-then-not-contains c =
    let script = c.args.script.now in
    let events = c.args.events.now in
    let rule = c.args.rule.now in
    let k = c.loop-index.index in
    let j = k - 1 in
    let next : k ≡ j + 1 = omega (arith, c.loop-index-test.true) in
    let inside : j < length events = omega (arith, c.loop-index-test.true, c.loop-index.invariant.within) in
    let out = ap (λ (name : List ℕ). list_any (bytes_eq name) c.loop-index.followed) (thread_is script events j _ inside) ∙ sym c.if-not-contains.ensures in
    no (thread_fails rule (lines script events) j k c.loop-index.followed next c.loop-index.invariant.followed out (matched script events rule.first _ j _ inside c.as_slice.ensures c.if-is_match.ensures))

pub loop-index-preserved-in-Continue-1 : goal.loop-index-preserved-in-Continue-1
loop-index-preserved-in-Continue-1 c =
    let script = c.args.script.now in
    let events = c.args.events.now in
    let rule = c.args.rule.now in
    let k = c.loop-index.index in
    let j = k - 1 in
    let next : k ≡ j + 1 = omega (arith, c.loop-index-test.true) in
    let inside : j < length events = omega (arith, c.loop-index-test.true, c.loop-index.invariant.within) in
    let found : FoundInThread rule (lines script events) j None =
    elim c.else-is_match.branch [
      | else-is_match-via-then-is_match+else-not-contains w ↦
          let there = ap (λ (name : List ℕ). list_any (bytes_eq name) c.loop-index.followed) (thread_is script events j _ inside) ∙ sym w.if-not-contains.ensures in
          thread_more rule (lines script events) j k None next c.loop-index.invariant.found (λ _. thread_followed rule.second (lines script events) j k c.loop-index.followed next c.loop-index.invariant.followed there)
      | else-is_match-via-else-is_match w ↦
          thread_more rule (lines script events) j k None next c.loop-index.invariant.found (λ m. absurd (unmatched script events rule.first _ j _ inside c.as_slice.ensures w.if-is_match.ensures m))
    ] in
    record {
      within = omega (arith, inside);
      found = found;
      followed = followed_more rule.second (lines script events) j k c.loop-index.followed c.insert.new.self _ next c.loop-index.invariant.followed c.in_ok-insert.ensures (thread_is script events j _ inside)
          (matched script events rule.second _ j _ inside c.as_slice-in-loop-index.ensures c.if-is_match-2.ensures);
    }

pub loop-index-preserved : goal.loop-index-preserved
loop-index-preserved c =
    let script = c.args.script.now in
    let events = c.args.events.now in
    let rule = c.args.rule.now in
    let k = c.loop-index.index in
    let j = k - 1 in
    let next : k ≡ j + 1 = omega (arith, c.loop-index-test.true) in
    let inside : j < length events = omega (arith, c.loop-index-test.true, c.loop-index.invariant.within) in
    let found : FoundInThread rule (lines script events) j None =
    elim c.else-is_match.branch [
      | else-is_match-via-then-is_match+else-not-contains w ↦
          let there = ap (λ (name : List ℕ). list_any (bytes_eq name) c.loop-index.followed) (thread_is script events j _ inside) ∙ sym w.if-not-contains.ensures in
          thread_more rule (lines script events) j k None next c.loop-index.invariant.found (λ _. thread_followed rule.second (lines script events) j k c.loop-index.followed next c.loop-index.invariant.followed there)
      | else-is_match-via-else-is_match w ↦
          thread_more rule (lines script events) j k None next c.loop-index.invariant.found (λ m. absurd (unmatched script events rule.first _ j _ inside c.as_slice.ensures w.if-is_match.ensures m))
    ] in
    record {
      within = omega (arith, inside);
      found = found;
      followed = followed_same rule.second (lines script events) j k c.loop-index.followed next c.loop-index.invariant.followed
          (unmatched script events rule.second _ j _ inside c.as_slice-in-loop-index.ensures c.if-is_match-2.ensures);
    }

pub returns : goal.returns
returns c =
    let zero : c.loop-index.index ≡ 0 = omega (arith, c.loop-index-test.false) in
    yes (thread_ends c.args.rule.now (lines c.args.script.now c.args.events.now) c.loop-index.index None zero c.loop-index.invariant.found)
