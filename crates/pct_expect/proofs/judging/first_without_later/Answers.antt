use Rattle.pct_names.proofs.Names.{◌+◌, ◌-◌, ◌<◌, arith, length, Option, subst, sym, ℕ, ◌≡◌, ◌≤◌}
use Rattle.pct_expect.specs.Events.{MatchesAt}
use Rattle.pct_expect.proofs.EventLines.{matched_by, none_past, unmatched_by}
use Rattle.pct_expect.proofs.Failures.{from_one_less}
use Rattle.pct_expect.proofs.RuleFailures.{FoundAfter, after_ends, after_here, after_more, after_stops}
use Rattle.pct_expect.proofs.judging.first_without_later.Goals.{then-is_match, else-is_match}
use Rattle.pct_expect.proofs.judging.first_without_later.Goals as goal

pub loop-index-init : goal.loop-index-init
loop-index-init c =
    let events = c.args.events.now in
    let rule = c.args.rule.now in
    let past : (i : ℕ) → c.len-index.result ≤ i → length events ≤ i = λ i after. omega (arith, after, c.len-index.ensures) in
    record {
      within = omega (arith, c.len-index.ensures);
      found = λ i after m. absurd (none_past rule.first events i (past i after) m);
      none = λ i after m. none_past rule.second events i (past i after) m;
    }

pub returns-then-is_match-2 : goal.returns-then-is_match-2
returns-then-is_match-2 c =
    let events = c.args.events.now in
    let rule = c.args.rule.now in
    let k = c.loop-index.index in
    let j = k - 1 in
    let next : k ≡ j + 1 = omega (arith, c.loop-index-test.true) in
    let found : FoundAfter rule events j c.if-is_match.found =
    elim c.if-is_match.branch [
      | then-is_match w ↦
          subst (λ (o : Option ℕ). FoundAfter rule events j o) (sym w.found-is)
          (after_here rule events j k next c.loop-index.invariant.none (matched_by rule.first _ events j c.of-first.ensures w.if-is_match.ensures))
      | else-is_match w ↦
          subst (λ (o : Option ℕ). FoundAfter rule events j o) (sym w.found-is)
          (after_more rule events j k c.loop-index.found next c.loop-index.invariant.found (unmatched_by rule.first _ events j c.of-first.ensures w.if-is_match.ensures))
    ] in
    after_stops rule events j c.if-is_match.found found (matched_by rule.second _ events j c.of-second.ensures c.if-is_match-2.ensures)

pub loop-index-preserved : goal.loop-index-preserved
loop-index-preserved c =
    let events = c.args.events.now in
    let rule = c.args.rule.now in
    let k = c.loop-index.index in
    let j = k - 1 in
    let next : k ≡ j + 1 = omega (arith, c.loop-index-test.true) in
    let inside : j < length events = omega (arith, c.loop-index-test.true, c.loop-index.invariant.within) in
    let found : FoundAfter rule events j c.if-is_match.found =
    elim c.if-is_match.branch [
      | then-is_match w ↦
          subst (λ (o : Option ℕ). FoundAfter rule events j o) (sym w.found-is)
          (after_here rule events j k next c.loop-index.invariant.none (matched_by rule.first _ events j c.of-first.ensures w.if-is_match.ensures))
      | else-is_match w ↦
          subst (λ (o : Option ℕ). FoundAfter rule events j o) (sym w.found-is)
          (after_more rule events j k c.loop-index.found next c.loop-index.invariant.found (unmatched_by rule.first _ events j c.of-first.ensures w.if-is_match.ensures))
    ] in
    record {
      within = omega (arith, inside);
      found = found;
      none = from_one_less (λ i. MatchesAt rule.second events i → ⊥) j k next
          (unmatched_by rule.second _ events j c.of-second.ensures c.if-is_match-2.ensures) c.loop-index.invariant.none;
    }

pub returns : goal.returns
returns c =
    let zero : c.loop-index.index ≡ 0 = omega (arith, c.loop-index-test.false) in
    after_ends c.args.rule.now c.args.events.now c.loop-index.index c.loop-index.found zero c.loop-index.invariant.found
