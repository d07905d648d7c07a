use Rattle.pct_names.proofs.Names.{◌+◌, ◌-◌, ◌<◌, ap, arith, bytes_eq, length, List, list_any, Option, subst, sym, ℕ, ◌∙◌, ◌≡◌, ◌≤◌}
use Rattle.pct_expect.specs.Answers.{HasLaterInThread}
use Rattle.pct_expect.specs.Events.{MatchesAt}
use Rattle.pct_expect.proofs.EventLines.{matched_by, none_past, unmatched_by}
use Rattle.pct_expect.proofs.RuleFailures.{FoundInThread, followed_more, followed_same, none_followed, thread_ends, thread_followed, thread_here, thread_more}
use Rattle.pct_expect.proofs.judging.first_without_later_in_thread.Goals.{then-is_match+then-not-contains, else-is_match, else-is_match-via-then-is_match+else-not-contains, else-is_match-via-else-is_match}
use Rattle.pct_expect.proofs.judging.first_without_later_in_thread.Goals as goal

pub loop-index-init : goal.loop-index-init
loop-index-init c =
    let events = c.args.events.now in
    let rule = c.args.rule.now in
    let past : (i : ℕ) → c.len-index.result ≤ i → length events ≤ i = λ i after. omega (arith, after, c.len-index.ensures) in
    record {
      within = omega (arith, c.len-index.ensures);
      found = λ i after m. absurd (none_past rule.first events i (past i after) m);
      followed = none_followed rule.second events c.len-index.result c.new-followed.result c.new-followed.ensures (λ i after m. none_past rule.second events i (past i after) m);
    }

pub loop-index-preserved-in-Continue-1 : goal.loop-index-preserved-in-Continue-1
loop-index-preserved-in-Continue-1 c =
    let events = c.args.events.now in
    let rule = c.args.rule.now in
    let names = c.loop-index.followed in
    let k = c.loop-index.index in
    let j = k - 1 in
    let next : k ≡ j + 1 = omega (arith, c.loop-index-test.true) in
    let inside : j < length events = omega (arith, c.loop-index-test.true, c.loop-index.invariant.within) in
    let found : FoundInThread rule events j c.if-is_match.found =
    elim c.if-is_match.branch [
      | then-is_match+then-not-contains w ↦
          let out = ap (λ (name : List ℕ). list_any (bytes_eq name) names) (sym w.thread.ensures) ∙ sym w.if-not-contains.ensures in
          subst (λ (o : Option ℕ). FoundInThread rule events j o) (sym w.found-is)
          (thread_here rule events j k names next c.loop-index.invariant.followed out (matched_by rule.first _ events j c.of-first.ensures w.if-is_match.ensures))
      | else-is_match w ↦
          let here : MatchesAt rule.first events j → HasLaterInThread rule.second events j =
          elim w.else-is_match.branch [
            | else-is_match-via-then-is_match+else-not-contains v ↦
                let there = ap (λ (name : List ℕ). list_any (bytes_eq name) names) (sym v.thread.ensures) ∙ sym v.if-not-contains.ensures in
                λ m. thread_followed rule.second events j k names next c.loop-index.invariant.followed there
            | else-is_match-via-else-is_match v ↦
                λ m. absurd (unmatched_by rule.first _ events j c.of-first.ensures v.if-is_match.ensures m)
          ] in
          subst (λ (o : Option ℕ). FoundInThread rule events j o) (sym w.found-is) (thread_more rule events j k c.loop-index.found next c.loop-index.invariant.found here)
    ] in
    record {
      within = omega (arith, inside);
      found = found;
      followed = followed_more rule.second events j k names c.insert.new.self c.thread-then-is_match-2.result.now next c.loop-index.invariant.followed c.in_ok-insert.ensures (sym c.thread-then-is_match-2.ensures)
          (matched_by rule.second _ events j c.of-second.ensures c.if-is_match-2.ensures);
    }

pub loop-index-preserved : goal.loop-index-preserved
loop-index-preserved c =
    let events = c.args.events.now in
    let rule = c.args.rule.now in
    let names = c.loop-index.followed in
    let k = c.loop-index.index in
    let j = k - 1 in
    let next : k ≡ j + 1 = omega (arith, c.loop-index-test.true) in
    let inside : j < length events = omega (arith, c.loop-index-test.true, c.loop-index.invariant.within) in
    let found : FoundInThread rule events j c.if-is_match.found =
    elim c.if-is_match.branch [
      | then-is_match+then-not-contains w ↦
          let out = ap (λ (name : List ℕ). list_any (bytes_eq name) names) (sym w.thread.ensures) ∙ sym w.if-not-contains.ensures in
          subst (λ (o : Option ℕ). FoundInThread rule events j o) (sym w.found-is)
          (thread_here rule events j k names next c.loop-index.invariant.followed out (matched_by rule.first _ events j c.of-first.ensures w.if-is_match.ensures))
      | else-is_match w ↦
          let here : MatchesAt rule.first events j → HasLaterInThread rule.second events j =
          elim w.else-is_match.branch [
            | else-is_match-via-then-is_match+else-not-contains v ↦
                let there = ap (λ (name : List ℕ). list_any (bytes_eq name) names) (sym v.thread.ensures) ∙ sym v.if-not-contains.ensures in
                λ m. thread_followed rule.second events j k names next c.loop-index.invariant.followed there
            | else-is_match-via-else-is_match v ↦
                λ m. absurd (unmatched_by rule.first _ events j c.of-first.ensures v.if-is_match.ensures m)
          ] in
          subst (λ (o : Option ℕ). FoundInThread rule events j o) (sym w.found-is) (thread_more rule events j k c.loop-index.found next c.loop-index.invariant.found here)
    ] in
    record {
      within = omega (arith, inside);
      found = found;
      followed = followed_same rule.second events j k names next c.loop-index.invariant.followed
          (unmatched_by rule.second _ events j c.of-second.ensures c.if-is_match-2.ensures);
    }

pub returns : goal.returns
returns c =
    let zero : c.loop-index.index ≡ 0 = omega (arith, c.loop-index-test.false) in
    thread_ends c.args.rule.now c.args.events.now c.loop-index.index c.loop-index.found zero c.loop-index.invariant.found
