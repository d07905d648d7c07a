use Rattle.pct_names.proofs.Names.{◌<◌, arith, length}
use Rattle.pct_expect.proofs.EventLines.{none_more, one_more}
use Rattle.pct_expect.proofs.judging.other_count.Goals.{then-is_match, else-is_match}
use Rattle.pct_expect.proofs.judging.other_count.Goals as goal

pub loop-index-preserved : goal.loop-index-preserved
loop-index-preserved c =
    let events = c.args.events.now in
    let pattern = c.args.rule.now.first in
    let i = c.loop-index.index in
    let inside : i < length events = omega (arith, c.loop-index-test.true, c.len-index-end.ensures) in
    elim c.if-is_match.branch [
      | then-is_match w ↦ one_more pattern c.of-first.result events i c.loop-index.count c.if-is_match.count inside c.of-first.ensures c.loop-index.invariant w.if-is_match.ensures w.count-is
      | else-is_match w ↦ none_more pattern c.of-first.result events i c.loop-index.count c.if-is_match.count inside c.of-first.ensures c.loop-index.invariant w.if-is_match.ensures w.count-is
    ]
