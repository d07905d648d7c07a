use Rattle.pct_names.proofs.Names.{arith, closes, is_if, is_while, length, sym, ◌||◌, ◌∙◌}
use Rattle.pct_model.specs.Jumps.{is_end}
use Rattle.pct_jumps.proofs.Closing.{find-next, find-here, tallied, closes-at}
use Rattle.pct_jumps.proofs.jump_table.close_of_block.Goals as goal

pub returns-then-closes_block : goal.returns-then-closes_block
returns-then-closes_block c =
    let so_far = c.loop-pc.invariant in
    let begun = tallied (λ s. is_if s || is_while s) c.args.body.now c.args.opening c.loop-pc.pc _ _ _ _ (omega (arith, so_far.after)) c.loop-pc-test.true so_far.begun c.begins_block-in-loop-pc.ensures c.more-begins-in-loop-pc.ensures.value in
    let ended = tallied is_end c.args.body.now c.args.opening c.loop-pc.pc _ _ _ _ (omega (arith, so_far.after)) c.loop-pc-test.true so_far.ended c.is_end-in-loop-pc.ensures c.more-ends-in-loop-pc.ensures.value in
    let passes = closes-at c.args.body.now c.args.opening c.loop-pc.pc _ c.args.is_if _ _ c.loop-pc-test.true c.requires.opening begun ended ∙ sym c.closes_block.ensures ∙ c.if-closes_block.true in
    sym (so_far.found ∙ find-here (closes c.args.body.now c.args.opening) c.loop-pc.pc (length c.args.body.now) c.loop-pc-test.true passes)

pub loop-pc-preserved : goal.loop-pc-preserved
loop-pc-preserved c =
    let so_far = c.loop-pc.invariant in
    let begun = tallied (λ s. is_if s || is_while s) c.args.body.now c.args.opening c.loop-pc.pc _ _ _ _ (omega (arith, so_far.after)) c.loop-pc-test.true so_far.begun c.begins_block-in-loop-pc.ensures c.more-begins-in-loop-pc.ensures.value in
    let ended = tallied is_end c.args.body.now c.args.opening c.loop-pc.pc _ _ _ _ (omega (arith, so_far.after)) c.loop-pc-test.true so_far.ended c.is_end-in-loop-pc.ensures c.more-ends-in-loop-pc.ensures.value in
    let fails = closes-at c.args.body.now c.args.opening c.loop-pc.pc _ c.args.is_if _ _ c.loop-pc-test.true c.requires.opening begun ended ∙ sym c.closes_block.ensures ∙ c.if-closes_block.false in
    record {
      after = omega (arith, so_far.after);
      few = (omega (arith, so_far.few.0, c.more-begins-in-loop-pc.ensures.bound), omega (arith, so_far.few.1, c.more-ends-in-loop-pc.ensures.bound));
      begun = begun;
      ended = ended;
      found = so_far.found ∙ find-next (closes c.args.body.now c.args.opening) c.loop-pc.pc (length c.args.body.now) c.loop-pc-test.true fails;
    }
