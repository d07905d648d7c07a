use Rattle.pct_names.proofs.Names.{arith, closes_else, is_if, is_while, length, suc, sym, ◌||◌, ◌∙◌}
use Rattle.std.proofs.lemmas.Bool.{eq-eqb, ne_eqb}
use Rattle.pct_model.specs.Jumps.{is_end}
use Rattle.pct_jumps.proofs.Closing.{find-next, find-here, tallied, closes_else-at}
use Rattle.pct_jumps.proofs.jump_table.close_of_else.Goals as goal

pub returns-then-ends-begins : goal.returns-then-ends-begins
returns-then-ends-begins c =
    let so_far = c.loop-pc.invariant in
    let begun = tallied (λ s. is_if s || is_while s) c.args.body.now (suc c.args.opening) c.loop-pc.pc _ _ _ _ (omega (arith, so_far.after)) c.loop-pc-test.true so_far.begun c.begins_block.ensures c.more-begins.ensures.value in
    let ended = tallied is_end c.args.body.now (suc c.args.opening) c.loop-pc.pc _ _ _ _ (omega (arith, so_far.after)) c.loop-pc-test.true so_far.ended c.is_end.ensures c.more-ends.ensures.value in
    let passes = closes_else-at c.args.body.now c.args.opening c.loop-pc.pc _ _ begun ended ∙ eq-eqb _ _ c.if-ends-begins.true in
    sym (so_far.found ∙ find-here (closes_else c.args.body.now c.args.opening) c.loop-pc.pc (length c.args.body.now) c.loop-pc-test.true passes)

pub loop-pc-preserved : goal.loop-pc-preserved
loop-pc-preserved c =
    let so_far = c.loop-pc.invariant in
    let begun = tallied (λ s. is_if s || is_while s) c.args.body.now (suc c.args.opening) c.loop-pc.pc _ _ _ _ (omega (arith, so_far.after)) c.loop-pc-test.true so_far.begun c.begins_block.ensures c.more-begins.ensures.value in
    let ended = tallied is_end c.args.body.now (suc c.args.opening) c.loop-pc.pc _ _ _ _ (omega (arith, so_far.after)) c.loop-pc-test.true so_far.ended c.is_end.ensures c.more-ends.ensures.value in
    let fails = closes_else-at c.args.body.now c.args.opening c.loop-pc.pc _ _ begun ended ∙ ne_eqb _ _ c.if-ends-begins.false in
    record {
      after = omega (arith, so_far.after);
      few = (omega (arith, so_far.few.0, c.more-begins.ensures.bound), omega (arith, so_far.few.1, c.more-ends.ensures.bound));
      begun = begun;
      ended = ended;
      found = so_far.found ∙ find-next (closes_else c.args.body.now c.args.opening) c.loop-pc.pc (length c.args.body.now) c.loop-pc-test.true fails;
    }
