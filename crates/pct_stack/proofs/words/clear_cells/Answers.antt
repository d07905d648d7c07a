use Rattle.std.proofs.Common.{Some, length, sym, ap, ◌∙◌, arith}
use Rattle.pct_stack.proofs.RowLemmas.{length-set_from}
use Rattle.pct_stack.proofs.words.clear_cells.Goals as goal

pub write-requires : goal.write-requires
write-requires c =
    let long = ap length c.loop-i.invariant.values ∙ length-set_from (Some 0) c.args.first c.loop-i.i c.args.cells.now.values in
    (c.requires.start ∙ sym c.loop-i.invariant.at, omega (arith, c.requires.within, c.loop-i-test.true, long))
