use Rattle.std.proofs.Common.{length, ap, arith, zero-mul}
use Rattle.pct_stack.specs.Rows.{BlockWords}
use Rattle.pct_stack.proofs.grid.Grid.new.Goals as goal

pub invariant_of-result : goal.invariant_of-result
invariant_of-result c =
    let made = c.in_ok-words.ensures in
    (omega (arith, ap (λ (w : BlockWords). length w.words) made, zero-mul c.args.width), omega arith, c.requires.width, ap (λ (w : BlockWords). w.room) made, c.requires.room)
