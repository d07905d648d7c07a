use Rattle.pct_names.proofs.Names.{◌+◌, ◌-◌, ◌*◌, arith}
use Rattle.pct_threads.proofs.RowLemmas.{at_word, pc_step, pc_stay}
use Rattle.pct_threads.proofs.held.set_pc.Goals as goal

pub returns-then-row-gt0 : goal.returns-then-row-gt0
returns-then-row-gt0 c =
    let row = c.args.row.now in
    let old = c.args.stacks.now in
    let held = c.requires in
    pc_step row old c.set_at.new.self c.args.slot c.args.pc held
    (at_word old c.set_at.new.self c.args.slot (row.end - 11) (12 * (row.depth - 1) + 1) c.args.pc held.width (omega (arith, held.end, c.if-row-gt0.true)) c.set_at.ensures.block)
    c.set_at.ensures.long c.if-row-gt0.true

pub returns-else-row-gt0 : goal.returns-else-row-gt0
returns-else-row-gt0 c = pc_stay c.args.row.now c.args.stacks.now c.args.slot c.args.pc c.requires (omega (arith, c.if-row-gt0.false))
