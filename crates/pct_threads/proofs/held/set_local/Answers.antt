use Rattle.pct_names.proofs.Names.{◌+◌, ◌-◌, ◌*◌, arith}
use Rattle.pct_threads.proofs.RowLemmas.{at_word, local_step, local_stay, local_past}
use Rattle.pct_threads.proofs.held.set_local.Goals.{else-row-gt0-via-then-row-gt0+else-i-lt8, else-row-gt0-via-else-row-gt0}
use Rattle.pct_threads.proofs.held.set_local.Goals as goal

pub returns-then-i-lt8 : goal.returns-then-i-lt8
returns-then-i-lt8 c =
    let row = c.args.row.now in
    let old = c.args.stacks.now in
    let held = c.requires in
    local_step row old c.set_at.new.self c.args.slot c.args.i c.args.value held
    (at_word old c.set_at.new.self c.args.slot (row.end - 9 + c.args.i) (12 * (row.depth - 1) + (3 + c.args.i)) c.args.value held.width (omega (arith, held.end, c.if-row-gt0.true)) c.set_at.ensures.block)
    c.set_at.ensures.long c.if-row-gt0.true c.if-i-lt8.true

pub returns-else-row-gt0 : goal.returns-else-row-gt0
returns-else-row-gt0 c =
    let row = c.args.row.now in
    let old = c.args.stacks.now in
    elim c.else-row-gt0.branch [
      | else-row-gt0-via-then-row-gt0+else-i-lt8 w ↦ local_past row old c.args.slot c.args.i c.args.value c.requires (omega (arith, w.if-i-lt8.false))
      | else-row-gt0-via-else-row-gt0 w ↦ local_stay row old c.args.slot c.args.i c.args.value c.requires (omega (arith, w.if-row-gt0.false))
    ]
