use Rattle.pct_names.proofs.Names.{◌-◌, arith}
use Rattle.pct_threads.proofs.RowLemmas.{popped_step}
use Rattle.pct_threads.proofs.held.pop_frame.Goals as goal

pub returns-clause-step : goal.returns-clause-step
returns-clause-step c =
    let row = c.args.row.now in
    let held = c.requires.held in
    let some = c.requires.some in
    popped_step row c.args.stacks.now c.args.slot (row.depth - 1) (row.end - 12) held some (omega (arith, some)) (omega (arith, held.end, some))
