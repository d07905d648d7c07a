use Rattle.pct_names.proofs.Names.{replicate}
use Rattle.pct_threads.proofs.RowLemmas.{created_held, created_step, taken_after}
use Rattle.pct_threads.proofs.held.create.Goals as goal

pub first_of-row-requires : goal.first_of-row-requires
first_of-row-requires c =
    let old = c.args.stacks.now in
    (taken_after old c.take_slot.new.self c.args.slot (replicate old.width 0) c.requires.free c.requires.width c.take_slot.ensures).taken

pub call-requires-clause-held : goal.call-requires-clause-held
call-requires-clause-held c =
    let old = c.args.stacks.now in
    created_held c.args.row.now c.create.new.self old c.take_slot.new.self c.args.slot c.args.id c.args.func c.args.arg c.args.detached c.requires.free c.requires.width c.create.ensures (replicate old.width 0) c.take_slot.ensures c.first_of-row.result c.first_of-row.ensures

pub returns-clause-step : goal.returns-clause-step
returns-clause-step c =
    let old = c.args.stacks.now in
    created_step c.args.row.now c.create.new.self old c.take_slot.new.self c.args.slot c.args.id c.args.func c.args.arg c.args.detached c.requires.free c.requires.width c.create.ensures (replicate old.width 0) c.take_slot.ensures c.first_of-row.result c.call.new.row c.call.new.stacks c.call.ensures.step
