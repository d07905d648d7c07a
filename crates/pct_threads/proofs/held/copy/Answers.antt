use Rattle.pct_names.proofs.Names.{replicate}
use Rattle.pct_threads.proofs.RowLemmas.{copied_step}
use Rattle.pct_threads.proofs.held.copy.Goals as goal

pub returns-clause-step : goal.returns-clause-step
returns-clause-step c =
    let old = c.args.stacks.now in
    copied_step c.args.row.now c.copy_from.new.self c.args.other.now old c.take_slot.new.self c.copy_from-2.new.self c.args.other_stacks.now c.args.slot (replicate old.width 0) c.requires.free c.requires.width c.requires.held c.copy_from.ensures c.take_slot.ensures c.copy_from-2.ensures
