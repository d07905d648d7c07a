use Rattle.pct_names.proofs.Names.{refl, false}
use Rattle.pct_threads.specs.Slots.{freed}
use Rattle.pct_threads.proofs.RowLemmas.{kept_step}
use Rattle.pct_threads.proofs.held.free.Goals as goal

pub give-requires : goal.give-requires
give-requires c = c.requires.taken

pub returns-clause-step : goal.returns-clause-step
returns-clause-step c =
    let row = c.args.row.now in
    let old = c.args.stacks.now in
    kept_step false row (record row { occupied = false }) old c.give.new.self c.args.slot freed c.requires refl c.give.ensures refl refl refl
