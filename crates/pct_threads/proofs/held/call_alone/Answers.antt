use Rattle.pct_threads.proofs.RowLemmas.{alone_step, emptied}
use Rattle.pct_threads.proofs.held.call_alone.Goals as goal

pub call-requires-clause-held : goal.call-requires-clause-held
call-requires-clause-held c = emptied c.args.row.now c.args.stacks.now c.args.slot c.first_of-row.result c.requires c.first_of-row.ensures

pub returns-clause-step : goal.returns-clause-step
returns-clause-step c = alone_step c.args.row.now c.call.new.row c.args.stacks.now c.call.new.stacks c.args.slot c.args.func c.args.arg c.first_of-row.result c.args.kind c.call.ensures.step
