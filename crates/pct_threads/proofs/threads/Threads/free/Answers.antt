use Rattle.pct_names.proofs.Names.{arith, ◌∙◌}
use Rattle.pct_threads.proofs.FreeSlots.{free_more, free_all}
use Rattle.pct_threads.proofs.threads.Threads.free.Goals as goal

pub loop-slot-preserved : goal.loop-slot-preserved
loop-slot-preserved c = free_more c.args.self.now c.loop-slot.slot c.is_occupied.result c.loop-slot.free c.insert_if.new.set (omega arith) c.is_occupied.ensures c.loop-slot.invariant c.insert_if.ensures

pub returns-clause-value : goal.returns-clause-value
returns-clause-value c = c.loop-slot.invariant ∙ free_all c.args.self.now c.loop-slot.slot (omega arith)
