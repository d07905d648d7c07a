use Rattle.std.proofs.Common.{◌-◌}
use Rattle.pct_stack.proofs.GivenRows.{RowsGiven}
use Rattle.pct_stack.proofs.stack_block.give_all.Given as goal

abbrev pub invariant-loop-done : goal.invariant-loop-done
invariant-loop-done l = RowsGiven l.keep (l.count - l.done) l.initial.grid l.grid l.head
