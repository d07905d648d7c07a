-- What `listed` keeps in its loop.
use Rattle.std.specs.Prelude.{◌≡◌, ◌<◌, ◌++◌, length}
use Rattle.pct_audit.specs.Stacks.{stack_at}
use Rattle.pct_handler_monitor.proofs.left.listed.Given as goal

abbrev pub invariant-loop-handler : goal.invariant-loop-handler
invariant-loop-handler l = record {
  within : l.rest < length l.stacks;
  listed : l.handlers.items ++ stack_at l.stacks l.rest ≡ stack_at l.stacks l.stack;
}

abbrev pub decreases-loop-handler : goal.decreases-loop-handler
decreases-loop-handler l = length (stack_at l.stacks l.rest)
