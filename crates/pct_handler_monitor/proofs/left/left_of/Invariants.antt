-- What `left_of` keeps in its loop.
use Rattle.std.specs.Prelude.{◌≡◌, ◌<◌, length, reverse, vec_len}
use Rattle.pct_audit.specs.Stacks.{stack_at}
use Rattle.pct_handler_monitor.specs.Left.{left_after}
use Rattle.pct_handler_monitor.proofs.left.left_of.Given as goal

abbrev pub invariant-loop-handler : goal.invariant-loop-handler
invariant-loop-handler l = record {
  within : l.left < length l.stacks;
  rest : left_after (reverse l.ran.items) (stack_at l.stacks l.left) ≡ left_after (reverse l.initial.ran.items) (stack_at l.stacks l.stack);
}

abbrev pub decreases-loop-handler : goal.decreases-loop-handler
decreases-loop-handler l = vec_len l.ran
