use Rattle.std.proofs.Common.{◌≡◌, ℕ, true}
use Rattle.pct_stack.specs.Stacks.{is_taken}
use Rattle.pct_layer_tests.proofs.stack_slots.take_one.Given as goal

abbrev pub invariant-loop-i : goal.invariant-loop-i
invariant-loop-i g l = record {
  width : l.block.width ≡ 5;
  taken : is_taken l.block l.slot ≡ true;
  others : (slot : ℕ) → is_taken l.fn.block slot ≡ true → is_taken l.block slot ≡ true;
}
