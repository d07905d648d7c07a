use Rattle.std.proofs.Common.{◌≡◌, ℕ, ◌+◌, ◌*◌, ◌<◌, ◌≤◌, true}
use Rattle.pct_stack.specs.Stacks.{is_taken}
use Rattle.pct_layer_tests.proofs.stack_slots.a_slot_that_is_given_is_the_next_to_be_taken.Given as goal

abbrev pub invariant-loop-slot : goal.invariant-loop-slot
invariant-loop-slot g l = record {
  width : l.block.width ≡ 5;
  taken : (k : ℕ) → k < l.slot → is_taken l.block k ≡ true;
}

abbrev pub invariant-loop-half : goal.invariant-loop-half
invariant-loop-half g l = record {
  width : l.block.width ≡ 5;
  even : (k : ℕ) → l.half ≤ k → k < 32 → is_taken l.block (2 * k) ≡ true;
  odd : (k : ℕ) → k < 32 → is_taken l.block (2 * k + 1) ≡ true;
}

abbrev pub invariant-loop-half-2 : goal.invariant-loop-half-2
invariant-loop-half-2 g l = record {
  width : l.block.width ≡ 5;
  odd : (k : ℕ) → l.half ≤ k → k < 32 → is_taken l.block (2 * k + 1) ≡ true;
}

abbrev pub invariant-loop-half-3 : goal.invariant-loop-half-3
invariant-loop-half-3 g l = l.block.width ≡ 5

abbrev pub invariant-loop-half-4 : goal.invariant-loop-half-4
invariant-loop-half-4 g l = l.block.width ≡ 5
