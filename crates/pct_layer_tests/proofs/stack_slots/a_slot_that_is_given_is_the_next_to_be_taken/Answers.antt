use Rattle.std.proofs.Common.{◌≡◌, ℕ, ◌+◌, ◌*◌, ◌<◌, true, replicate, ◌∙◌, arith}
use Rattle.pct_stack.specs.Stacks.{is_taken}
use Rattle.pct_stack.proofs.TakenLemmas.{is_taken-take, width_after}
use Rattle.pct_layer_tests.proofs.stack_slots.a_slot_that_is_given_is_the_next_to_be_taken.Goals as goal

pub loop-half-init : goal.loop-half-init
loop-half-init g c =
    let kept : (s : ℕ) → s < 64 → is_taken c.take.new.self s ≡ true =
    λ s small. is_taken-take c.loop-slot.block c.take.new.self (replicate c.loop-slot.block.width 0) c.take.result c.take.ensures.taken c.take.ensures.unchanged s (c.loop-slot.invariant.taken s (omega (arith, small, c.loop-slot-test.false))) in
    record {
      width = width_after c.loop-slot.block c.take.new.self (replicate c.loop-slot.block.width 0) c.take.result c.take.ensures.taken c.take.ensures.unchanged ∙ c.loop-slot.invariant.width;
      even = λ k _ small. kept (2 * k) (omega (arith, small));
      odd = λ k small. kept (2 * k + 1) (omega (arith, small));
    }
