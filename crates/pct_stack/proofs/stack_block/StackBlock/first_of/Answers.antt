use Rattle.std.proofs.Common.{◌∙◌, ap}
use Rattle.pct_stack.specs.Stacks.{Stacks, is_taken}
use Rattle.pct_stack.proofs.BlockLemmas.{taken_within}
use Rattle.pct_stack.proofs.SeenLemmas.{written}
use Rattle.pct_stack.proofs.stack_block.StackBlock.first_of.Goals as goal

pub first_of-requires : goal.first_of-requires
first_of-requires c =
    let s = c.self.inside in
    taken_within s.grid s.head c.self.invariant c.args.slot (ap (λ (t : Stacks). is_taken t c.args.slot) (written s.grid s.head c.args.slot c.args.self.now c.self.view_is c.requires) ∙ c.requires)
