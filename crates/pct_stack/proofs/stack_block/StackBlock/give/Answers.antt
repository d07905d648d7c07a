use Rattle.std.proofs.Common.{◌≡◌, ℕ, true, ◌∙◌, ap, sym, subst}
use Rattle.pct_stack.specs.Rows.{Rows}
use Rattle.pct_stack.specs.Stacks.{Stacks, is_taken, with_given}
use Rattle.pct_stack.specs.Links.{stacks_of, stacks_seen, IsBlock, with_front}
use Rattle.pct_stack.proofs.BlockLemmas.{taken_within, given-block}
use Rattle.pct_stack.proofs.SeenLemmas.{written, given-seen}
use Rattle.pct_stack.proofs.stack_block.StackBlock.give.Goals as goal

pub link-requires-clause-slot : goal.link-requires-clause-slot
link-requires-clause-slot c =
    let s = c.self.inside in
    taken_within s.grid s.head c.self.invariant c.args.slot (ap (λ (t : Stacks). is_taken t c.args.slot) (written s.grid s.head c.args.slot c.args.self.now c.self.view_is c.requires) ∙ c.requires)

pub invariant_of-self : goal.invariant_of-self
invariant_of-self c =
    let s = c.self.inside in
    let slot : ℕ = c.args.slot in
    let taken : is_taken (stacks_of s.grid s.head) slot ≡ true = ap (λ (t : Stacks). is_taken t slot) (written s.grid s.head c.args.slot c.args.self.now c.self.view_is c.requires) ∙ c.requires in
    subst (λ (g : Rows). IsBlock g c.link.new.head) (sym c.link.ensures.grid)
    (subst (λ (k : ℕ). IsBlock (with_front s.head slot s.grid) k) (sym c.link.ensures.head) (given-block s.grid s.head c.self.invariant slot taken))

pub returns : goal.returns
returns c =
    let s = c.self.inside in
    let slot : ℕ = c.args.slot in
    let taken : is_taken (stacks_of s.grid s.head) slot ≡ true = ap (λ (t : Stacks). is_taken t slot) (written s.grid s.head c.args.slot c.args.self.now c.self.view_is c.requires) ∙ c.requires in
    (λ j. stacks_seen (c.link.ensures.grid j) (c.link.ensures.head j))
    ∙ given-seen s.grid s.head c.self.invariant slot taken
    ∙ ap (with_given slot) (written s.grid s.head c.args.slot c.args.self.now c.self.view_is c.requires)
