use Rattle.std.proofs.Common.{ℕ, List, get_or, ◌∙◌, ap, sym}
use Rattle.pct_stack.specs.Stacks.{Stacks, is_taken, words_at}
use Rattle.pct_stack.proofs.BlockLemmas.{taken_within, words_taken}
use Rattle.pct_stack.proofs.SeenLemmas.{written}
use Rattle.pct_stack.proofs.stack_block.StackBlock.word.Goals as goal

pub word-requires-clause-row : goal.word-requires-clause-row
word-requires-clause-row c =
    let s = c.self.inside in
    taken_within s.grid s.head c.self.invariant c.args.slot (ap (λ (t : Stacks). is_taken t c.args.slot) (written s.grid s.head c.args.slot c.args.self.now c.self.view_is c.requires.slot) ∙ c.requires.slot)

pub returns : goal.returns
returns c =
    let s = c.self.inside in
    c.word.ensures
    ∙ ap (λ (ws : List ℕ). get_or ws c.args.i 0)
    (sym (words_taken s.grid s.head c.self.invariant c.args.slot (ap (λ (t : Stacks). is_taken t c.args.slot) (written s.grid s.head c.args.slot c.args.self.now c.self.view_is c.requires.slot) ∙ c.requires.slot)) ∙ ap (λ (t : Stacks). words_at t c.args.slot) (written s.grid s.head c.args.slot c.args.self.now c.self.view_is c.requires.slot))
