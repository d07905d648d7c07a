use Rattle.std.proofs.Common.{◌≡◌, ℕ, ◌+◌, ◌-◌, ◌*◌, List, get_or, ◌∙◌, ap, sym, arith}
use Rattle.pct_stack.specs.Rows.{word_at}
use Rattle.pct_stack.specs.Stacks.{Stacks, is_taken, words_at}
use Rattle.pct_stack.proofs.BlockLemmas.{taken_within, words_taken}
use Rattle.pct_stack.proofs.SeenLemmas.{written}
use Rattle.pct_stack.proofs.stack_block.StackBlock.words_from.Goals as goal

pub words_from-requires-clause-row : goal.words_from-requires-clause-row
words_from-requires-clause-row c =
    let s = c.self.inside in
    taken_within s.grid s.head c.self.invariant c.args.slot (ap (λ (t : Stacks). is_taken t c.args.slot) (written s.grid s.head c.args.slot c.args.self.now c.self.view_is c.requires.slot) ∙ c.requires.slot)

pub returns-clause-words : goal.returns-clause-words
returns-clause-words c i inside =
    let s = c.self.inside in
    let slot : ℕ = c.args.slot in
    let width : s.grid.width ≡ c.args.self.now.width = ap (λ (t : Stacks). t.width) (written s.grid s.head c.args.slot c.args.self.now c.self.view_is c.requires.slot) in
    let product : slot * s.grid.width ≡ slot * c.args.self.now.width = ap (λ w. slot * w) width in
    c.words_from.ensures.words i (omega (arith, inside, width, product))
    ∙ ap (λ p. word_at s.grid slot (c.args.first + i - p)) product
    ∙ ap (λ (ws : List ℕ). get_or ws (c.args.first + i - slot * c.args.self.now.width) 0)
    (sym (words_taken s.grid s.head c.self.invariant slot (ap (λ (t : Stacks). is_taken t slot) (written s.grid s.head c.args.slot c.args.self.now c.self.view_is c.requires.slot) ∙ c.requires.slot)) ∙ ap (λ (t : Stacks). words_at t slot) (written s.grid s.head c.args.slot c.args.self.now c.self.view_is c.requires.slot))
