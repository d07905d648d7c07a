use Rattle.std.proofs.Common.{◌≡◌, ℕ, ◌-◌, ◌*◌, List, length, true, set, ◌∙◌, ap, sym, subst}
use Rattle.std.proofs.lemmas.List.{length-set}
use Rattle.pct_stack.specs.Rows.{Rows, row_at}
use Rattle.pct_stack.specs.Stacks.{Stacks, is_taken, words_at, with_words}
use Rattle.pct_stack.specs.Links.{stacks_of, stacks_seen, IsBlock}
use Rattle.pct_stack.proofs.BlockLemmas.{taken_within, words_taken, rewritten-block}
use Rattle.pct_stack.proofs.SeenLemmas.{written, rewritten-seen}
use Rattle.pct_stack.proofs.stack_block.StackBlock.set_at.Goals as goal

pub set_at-requires-clause-row : goal.set_at-requires-clause-row
set_at-requires-clause-row c =
    let s = c.self.inside in
    taken_within s.grid s.head c.self.invariant c.args.slot (ap (λ (t : Stacks). is_taken t c.args.slot) (written s.grid s.head c.args.slot c.args.self.now c.self.view_is c.requires.slot) ∙ c.requires.slot)

pub invariant_of-self : goal.invariant_of-self
invariant_of-self c =
    let s = c.self.inside in
    let slot : ℕ = c.args.slot in
    let taken : is_taken (stacks_of s.grid s.head) slot ≡ true = ap (λ (t : Stacks). is_taken t slot) (written s.grid s.head c.args.slot c.args.self.now c.self.view_is c.requires.slot) ∙ c.requires.slot in
    let i : ℕ = c.args.index - slot * s.grid.width in
    let words : List ℕ = set (row_at s.grid slot) i c.args.value in
    let long : length words ≡ s.grid.width = length-set (row_at s.grid slot) i c.args.value ∙ c.self.invariant.even slot (taken_within s.grid s.head c.self.invariant slot taken) in
    subst (λ (g : Rows). IsBlock g s.head) (sym c.set_at.ensures) (rewritten-block s.grid s.head c.self.invariant slot words taken long)

pub returns-clause-block : goal.returns-clause-block
returns-clause-block c =
    let s = c.self.inside in
    let slot : ℕ = c.args.slot in
    let taken : is_taken (stacks_of s.grid s.head) slot ≡ true = ap (λ (t : Stacks). is_taken t slot) (written s.grid s.head c.args.slot c.args.self.now c.self.view_is c.requires.slot) ∙ c.requires.slot in
    let i : ℕ = c.args.index - slot * s.grid.width in
    let words : List ℕ = set (row_at s.grid slot) i c.args.value in
    let long : length words ≡ s.grid.width = length-set (row_at s.grid slot) i c.args.value ∙ c.self.invariant.even slot (taken_within s.grid s.head c.self.invariant slot taken) in
    ap (λ (g : Rows). stacks_seen g s.head) c.set_at.ensures
    ∙ rewritten-seen s.grid s.head c.self.invariant slot words taken long
    ∙ ap (λ (ws : List ℕ). with_words slot (set ws i c.args.value) (stacks_of s.grid s.head)) (sym (words_taken s.grid s.head c.self.invariant slot taken))
    ∙ ap (λ (t : Stacks). with_words slot (set (words_at t slot) (c.args.index - slot * t.width) c.args.value) t) (written s.grid s.head c.args.slot c.args.self.now c.self.view_is c.requires.slot)

pub returns-clause-long : goal.returns-clause-long
returns-clause-long c =
    let s = c.self.inside in
    let slot : ℕ = c.args.slot in
    let taken : is_taken (stacks_of s.grid s.head) slot ≡ true = ap (λ (t : Stacks). is_taken t slot) (written s.grid s.head c.args.slot c.args.self.now c.self.view_is c.requires.slot) ∙ c.requires.slot in
    sym (ap (λ (t : Stacks). length (words_at t slot)) (written s.grid s.head c.args.slot c.args.self.now c.self.view_is c.requires.slot))
    ∙ ap length (words_taken s.grid s.head c.self.invariant slot taken)
    ∙ c.self.invariant.even slot (taken_within s.grid s.head c.self.invariant slot taken)
    ∙ ap (λ (t : Stacks). t.width) (written s.grid s.head c.args.slot c.args.self.now c.self.view_is c.requires.slot)
