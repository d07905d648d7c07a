use Rattle.std.proofs.Common.{◌≡◌, ℕ, List, length, true, ◌∙◌, ap, sym, subst}
use Rattle.pct_stack.specs.Rows.{Rows, row_at}
use Rattle.pct_stack.specs.Stacks.{Stacks, is_taken, words_at, with_words}
use Rattle.pct_stack.specs.Links.{stacks_of, stacks_seen, IsBlock}
use Rattle.pct_stack.proofs.BlockLemmas.{taken_within, words_taken, rewritten-block}
use Rattle.pct_stack.proofs.SeenLemmas.{written, rewritten-seen}
use Rattle.pct_stack.proofs.stack_block.StackBlock.copy_from.Goals as goal

pub copy_row-requires-clause-own : goal.copy_row-requires-clause-own
copy_row-requires-clause-own c =
    let s = c.self.inside in
    taken_within s.grid s.head c.self.invariant c.args.slot (ap (λ (t : Stacks). is_taken t c.args.slot) (written s.grid s.head c.args.slot c.args.self.now c.self.view_is c.requires.own) ∙ c.requires.own)

pub copy_row-requires-clause-others : goal.copy_row-requires-clause-others
copy_row-requires-clause-others c =
    let o = c.other.inside in
    taken_within o.grid o.head c.other.invariant c.args.slot (ap (λ (t : Stacks). is_taken t c.args.slot) (written o.grid o.head c.args.slot c.args.other.now c.other.view_is c.requires.others) ∙ c.requires.others)

pub copy_row-requires-clause-even : goal.copy_row-requires-clause-even
copy_row-requires-clause-even c =
    let o = c.other.inside in
    c.other.invariant.even c.args.slot (taken_within o.grid o.head c.other.invariant c.args.slot (ap (λ (t : Stacks). is_taken t c.args.slot) (written o.grid o.head c.args.slot c.args.other.now c.other.view_is c.requires.others) ∙ c.requires.others))

pub invariant_of-self : goal.invariant_of-self
invariant_of-self c =
    let s = c.self.inside in
    let o = c.other.inside in
    let slot : ℕ = c.args.slot in
    let taken : is_taken (stacks_of s.grid s.head) slot ≡ true = ap (λ (t : Stacks). is_taken t slot) (written s.grid s.head c.args.slot c.args.self.now c.self.view_is c.requires.own) ∙ c.requires.own in
    let others : is_taken (stacks_of o.grid o.head) slot ≡ true = ap (λ (t : Stacks). is_taken t slot) (written o.grid o.head c.args.slot c.args.other.now c.other.view_is c.requires.others) ∙ c.requires.others in
    let width : o.grid.width ≡ s.grid.width = ap (λ (t : Stacks). t.width) (written o.grid o.head c.args.slot c.args.other.now c.other.view_is c.requires.others) ∙ sym c.requires.width ∙ sym (ap (λ (t : Stacks). t.width) (written s.grid s.head c.args.slot c.args.self.now c.self.view_is c.requires.own)) in
    let long : length (row_at o.grid slot) ≡ s.grid.width = c.other.invariant.even slot (taken_within o.grid o.head c.other.invariant slot others) ∙ width in
    subst (λ (g : Rows). IsBlock g s.head) (sym c.copy_row.ensures) (rewritten-block s.grid s.head c.self.invariant slot (row_at o.grid slot) taken long)

pub returns : goal.returns
returns c =
    let s = c.self.inside in
    let o = c.other.inside in
    let slot : ℕ = c.args.slot in
    let taken : is_taken (stacks_of s.grid s.head) slot ≡ true = ap (λ (t : Stacks). is_taken t slot) (written s.grid s.head c.args.slot c.args.self.now c.self.view_is c.requires.own) ∙ c.requires.own in
    let others : is_taken (stacks_of o.grid o.head) slot ≡ true = ap (λ (t : Stacks). is_taken t slot) (written o.grid o.head c.args.slot c.args.other.now c.other.view_is c.requires.others) ∙ c.requires.others in
    let width : o.grid.width ≡ s.grid.width = ap (λ (t : Stacks). t.width) (written o.grid o.head c.args.slot c.args.other.now c.other.view_is c.requires.others) ∙ sym c.requires.width ∙ sym (ap (λ (t : Stacks). t.width) (written s.grid s.head c.args.slot c.args.self.now c.self.view_is c.requires.own)) in
    let long : length (row_at o.grid slot) ≡ s.grid.width = c.other.invariant.even slot (taken_within o.grid o.head c.other.invariant slot others) ∙ width in
    ap (λ (g : Rows). stacks_seen g s.head) c.copy_row.ensures
    ∙ rewritten-seen s.grid s.head c.self.invariant slot (row_at o.grid slot) taken long
    ∙ ap (with_words slot (row_at o.grid slot)) (written s.grid s.head c.args.slot c.args.self.now c.self.view_is c.requires.own)
    ∙ ap (λ (ws : List ℕ). with_words slot ws c.args.self.now) (sym (words_taken o.grid o.head c.other.invariant slot others) ∙ ap (λ (t : Stacks). words_at t slot) (written o.grid o.head c.args.slot c.args.other.now c.other.view_is c.requires.others))
