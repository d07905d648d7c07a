use Rattle.std.proofs.Common.{◌≡◌, ℕ, List, length, true, replicate, ◌∙◌, ap, sym, subst, arith}
use Rattle.std.proofs.lemmas.List.{length-replicate}
use Rattle.pct_stack.specs.Rows.{Rows, with_row}
use Rattle.pct_stack.specs.Stacks.{Stacks, is_free, with_taken}
use Rattle.pct_stack.specs.Links.{stacks_of, stacks_seen, IsBlock, with_bypass}
use Rattle.pct_stack.proofs.BlockLemmas.{free_within, length-past, taken-block}
use Rattle.pct_stack.proofs.SeenLemmas.{taken-seen}
use Rattle.pct_stack.proofs.stack_block.StackBlock.take_slot.Goals as goal

pub unlink-requires-clause-slot : goal.unlink-requires-clause-slot
unlink-requires-clause-slot c =
    let s = c.begin.new in
    free_within s.grid s.head c.begin.ensures.block c.args.slot (ap (λ (t : Stacks). is_free t c.args.slot) (c.begin.ensures.same ∙ c.self.view_is) ∙ c.requires)

pub clear-requires : goal.clear-requires
clear-requires c =
    let s = c.begin.new in
    let block = c.begin.ensures.block in
    let is_one : is_free (stacks_of s.grid s.head) c.args.slot ≡ true = ap (λ (t : Stacks). is_free t c.args.slot) (c.begin.ensures.same ∙ c.self.view_is) ∙ c.requires in
    let zeros : List ℕ = replicate s.grid.width 0 in
    omega (
      arith,
      free_within s.grid s.head block c.args.slot is_one,
      ap (λ (g : Rows). length g.rows) c.unlink.ensures.grid,
      length-past s.grid s.head block c.args.slot is_one zeros (length-replicate {A = ℕ} s.grid.width 0),
    )

pub invariant_of-self : goal.invariant_of-self
invariant_of-self c =
    let s = c.begin.new in
    let slot : ℕ = c.args.slot in
    let is_one : is_free (stacks_of s.grid s.head) slot ≡ true = ap (λ (t : Stacks). is_free t slot) (c.begin.ensures.same ∙ c.self.view_is) ∙ c.requires in
    let zeros : List ℕ = replicate s.grid.width 0 in
    let now : c.clear.new.self ≡ with_row slot zeros (with_bypass slot s.grid) =
    c.clear.ensures ∙ ap (λ (g : Rows). with_row slot (replicate g.width 0) g) c.unlink.ensures.grid in
    subst (λ (g : Rows). IsBlock g c.unlink.new.head) (sym now)
    (subst (λ (k : ℕ). IsBlock (with_row slot zeros (with_bypass slot s.grid)) k) (sym c.unlink.ensures.head)
    (taken-block s.grid s.head c.begin.ensures.block slot is_one zeros (length-replicate {A = ℕ} s.grid.width 0)))

pub returns : goal.returns
returns c =
    let s = c.begin.new in
    let slot : ℕ = c.args.slot in
    let is_one : is_free (stacks_of s.grid s.head) slot ≡ true = ap (λ (t : Stacks). is_free t slot) (c.begin.ensures.same ∙ c.self.view_is) ∙ c.requires in
    let zeros : List ℕ = replicate s.grid.width 0 in
    let now : c.clear.new.self ≡ with_row slot zeros (with_bypass slot s.grid) =
    c.clear.ensures ∙ ap (λ (g : Rows). with_row slot (replicate g.width 0) g) c.unlink.ensures.grid in
    (λ j. stacks_seen (now j) (c.unlink.ensures.head j))
    ∙ taken-seen s.grid s.head c.begin.ensures.block slot zeros is_one (length-replicate {A = ℕ} s.grid.width 0)
    ∙ ap (λ (t : Stacks). with_taken slot (replicate t.width 0) t) (c.begin.ensures.same ∙ c.self.view_is)
