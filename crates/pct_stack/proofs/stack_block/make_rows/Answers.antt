use Rattle.std.proofs.Common.{◌≡◌, ℕ, List, length, replicate, ◌∙◌, ap, sym, subst, arith}
use Rattle.std.proofs.lemmas.List.{length-replicate}
use Rattle.pct_stack.specs.declared.stack_block.TheConstants.{NO_SLOT}
use Rattle.pct_stack.specs.Rows.{Rows}
use Rattle.pct_stack.specs.Stacks.{all_free}
use Rattle.pct_stack.specs.Links.{free_of, IsBlock}
use Rattle.pct_stack.proofs.BlockLemmas.{length-slots_of}
use Rattle.pct_stack.proofs.SeenLemmas.{filled-block}
use Rattle.pct_stack.proofs.stack_block.make_rows.Goals as goal

pub give_all-requires-clause-block : goal.give_all-requires-clause-block
give_all-requires-clause-block c =
    let old : Rows = c.args.grid.now in
    let block = c.requires in
    subst (λ (g : Rows). IsBlock g NO_SLOT) (sym c.fill.ensures) (filled-block old.room old.width block.some block.few block.width)

pub returns-clause-rows : goal.returns-clause-rows
returns-clause-rows c =
    let old : Rows = c.args.grid.now in
    let count : length c.fill.new.self.rows ≡ old.room = ap (λ (g : Rows). length g.rows) c.fill.ensures ∙ length-replicate {A = List ℕ} old.room (replicate old.width 0) in
    omega (arith, c.give_all.ensures.rows, count, c.requires.some)

pub returns-clause-free : goal.returns-clause-free
returns-clause-free c =
    let old : Rows = c.args.grid.now in
    let grid : Rows = c.fill.new.self in
    let count : length grid.rows ≡ old.room = ap (λ (g : Rows). length g.rows) c.fill.ensures ∙ length-replicate {A = List ℕ} old.room (replicate old.width 0) in
    c.give_all.ensures.given ∙ (λ j. all_free ((length-slots_of grid (free_of grid NO_SLOT) ∙ count) j) (ap (λ (g : Rows). g.width) c.fill.ensures j))
