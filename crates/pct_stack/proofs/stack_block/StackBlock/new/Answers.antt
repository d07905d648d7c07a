use Rattle.std.proofs.Common.{◌≡◌, length, ◌∙◌, ap, arith}
use Rattle.pct_stack.specs.Rows.{Rows}
use Rattle.pct_stack.specs.Stacks.{all_free}
use Rattle.pct_stack.proofs.SeenLemmas.{seen_blank, blank-block}
use Rattle.pct_stack.proofs.stack_block.StackBlock.new.Goals as goal

pub invariant_of-result : goal.invariant_of-result
invariant_of-result c =
    let grid : Rows = c.in_ok-grid.grid in
    let room : grid.room ≡ c.args.slots = ap (λ (g : Rows). g.room) c.in_ok-grid.ensures in
    blank-block grid (ap (λ (g : Rows). length g.rows) c.in_ok-grid.ensures)
    (omega (arith, room, c.requires.some)) (omega (arith, room, c.requires.few)) (omega (arith, ap (λ (g : Rows). g.width) c.in_ok-grid.ensures, c.requires.linked))

pub returns : goal.returns
returns c =
    let grid : Rows = c.in_ok-grid.grid in
    seen_blank grid 4294967295 (ap (λ (g : Rows). length g.rows) c.in_ok-grid.ensures) ∙ ap (λ (g : Rows). all_free g.room g.width) c.in_ok-grid.ensures
