use Rattle.std.proofs.Common.{◌<◌, length, get_or, sym, ap, ◌∙◌, arith}
use Rattle.pct_stack.specs.Cells.{somes, AreFilled}
use Rattle.pct_stack.specs.Rows.{BlockWords}
use Rattle.pct_stack.proofs.CellLemmas.{filled_at, filled_with, some_same}
use Rattle.pct_stack.proofs.words.Words.get.Goals as goal

pub get-requires : goal.get-requires
get-requires c =
    let cells = c.self.inside.cells in
    let inside : c.args.index < length (somes cells.values) = omega (arith, c.requires, ap (λ (w : BlockWords). length w.words) c.self.view_is) in
    let full : AreFilled cells.values = filled_with cells.values c.self.invariant.5 c.args.index inside in
    (sym c.self.invariant.0, (get_or (somes cells.values) c.args.index 0, filled_at cells.values full c.args.index 0 inside))

pub returns : goal.returns
returns c =
    let cells = c.self.inside.cells in
    let inside : c.args.index < length (somes cells.values) = omega (arith, c.requires, ap (λ (w : BlockWords). length w.words) c.self.view_is) in
    let full : AreFilled cells.values = filled_with cells.values c.self.invariant.5 c.args.index inside in
    some_same 0 _ _ (sym c.get.ensures ∙ filled_at cells.values full c.args.index 0 inside) ∙ ap (λ (w : BlockWords). get_or w.words c.args.index 0) c.self.view_is
