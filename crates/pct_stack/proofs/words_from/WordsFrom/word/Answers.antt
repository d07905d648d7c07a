use Rattle.std.proofs.Common.{ℕ, ◌<◌, ◌+◌, List, length, get_or, sym, ap, ◌∙◌, arith}
use Rattle.std.proofs.lemmas.List.{length-drop, get_or-drop}
use Rattle.pct_stack.specs.Cells.{somes, AreFilled}
use Rattle.pct_stack.proofs.CellLemmas.{filled_at, filled_with, some_same}
use Rattle.pct_stack.proofs.words_from.WordsFrom.word.Goals as goal

pub get-requires : goal.get-requires
get-requires c =
    let w = c.self.inside in
    let values : List ℕ = somes w.cells.now.values in
    let inside : w.first + c.args.i < length values = omega (arith, c.requires, ap (λ (ws : List ℕ). length ws) c.self.view_is, length-drop w.first values) in
    let full : AreFilled w.cells.now.values = filled_with w.cells.now.values c.self.invariant.1 (w.first + c.args.i) inside in
    (c.self.invariant.0, (get_or values (w.first + c.args.i) 0, filled_at w.cells.now.values full (w.first + c.args.i) 0 inside))

pub returns : goal.returns
returns c =
    let w = c.self.inside in
    let values : List ℕ = somes w.cells.now.values in
    let inside : w.first + c.args.i < length values = omega (arith, c.requires, ap (λ (ws : List ℕ). length ws) c.self.view_is, length-drop w.first values) in
    let full : AreFilled w.cells.now.values = filled_with w.cells.now.values c.self.invariant.1 (w.first + c.args.i) inside in
    some_same 0 _ _ (sym c.get.ensures ∙ filled_at w.cells.now.values full (w.first + c.args.i) 0 inside)
    ∙ sym (get_or-drop w.first values c.args.i 0)
    ∙ ap (λ (ws : List ℕ). get_or ws c.args.i 0) c.self.view_is
