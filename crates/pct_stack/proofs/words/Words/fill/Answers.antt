use Rattle.std.proofs.Common.{◌≡◌, ℕ, List, Option, Some, None, replicate, length, sym, ap, ◌∙◌, subst, arith}
use Rattle.std.proofs.lemmas.List.{length-replicate}
use Rattle.pct_stack.specs.Cells.{somes, AreAlike}
use Rattle.pct_stack.specs.Rows.{BlockWords}
use Rattle.pct_stack.proofs.CellLemmas.{somes-replicate, AreFilled-replicate}
use Rattle.pct_stack.proofs.RowLemmas.{set_from-all}
use Rattle.pct_stack.proofs.words.Words.fill.Goals as goal

pub clear_cells-requires-clause-within : goal.clear_cells-requires-clause-within
clear_cells-requires-clause-within c = omega (arith, c.self.invariant.4)

pub invariant_of-self : goal.invariant_of-self
invariant_of-self c =
    let values : List (Option ℕ) = c.self.inside.cells.values in
    let n : ℕ = c.self.inside.room in
    let made = c.self.invariant in
    let all : c.clear_cells.new.cells.values ≡ replicate n (Some 0) = c.clear_cells.ensures.values ∙ set_from-all (Some 0) None n values made.4 in (
      c.clear_cells.ensures.at ∙ made.0,
      made.1,
      made.2,
      made.3,
      ap length all ∙ length-replicate n (Some 0),
      subst AreAlike (sym all) (λ _. AreFilled-replicate n 0),
    )

pub returns : goal.returns
returns c =
    let values : List (Option ℕ) = c.self.inside.cells.values in
    let n : ℕ = c.self.inside.room in
    let all : c.clear_cells.new.cells.values ≡ replicate n (Some 0) = c.clear_cells.ensures.values ∙ set_from-all (Some 0) None n values c.self.invariant.4 in
    ap (λ (words : List ℕ). record { room = n; words = words }) (ap somes all ∙ somes-replicate n 0)
    ∙ ap (λ (w : BlockWords). record { room = w.room; words = replicate w.room 0 }) c.self.view_is
