use Rattle.std.proofs.Common.{ℕ, ◌+◌, ◌≤◌, List, Option, Some, length, sym, ap, ◌∙◌, subst, arith}
use Rattle.pct_stack.specs.Cells.{somes, AreAlike}
use Rattle.pct_stack.specs.Rows.{BlockWords, set_from}
use Rattle.pct_stack.proofs.CellLemmas.{somes-set_from, AreAlike-set_from}
use Rattle.pct_stack.proofs.RowLemmas.{length-set_from}
use Rattle.pct_stack.proofs.words.Words.clear.Goals as goal

pub invariant_of-self : goal.invariant_of-self
invariant_of-self c =
    let values : List (Option ℕ) = c.self.inside.cells.values in
    let first : ℕ = c.args.first in
    let count : ℕ = c.args.count in
    let made = c.self.invariant in
    let within : first + count ≤ length (somes values) = omega (arith, c.requires, ap (λ (w : BlockWords). length w.words) c.self.view_is) in (
      c.clear_cells.ensures.at ∙ made.0,
      made.1,
      made.2,
      made.3,
      ap length c.clear_cells.ensures.values ∙ length-set_from (Some 0) first count values ∙ made.4,
      subst AreAlike (sym c.clear_cells.ensures.values) (AreAlike-set_from values made.5 first count 0 within),
    )

pub returns : goal.returns
returns c =
    let w = c.self.inside in
    let values : List (Option ℕ) = w.cells.values in
    let within : c.args.first + c.args.count ≤ length (somes values) = omega (arith, c.requires, ap (λ (w : BlockWords). length w.words) c.self.view_is) in
    ap (λ (words : List ℕ). record { room = w.room; words = words }) (ap somes c.clear_cells.ensures.values ∙ somes-set_from values c.self.invariant.5 c.args.first c.args.count 0 within)
    ∙ ap (λ (w : BlockWords). record { room = w.room; words = set_from 0 c.args.first c.args.count w.words }) c.self.view_is
