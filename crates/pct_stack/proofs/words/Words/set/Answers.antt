use Rattle.std.proofs.Common.{ℕ, ◌<◌, List, Option, Some, length, set, sym, ap, ◌∙◌, subst, arith}
use Rattle.std.proofs.lemmas.List.{length-set}
use Rattle.pct_stack.specs.Cells.{somes, AreAlike}
use Rattle.pct_stack.specs.Rows.{BlockWords}
use Rattle.pct_stack.proofs.CellLemmas.{somes-set, filled_with, AreAlike-set}
use Rattle.pct_stack.proofs.words.Words.set.Goals as goal

pub invariant_of-self : goal.invariant_of-self
invariant_of-self c =
    let values : List (Option ℕ) = c.self.inside.cells.values in
    let made = c.self.invariant in
    let inside : c.args.index < length (somes values) = omega (arith, c.requires, ap (λ (w : BlockWords). length w.words) c.self.view_is) in (
      c.write.ensures.0 ∙ made.0,
      made.1,
      made.2,
      made.3,
      ap length c.write.ensures.1 ∙ length-set values c.args.index (Some c.args.value) ∙ made.4,
      subst AreAlike (sym c.write.ensures.1) (AreAlike-set values made.5 c.args.index c.args.value inside),
    )

pub returns : goal.returns
returns c =
    let w = c.self.inside in
    let values : List (Option ℕ) = w.cells.values in
    let inside : c.args.index < length (somes values) = omega (arith, c.requires, ap (λ (w : BlockWords). length w.words) c.self.view_is) in
    ap (λ (words : List ℕ). record { room = w.room; words = words }) (ap somes c.write.ensures.1 ∙ somes-set values (filled_with values c.self.invariant.5 c.args.index inside) c.args.index c.args.value)
    ∙ ap (λ (w : BlockWords). record { room = w.room; words = set w.words c.args.index c.args.value }) c.self.view_is
