use Rattle.std.proofs.Common.{ℕ, List, Option, None, length, sym, ap, ◌∙◌, subst}
use Rattle.std.proofs.lemmas.List.{length-replicate}
use Rattle.pct_stack.specs.Cells.{somes, AreAlike}
use Rattle.pct_stack.proofs.CellLemmas.{somes-none, AreAlike-none}
use Rattle.pct_stack.proofs.words.Words.new.Goals as goal

pub invariant_of-result : goal.invariant_of-result
invariant_of-result c =
    let n : ℕ = c.args.room in
    let made = c.in_ok-start.ensures in
    (made.0, made.2, made.3, made.4, ap length made.1 ∙ length-replicate {A = Option ℕ} n None, subst AreAlike (sym made.1) (AreAlike-none n))

pub returns : goal.returns
returns c =
    let n : ℕ = c.args.room in
    ap (λ (words : List ℕ). record { room = n; words = words }) (ap somes c.in_ok-start.ensures.1 ∙ somes-none n)
