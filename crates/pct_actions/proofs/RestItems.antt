-- The items of a list from an index on.
use Rattle.pct_names.proofs.Names.{[], arith, cases_lt, drop, drop_all, get_or, inl, inr, length, List, None, none-some, slice_get}
use Rattle.pct_names.proofs.Names.{slice_get-get_or, sym, ℕ, ◌∙◌, ◌∷◌, ◌≡◌}

-- there are none, where there is no item at the index
pub drop_none : {A : Type 0} (xs : List A) (i : ℕ) → slice_get xs i ≡ None → drop i xs ≡ []
drop_none [] i none = drop_all i [] (omega arith)
drop_none (y ∷ ys) i none =
    elim (cases_lt i (length (y ∷ ys))) [
      | inl inside ↦ absurd (none-some (get_or (y ∷ ys) i y) (sym none ∙ slice_get-get_or (y ∷ ys) i y inside))
      | inr past ↦ drop_all i (y ∷ ys) past
    ]
