-- The next item of a list, and the items after it.
use Rattle.std.proofs.Common.{◌≡◌, ℕ, ◌+◌, ◌<◌, ◌≤◌, List, [], ◌∷◌, ap, drop, get_or, length, sym, ◌∙◌}
use Rattle.std.proofs.lemmas.List.{at_drop_more, at_drop_all}

module _ {X : Type 0} where
  -- the items from one on are it and those after it
  pub next_item : (xs : List X) (i : ℕ) (x : X) → x ≡ get_or xs i x → i < length xs → drop i xs ≡ x ∷ drop (i + 1) xs
  next_item xs i x is within = at_drop_more (λ (ys : List X). ys) xs i x within ∙ ap (λ (y : X). y ∷ drop (i + 1) xs) (sym is)

  pub past_all : (xs : List X) (i : ℕ) → length xs ≤ i → drop i xs ≡ []
  past_all xs i past = at_drop_all (λ (ys : List X). ys) xs i past
