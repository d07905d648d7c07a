-- A search finds something exactly if something passes the test.
use Rattle.pct_names.proofs.Names.{ap, Bool, cond, false, find, is_some, List, list_any, Option, refl, Some, true, ◌||◌, ◌∙◌, ◌∷◌, ◌≡◌, []}

by_first : {X : Type 0} (t : Bool) (x : X) (rest : Option X) → is_some (cond t (Some x) rest) ≡ (t || is_some rest)
by_first true x rest = refl
by_first false x rest = refl

pub found_if_any : {X : Type 0} (p : X → Bool) (xs : List X) → is_some (find p xs) ≡ list_any p xs
found_if_any p [] = refl
found_if_any p (x ∷ xs) = by_first (p x) x (find p xs) ∙ ap (λ (t : Bool). p x || t) (found_if_any p xs)
