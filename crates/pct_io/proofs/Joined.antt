-- Fields separated by spaces: the first field, followed by each other field with a space before it.
use Rattle.std.proofs.Common.{◌≡◌, ℕ, List, [], ◌∷◌, ◌++◌, map, sym, ap, ◌∙◌}
use Rattle.std.specs.List.{flat_map, join_with_byte}
use Rattle.std.proofs.lemmas.List.{append-nil}
use Rattle.std.proofs.lemmas.List.Concat.{flat_map-cons}

pub joined : {X : Type 0} (text_of : X → List ℕ) (x : X) (xs : List X) → join_with_byte 32 (map text_of (x ∷ xs)) ≡ text_of x ++ flat_map (λ field. 32 ∷ text_of field) xs
joined text_of x [] = sym (append-nil (text_of x))
joined text_of x (y ∷ ys) = ap (λ rest. text_of x ++ (32 ∷ rest)) (joined text_of y ys) ∙ ap (λ rest. text_of x ++ rest) (sym (flat_map-cons (λ field. 32 ∷ text_of field) y ys))
