-- The answers to the rules so far.
use Rattle.pct_names.proofs.Names.{◌++◌, [], AllZip, List, ◌∷◌}

-- one more item of each list
pub one_more_pair : {A B : Type 0} (R : A → B → Type 0) (xs : List A) (ys : List B) (x : A) (y : B) → AllZip R xs ys → R x y → AllZip R (xs ++ x ∷ []) (ys ++ y ∷ [])
one_more_pair R [] [] x y all here = (here, tt)
one_more_pair R [] (first ∷ ys) x y all here = absurd all
one_more_pair R (first ∷ xs) [] x y all here = absurd all
one_more_pair R (first ∷ xs) (second ∷ ys) x y all here = (all.0, one_more_pair R xs ys x y all.1 here)
