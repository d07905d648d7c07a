-- The form that words have.
use Rattle.pct_names.proofs.Names.{[], ap, Bool, cond, false, find, is_some, List, list_any, map, option_map, Option, refl, same_Some, Some, subst, sym, true, ◌∙◌, ◌∷◌, ◌≡◌}
use Rattle.std.specs.List.{AllByRecursion}
use Rattle.pct_report_reader.proofs.FirstFound.{found_if_any}
use Rattle.pct_report_reader.proofs.WordsLeft.{list_any-map}

find-map : {X Y : Type 0} (p : Y → Bool) (f : X → Y) (xs : List X) → find p (map f xs) ≡ option_map f (find (λ x. p (f x)) xs)
find-map {X = X} p f [] = refl
find-map {X = X} p f (x ∷ xs) = ap (cond (p (f x)) (Some (f x))) (find-map p f xs) ∙ sym (by_test (p (f x)) (find (λ x. p (f x)) xs))
  where
    by_test : (t : Bool) (rest : Option X) → option_map f (cond t (Some x) rest) ≡ cond t (Some (f x)) (option_map f rest)
    by_test true rest = refl
    by_test false rest = refl

module _ {X Y : Type 0} (p : Y → Bool) (f : X → Y) (xs : List X) (ys : List Y) (found : Option X) (mapped : map f xs ≡ ys) (is : found ≡ find (λ x. p (f x)) xs) where
  pub some_found : list_any p ys ≡ true → is_some found ≡ true
  some_found any = ap is_some is ∙ found_if_any (λ x. p (f x)) xs ∙ sym (list_any-map p f xs) ∙ ap (list_any p) mapped ∙ any

  pub found_as : (x : X) → found ≡ Some x → find p ys ≡ Some (f x)
  found_as x here = sym (ap (find p) mapped) ∙ find-map p f xs ∙ ap (option_map f) (sym is ∙ here)

-- what is found passes the test, and has what all have
pub found_passes : {X : Type 0} (P : X → Type 0) (p : X → Bool) (xs : List X) (x : X) → AllByRecursion P xs → find p xs ≡ Some x → (p x ≡ true) × P x
found_passes {X = X} P p [] x all found = absurd cc
found_passes {X = X} P p (y ∷ xs) x all found = by_test (p y) refl found (found_passes P p xs x all.1)
  where
    by_test : (t : Bool) → p y ≡ t → cond t (Some y) (find p xs) ≡ Some x → (find p xs ≡ Some x → (p x ≡ true) × P x) → (p x ≡ true) × P x
    by_test true is here later = let same = same_Some y x here in (subst (λ (z : X). p z ≡ true) same is, subst P same all.0)
    by_test false is here later = later here
