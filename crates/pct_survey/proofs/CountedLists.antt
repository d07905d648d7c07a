-- Counts that are made one after the other.
use Rattle.std.proofs.lemmas.List.{at_drop_more, map-append, take_more}
use Rattle.std.specs.Prelude.{find, unwrap_or}
use Rattle.pct_names.proofs.Names.{◌++◌, ◌+◌, ◌<◌, [], ap, arith, Bool, cond, count_by, drop, enumerate_from, false, get_or, length, length-take, List, map, option_map, Some, sum_by-cons, sym, take, true, ℕ, ◌∙◌, ◌∷◌, ◌≡◌}
use Rattle.pct_tallies.specs.declared.count.Count.{Count}

enumerate-more : {X : Type 0} (n : ℕ) (xs : List X) (x : X) → enumerate_from n (xs ++ x ∷ []) ≡ enumerate_from n xs ++ (n + length xs, x) ∷ []
enumerate-more n [] x =
    let same : n ≡ n + 0 = omega arith in
    ap (λ (m : ℕ). (m, x) ∷ []) same
enumerate-more n (y ∷ xs) x =
    let same : n + 1 + length xs ≡ n + length (y ∷ xs) = omega arith in
    ap (λ rest. (n, y) ∷ rest) (enumerate-more (n + 1) xs x ∙ ap (λ (m : ℕ). enumerate_from (n + 1) xs ++ (m, x) ∷ []) same)

-- one more item of a list, with its index
pub numbered_more : {X Y : Type 0} (f : ℕ × X → Y) (xs : List X) (i : ℕ) (d : X) → i < length xs
    → map f (enumerate_from 0 (take (i + 1) xs)) ≡ map f (enumerate_from 0 (take i xs)) ++ f (i, get_or xs i d) ∷ []
numbered_more f xs i d within =
    let taken : 0 + length (take i xs) ≡ i = omega (arith, length-take i xs, within) in
    ap (λ some. map f (enumerate_from 0 some)) (take_more xs i d within)
    ∙ ap (map f) (enumerate-more 0 (take i xs) (get_or xs i d) ∙ ap (λ (m : ℕ). enumerate_from 0 (take i xs) ++ (m, get_or xs i d) ∷ []) taken)
    ∙ map-append f (enumerate_from 0 (take i xs)) ((i, get_or xs i d) ∷ [])

-- and without it
pub mapped_more : {X Y : Type 0} (f : X → Y) (xs : List X) (i : ℕ) (d : X) → i < length xs → map f (take (i + 1) xs) ≡ map f (take i xs) ++ f (get_or xs i d) ∷ []
mapped_more f xs i d within = ap (map f) (take_more xs i d within) ∙ map-append f (take i xs) (get_or xs i d ∷ [])

module _ {X : Type 0} (passes : X → Bool) (seed : X → ℕ) where
  -- the number of the items that pass, and the seed of the first of them
  abbrev counted : List X → Count
  counted xs = record { runs = count_by passes xs; first = unwrap_or (option_map seed (find passes xs)) 0 }

  passes_too : (x : X) (xs : List X) → passes x ≡ true → counted (x ∷ xs) ≡ record { runs = count_by passes xs + 1; first = seed x }
  passes_too x xs is =
      let one : ◌≡◌ {A = ℕ} (cond (passes x) 1 0) 1 = ap (λ (t : Bool). cond t 1 0) is in
      let all : count_by passes (x ∷ xs) ≡ cond (passes x) 1 0 + count_by passes xs = sum_by-cons (λ y. cond (passes y) 1 0) x xs in
      let runs : count_by passes (x ∷ xs) ≡ count_by passes xs + 1 = omega (arith, one, all) in
      let first = ap (λ (t : Bool). unwrap_or (option_map seed (cond t (Some x) (find passes xs))) 0) is in
      λ i. record { runs = runs i; first = first i }

  fails_too : (x : X) (xs : List X) → passes x ≡ false → counted (x ∷ xs) ≡ counted xs
  fails_too x xs is =
      let none : ◌≡◌ {A = ℕ} (cond (passes x) 1 0) 0 = ap (λ (t : Bool). cond t 1 0) is in
      let all : count_by passes (x ∷ xs) ≡ cond (passes x) 1 0 + count_by passes xs = sum_by-cons (λ y. cond (passes y) 1 0) x xs in
      let runs : count_by passes (x ∷ xs) ≡ count_by passes xs = omega (arith, none, all) in
      let first = ap (λ (t : Bool). unwrap_or (option_map seed (cond t (Some x) (find passes xs))) 0) is in
      λ i. record { runs = runs i; first = first i }

  -- from an index on, by what is counted from the next one on
  module _ (xs : List X) (j k : ℕ) (d : X) (next : k ≡ j + 1) (inside : j < length xs) (count : Count) (so_far : count ≡ counted (drop k xs)) where
    from_here : count ≡ counted (drop (j + 1) xs)
    from_here = so_far ∙ ap (λ (n : ℕ). counted (drop n xs)) next

    pub counted_here : true ≡ passes (get_or xs j d) → record { runs = count.runs + 1; first = seed (get_or xs j d) } ≡ counted (drop j xs)
    counted_here is =
        ap (λ (c : Count). record { runs = c.runs + 1; first = seed (get_or xs j d) }) from_here
        ∙ sym (at_drop_more counted xs j d inside ∙ passes_too (get_or xs j d) (drop (j + 1) xs) (sym is))

    pub not_here : false ≡ passes (get_or xs j d) → count ≡ counted (drop j xs)
    not_here is = from_here ∙ sym (at_drop_more counted xs j d inside ∙ fails_too (get_or xs j d) (drop (j + 1) xs) (sym is))
