-- There is one stable order of a list by a key.
use Rattle.std.proofs.Common.{◌≡◌, ℕ, zero, suc, ◌+◌, ◌<◌, ◌≤◌, Bool, true, false, cond, not, ◌&&◌, List, [], ◌∷◌, arith, ap, filter, get_or, length, nat_eq, refl, sym, subst, ◌∙◌}
use Rattle.std.proofs.Common.{eq-eqb, eqb-true, inl, inr, lt-ltb, ne_eqb}
use Rattle.std.proofs.lemmas.Bool.{cases_order, le-ltb}
use Rattle.std.proofs.lemmas.List.Sorted.{IsNonDecreasingBy-from_sort}
use Rattle.std.specs.Prelude.{◌==◌, IsSortedByKey}
use Rattle.std.specs.List.Sorted.{IsNonDecreasingBy, IsStableByKey}
use Rattle.std.specs.Ordering.{is_lt, nat_cmp}
use Rattle.std.specs.declared.cmp.Ordering.TheVariants.{Equal, Greater}

module _ {X : Type 0} (key : X → ℕ) where
  -- the keys are equal
  abbrev same : X → X → Bool
  same x y = nat_eq (key x) (key y)

  -- each has at least this key
  abbrev pub From : ℕ → List X → Type 0
  From m [] = Unit {0}
  From m (x ∷ xs) = (m ≤ key x) × From m xs

  -- the keys do not fall
  abbrev pub Rises : List X → Type 0
  Rises [] = Unit {0}
  Rises (x ∷ xs) = From (key x) xs × Rises xs

  kept_above : (m : ℕ) (w : X) (xs : List X) (a : X) (rest : List X) → From m xs → filter (same w) xs ≡ a ∷ rest → m ≤ key w
  kept_above m w [] a rest from is = absurd cc
  kept_above m w (x ∷ xs) a rest from is = by_test m w x xs a rest from (same w x) refl is (kept_above m w xs a rest)
    where
      by_test : (m : ℕ) (w x : X) (xs : List X) (a : X) (rest : List X) → From m (x ∷ xs) → (t : Bool) → same w x ≡ t → cond t (x ∷ filter (same w) xs) (filter (same w) xs) ≡ a ∷ rest
          → (From m xs → filter (same w) xs ≡ a ∷ rest → m ≤ key w) → m ≤ key w
      by_test m w x xs a rest from true t_is is more = let e = eqb-true (key w) (key x) t_is in omega (arith, e, from.0)
      by_test m w x xs a rest from false t_is is more = more from.1 is

  abbrev tail_or : List X → List X → List X
  tail_or other [] = other
  tail_or other (x ∷ xs) = xs

  abbrev head_or : X → List X → X
  head_or other [] = other
  head_or other (x ∷ xs) = x

  kept : (w x : X) (xs : List X) (t : Bool) → same w x ≡ t → filter (same w) (x ∷ xs) ≡ cond t (x ∷ filter (same w) xs) (filter (same w) xs)
  kept w x xs true is = rw is refl
  kept w x xs false is = rw is refl

  itself : (x : X) → same x x ≡ true
  itself x = eq-eqb (key x) (key x) refl

  -- lists whose keys rise, and of which each key's items are the same, are one
  pub one_order : (xs ys : List X) → Rises xs → Rises ys → ((w : X) → filter (same w) xs ≡ filter (same w) ys) → xs ≡ ys
  one_order [] [] rx ry each = refl
  one_order [] (y ∷ ys) rx ry each = absurd (nothing y (filter (same y) ys) (each y ∙ kept y y ys true (itself y)))
    where
      nothing : (a : X) (rest : List X) → ◌≡◌ {A = List X} [] (a ∷ rest) → ⊥
      nothing a rest is = cc
  one_order (x ∷ xs) [] rx ry each = absurd (nothing x (filter (same x) xs) (sym (each x) ∙ kept x x xs true (itself x)))
    where
      nothing : (a : X) (rest : List X) → ◌≡◌ {A = List X} [] (a ∷ rest) → ⊥
      nothing a rest is = cc
  one_order (x ∷ xs) (y ∷ ys) rx ry each =
      let above : key y ≤ key x = kept_above (key y) x (y ∷ ys) x (filter (same x) xs) (omega arith, ry.0) (sym (each x) ∙ kept x x xs true (itself x)) in
      let below : key x ≤ key y = kept_above (key x) y (x ∷ xs) y (filter (same y) ys) (omega arith, rx.0) (each y ∙ kept y y ys true (itself y)) in
      let equal : same x y ≡ true = eq-eqb (key x) (key y) (omega (arith, above, below)) in
      let heads : x ≡ y = ap (head_or x) (sym (kept x x xs true (itself x)) ∙ each x ∙ kept x y ys true equal) in
      λ i. heads i ∷ one_order xs ys rx.1 ry.1 (λ w. rests w x y xs ys heads (each w)) i
    where
      rests : (w x y : X) (xs ys : List X) → x ≡ y → filter (same w) (x ∷ xs) ≡ filter (same w) (y ∷ ys) → filter (same w) xs ≡ filter (same w) ys
      rests w x y xs ys heads each = by_test (same w x) refl
        where
          by_test : (t : Bool) → same w x ≡ t → filter (same w) xs ≡ filter (same w) ys
          by_test true is = ap (tail_or (filter (same w) xs)) (sym (kept w x xs true is) ∙ each ∙ kept w y ys true (sym (ap (same w) heads) ∙ is))
          by_test false is = sym (kept w x xs false is) ∙ each ∙ kept w y ys false (sym (ap (same w) heads) ∙ is)

  -- ---- lists that a stable sort gives

  from_of : (m : ℕ) (xs : List X) → ((j : ℕ) (d : X) → j < length xs → m ≤ key (get_or xs j d)) → From m xs
  from_of m [] h = tt
  from_of m (x ∷ xs) h = (h 0 x (omega arith), from_of m xs (λ j d within. h (suc j) d (omega (arith, within))))

  rises_of : (xs : List X) → IsNonDecreasingBy key xs → Rises xs
  rises_of [] h = tt
  rises_of (x ∷ xs) h = (
    from_of (key x) xs (λ j d within. h 0 (suc j) d (omega arith) (omega (arith, within))),
    rises_of xs (λ i j d order within. h (suc i) (suc j) d (omega (arith, order)) (omega (arith, within))),
  )

  -- the test by which a stable sort lets items tie
  abbrev pub tie : X → X → Bool
  tie x y = not (is_lt (nat_cmp (key x) (key y))) && not (is_lt (nat_cmp (key y) (key x)))

  pub tie_is : (a b : ℕ) → (not (is_lt (nat_cmp a b)) && not (is_lt (nat_cmp b a))) ≡ nat_eq a b
  tie_is a b = elim (cases_order a b) [
    | inl equal ↦ rw (lt_not a b (omega (arith, equal)), lt_not b a (omega (arith, equal)), eq-eqb a b equal) refl
    | inr (inl less) ↦ rw (lt_is a b less, ne_eqb a b (λ e. absurd (omega (arith, less, e)))) refl
    | inr (inr more) ↦ rw (lt_not a b (omega (arith, more)), lt_is b a more, ne_eqb a b (λ e. absurd (omega (arith, more, e)))) refl
  ]
    where
      lt_is : (m n : ℕ) → m < n → is_lt (nat_cmp m n) ≡ true
      lt_is m n h = rw (lt-ltb m n h) refl

      not_less : (m n : ℕ) (t : Bool) → (m == n) ≡ t → is_lt (cond t Equal Greater) ≡ false
      not_less m n true is = refl
      not_less m n false is = refl

      lt_not : (m n : ℕ) → n ≤ m → is_lt (nat_cmp m n) ≡ false
      lt_not m n h = rw (le-ltb m n h) (not_less m n (m == n) refl)

  -- two of them are one
  pub sorted_alike : (xs ys zs : List X) → IsSortedByKey key nat_cmp ys → IsStableByKey key nat_cmp xs ys → IsSortedByKey key nat_cmp zs → IsStableByKey key nat_cmp xs zs → ys ≡ zs
  sorted_alike xs ys zs sorted_y stable_y sorted_z stable_z =
      one_order ys zs (rises_of ys (IsNonDecreasingBy-from_sort key ys sorted_y)) (rises_of zs (IsNonDecreasingBy-from_sort key zs sorted_z))
      (λ w. (λ i. filter (λ y. sym (tie_is (key w) (key y)) i) ys) ∙ stable_y w ∙ sym (stable_z w) ∙ (λ i. filter (λ y. tie_is (key w) (key y) i) zs))
