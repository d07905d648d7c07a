-- Lists by place: a change of one place, and the place of a key.
use Rattle.pct_names.proofs.Names.{◌%◌, ◌*◌, ◌+◌, ◌-◌, ◌<◌, [], ap, arith, get_or, inl, inr, key_place, List, MAX_KEYS, mod-mul-add}
use Rattle.pct_names.proofs.Names.{none-some, refl, replicate, same_Some, set, slice_get, Some, suc, zero, ℕ, ◌∙◌, ◌∷◌, ◌≡◌, ◌⊎◌}

-- ---- a change of one place

module _ {A : Type 0} where
  -- the default is read where it is written
  pub default_set : (xs : List A) (i : ℕ) (d : A) → get_or (set xs i d) i d ≡ d
  default_set [] i d = refl
  default_set (x ∷ xs) zero d = refl
  default_set (x ∷ xs) (suc i) d = default_set xs i d

  -- where it was read, it is read after it is written anywhere
  pub default_stays : (xs : List A) (i j : ℕ) (d : A) → get_or xs j d ≡ d → get_or (set xs i d) j d ≡ d
  default_stays [] i j d is = is
  default_stays (x ∷ xs) zero zero d is = refl
  default_stays (x ∷ xs) zero (suc j) d is = is
  default_stays (x ∷ xs) (suc i) zero d is = is
  default_stays (x ∷ xs) (suc i) (suc j) d is = default_stays xs i j d is

  -- it is read of a list that has nothing else
  pub default_of_replicate : (n i : ℕ) (d : A) → get_or (replicate n d) i d ≡ d
  default_of_replicate zero i d = refl
  default_of_replicate (suc n) zero d = refl
  default_of_replicate (suc n) (suc i) d = default_of_replicate n i d

  -- an item of a list of equal ones
  pub item_of_replicate : (n i : ℕ) (x y : A) → slice_get (replicate n x) i ≡ Some y → x ≡ y
  item_of_replicate zero i x y is = absurd (none-some y is)
  item_of_replicate (suc n) zero x y is = same_Some x y is
  item_of_replicate (suc n) (suc i) x y is = item_of_replicate n i x y is

  -- an item of a changed list was there before, or is the one that was written
  pub item_set : (xs : List A) (i j : ℕ) (y x : A) → slice_get (set xs i y) j ≡ Some x → (slice_get xs j ≡ Some x) ⊎ ((i ≡ j) × (y ≡ x))
  item_set [] i j y x is = inl is
  item_set (z ∷ xs) zero zero y x is = inr (refl, same_Some y x is)
  item_set (z ∷ xs) zero (suc j) y x is = inl is
  item_set (z ∷ xs) (suc i) zero y x is = inl is
  item_set (z ∷ xs) (suc i) (suc j) y x is = elim (item_set xs i j y x is) [
    | inl before ↦ inl before
    | inr new ↦ inr (ap suc new.0, new.1)
  ]

-- ---- the place of a key

-- the place of a key that was made after some others on a place
pub place_of_next : (place made : ℕ) → place < MAX_KEYS → key_place (1 + place + MAX_KEYS * made) ≡ place
place_of_next place made low =
    let before : 1 + place + MAX_KEYS * made - 1 ≡ made * MAX_KEYS + place = omega arith in
    ap (λ (n : ℕ). n % MAX_KEYS) before ∙ mod-mul-add made MAX_KEYS place low

-- the place of the last key that was made on a place
pub place_of_last : (place made number : ℕ) → place < MAX_KEYS → 0 < made → 1 + place + MAX_KEYS * made ≡ number + MAX_KEYS → key_place number ≡ place
place_of_last place zero number low some is = absurd (omega (arith, some))
place_of_last place (suc made) number low some is =
    let last : number ≡ 1 + place + MAX_KEYS * made = omega (arith, is) in
    ap key_place last ∙ place_of_next place made low
