-- What a list contains that is made of another one, and look-up by a number of what a list contains.
use Rattle.pct_names.proofs.Names.{◌&&◌, ◌<◌, [], All-contains, All-contains_itself, All-filter, All-map, and_from, and_left, ap, arith}
use Rattle.pct_names.proofs.Names.{Bool, cond, Contains, Contains-append_left, Contains-append_right, Contains-get_or, false, filter}
use Rattle.pct_names.proofs.Names.{filter_passes, find, flat_map, get_or, get_or-range_with_len, get_or_from_slice_get, inl, inr}
use Rattle.pct_names.proofs.Names.{length-range_with_len, List, list_any, list_any_at, map, nat_eq, Option, position_or_len, range_with_len}
use Rattle.pct_names.proofs.Names.{refl, slice_get_within, Some, subst, suc, sym, true, zero, ℕ, ◌∙◌, ◌∷◌, ◌≡◌, ◌⊎◌}
use Rattle.std.proofs.Common.{zero-add, eq-eqb, ne_eqb}
use Rattle.std.proofs.lemmas.Bool.{true≢false}
use Rattle.pct_engine_laws.proofs.ListFacts.{All-flat_map}
use Rattle.pct_thread_invariants.proofs.lift.KeyedLists.{AreDistinct, found_at}

module _ {A : Type 0} where
  -- an item of a list is its first one, or is among the others
  first_or_later : (x : A) (xs : List A) (y : A) → Contains (x ∷ xs) y → (x ≡ y) ⊎ Contains xs y
  first_or_later x xs y (zero, low, is) = inl is
  first_or_later x xs y (suc k, low, is) = inr (k, omega (arith, low), is)

  -- a list contains its first item
  contains_first : (x : A) (xs : List A) → Contains (x ∷ xs) x
  contains_first x xs = (0, omega arith, refl)

-- ---- lists made of items

module _ {A B : Type 0} where
  -- an item of a mapped list is made of an item, and what is made of an item is one
  pub mapped_was : (f : A → B) (xs : List A) (y : B) → Contains (map f xs) y → (x : A) × Contains xs x × (f x ≡ y)
  mapped_was f xs y among =
      let Made : B → Type 0 = λ z. (x : A) × Contains xs x × (f x ≡ z) in
      All-contains Made (map f xs) y (All-map Made f xs (λ k d low. (get_or xs k d, Contains-get_or xs k d low, refl))) among

  pub mapped_contained : (f : A → B) (xs : List A) (x : A) → Contains xs x → Contains (map f xs) (f x)
  mapped_contained f [] x among = absurd (omega (arith, among.1))
  mapped_contained f (y ∷ ys) x among = elim (first_or_later y ys x among) [
    | inl first ↦ subst (λ (z : A). Contains (f y ∷ map f ys) (f z)) first (contains_first (f y) (map f ys))
    | inr later ↦ Contains-append_right (f y ∷ []) (map f ys) (f x) (mapped_contained f ys x later)
  ]

  -- an item of joined lists is in the list of an item, and what is in the list of an item is one
  pub joined_was : (f : A → List B) (xs : List A) (y : B) → Contains (flat_map f xs) y → (x : A) × Contains xs x × Contains (f x) y
  joined_was f xs y among =
      let Made : B → Type 0 = λ z. (x : A) × Contains xs x × Contains (f x) z in
      All-contains Made (flat_map f xs) y (All-flat_map Made f xs (λ k d low j c within. (get_or xs k d, Contains-get_or xs k d low, Contains-get_or (f (get_or xs k d)) j c within))) among

  pub joined_contained : (f : A → List B) (xs : List A) (x : A) (y : B) → Contains xs x → Contains (f x) y → Contains (flat_map f xs) y
  joined_contained f [] x y among inside = absurd (omega (arith, among.1))
  joined_contained f (z ∷ zs) x y among inside = elim (first_or_later z zs x among) [
    | inl first ↦ Contains-append_left (f z) (flat_map f zs) y (subst (λ (a : A). Contains (f a) y) (sym first) inside)
    | inr later ↦ Contains-append_right (f z) (flat_map f zs) y (joined_contained f zs x y later inside)
  ]

-- ---- look-up

module _ {A : Type 0} where
  module _ (test : A → Bool) where
    -- what is found is an item
    pub found_contained : (xs : List A) (x : A) → find test xs ≡ Some x → Contains xs x
    found_contained xs x is =
        let at = found_at test xs x is in
        (position_or_len test xs, slice_get_within xs (position_or_len test xs) x at, get_or_from_slice_get xs (position_or_len test xs) x x at)

    -- an item that passes a test is among those that pass it
    passed_by : (x y : A) (kept : List A) (passes : Bool) → ((x ≡ y) × (passes ≡ true)) ⊎ Contains kept y → Contains (cond passes (x ∷ kept) kept) y
    passed_by x y kept true (inl first) = subst (Contains (x ∷ kept)) first.0 (contains_first x kept)
    passed_by x y kept false (inl first) = absurd (true≢false (sym first.1))
    passed_by x y kept true (inr later) = Contains-append_right (x ∷ []) kept y later
    passed_by x y kept false (inr later) = later

    pub passed_contained : (xs : List A) (y : A) → Contains xs y → test y ≡ true → Contains (filter test xs) y
    passed_contained [] y among passes = absurd (omega (arith, among.1))
    passed_contained (x ∷ xs) y among passes = passed_by x y (filter test xs) (test x) (elim (first_or_later x xs y among) [
      | inl first ↦ inl (first, ap test first ∙ passes)
      | inr later ↦ inr (passed_contained xs y later passes)
    ])

    -- what a filter keeps is an item that passes its test
    pub passed_was : (xs : List A) (x : A) → Contains (filter test xs) x → Contains xs x × (test x ≡ true)
    passed_was xs x among = (
      All-contains (Contains xs) (filter test xs) x (All-filter test (Contains xs) xs (All-contains_itself xs)) among,
      All-contains (λ y. test y ≡ true) (filter test xs) x (filter_passes test xs) among,
    )

  module _ (key : A → ℕ) (test : A → Bool) where
    -- an item of a list does not have a number that is not there
    number_absent : (x : A) (xs : List A) (y : A) → list_any (λ n. nat_eq n (key x)) (map key xs) ≡ false → Contains xs y → key x ≡ key y → ⊥
    number_absent x xs y absent among same =
        let at : Contains (map key xs) (key y) = mapped_contained key xs y among in
        true≢false (sym (list_any_at (λ n. nat_eq n (key x)) (map key xs) at.0 (key y) at.1 (eq-eqb (get_or (map key xs) at.0 (key y)) (key x) (at.2 ∙ sym same))) ∙ absent)

    -- an item that passes a test is found by its number, where no number is there twice
    pub contained_found : (xs : List A) (y : A) → AreDistinct (map key xs) → Contains xs y → test y ≡ true → find (λ x. nat_eq (key x) (key y) && test x) xs ≡ Some y
    contained_found [] y distinct among passes = absurd (omega (arith, among.1))
    contained_found (x ∷ xs) y distinct among passes =
        let by : Bool → Option A = λ found. cond found (Some x) (find (λ z. nat_eq (key z) (key y) && test z) xs) in
        elim (first_or_later x xs y among) [
          | inl first ↦ ap by (and_from (nat_eq (key x) (key y)) (test x) (eq-eqb (key x) (key y) (ap key first)) (ap test first ∙ passes)) ∙ ap Some first
          | inr later ↦ ap by (and_left (nat_eq (key x) (key y)) (test x) (ne_eqb (key x) (key y) (λ same. number_absent x xs y distinct.0 later same))) ∙ contained_found xs y distinct.1 later passes
        ]

-- the numbers below an end are among them all
pub index_contained : (n k : ℕ) → k < n → Contains (range_with_len 0 n) k
index_contained n k low = (k, rw (length-range_with_len 0 n) low, get_or-range_with_len 0 n k k low ∙ zero-add k)
