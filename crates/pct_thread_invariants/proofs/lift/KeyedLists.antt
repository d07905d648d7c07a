-- Lists whose items have numbers: look-up by number, and changes that keep the numbers.
use Rattle.pct_names.proofs.Names.{◌&&◌, ◌++◌, [], and_left, and_parts, ap, ap₂, Bool, cond, eqb-false, false, false≢true, filter, find}
use Rattle.pct_names.proofs.Names.{find_at, flat_map, get_or_from_slice_get, inl, inr, length, List, list_all, list_all_at, list_any}
use Rattle.pct_names.proofs.Names.{list_any-append, map, nat_eq, None, none-some, Option, option_map, or_from, or_parts, passes_at_first}
use Rattle.pct_names.proofs.Names.{position_or_len, refl, same_Some, slice_get, slice_get_within, Some, subst, suc, sym, true}
use Rattle.pct_names.proofs.Names.{true_from_ne_false, zero, ◌||◌, ℕ, ◌∙◌, ◌∷◌, ◌≡◌, ◌⊎◌, ⊤}
use Rattle.std.proofs.Common.{append-nil, eqb-true, ne_eqb}
use Rattle.std.proofs.lemmas.Bool.{true≢false}

-- ---- numbers

-- no number is in the list twice
abbrev pub AreDistinct : List ℕ → Type 0
AreDistinct [] = ⊤
AreDistinct (n ∷ ns) = (list_any (λ m. nat_eq m n) ns ≡ false) × AreDistinct ns

-- numbers and one more, which is not among them
pub distinct_push : (ns : List ℕ) (n : ℕ) → list_any (λ m. nat_eq m n) ns ≡ false → AreDistinct ns → AreDistinct (ns ++ n ∷ [])
distinct_push [] n absent distinct = (refl, tt)
distinct_push (m ∷ ns) n absent distinct =
    let parts : (nat_eq m n ≡ false) × (list_any (λ k. nat_eq k n) ns ≡ false) = or_parts (nat_eq m n) (list_any (λ k. nat_eq k n) ns) absent in
    let other : nat_eq n m ≡ false = ne_eqb n m (λ same. eqb-false m n parts.0 (sym same)) in (
      list_any-append (λ k. nat_eq k m) ns (n ∷ []) ∙ or_from (list_any (λ k. nat_eq k m) ns) (nat_eq n m || false) distinct.0 (or_from (nat_eq n m) false other refl),
      distinct_push ns n parts.1 distinct.1,
    )

-- ---- look-up

-- the item that is found, at its index
pub found_at : {A : Type 0} (test : A → Bool) (xs : List A) (y : A) → find test xs ≡ Some y → slice_get xs (position_or_len test xs) ≡ Some y
found_at test xs y is = sym (find_at test xs) ∙ is

-- it passes the test
pub found_passes : {A : Type 0} (test : A → Bool) (xs : List A) (y : A) → find test xs ≡ Some y → test y ≡ true
found_passes test xs y is =
    let at = found_at test xs y is in
    subst (λ z. test z ≡ true) (get_or_from_slice_get xs (position_or_len test xs) y y at) (passes_at_first test xs y (slice_get_within xs (position_or_len test xs) y at))

-- an item of a list in which all pass
pub item_passes : {A : Type 0} (p : A → Bool) (xs : List A) (i : ℕ) (x : A) → list_all p xs ≡ true → slice_get xs i ≡ Some x → p x ≡ true
item_passes p xs i x all at =
    true_from_ne_false (p x) (λ fails. true≢false (sym all ∙ list_all_at p xs i x (slice_get_within xs i x at) (ap p (get_or_from_slice_get xs i x x at) ∙ fails)))

module _ {A : Type 0} (key : A → ℕ) where
  -- the first item with a number
  abbrev item_with : ℕ → List A → Option A
  item_with n xs = find (λ x. nat_eq (key x) n) xs

  -- where no item has a number, none is found
  pub not_found : (n : ℕ) (xs : List A) → list_any (λ m. nat_eq m n) (map key xs) ≡ false → item_with n xs ≡ None
  not_found n [] absent = refl
  not_found n (x ∷ xs) absent =
      let parts = or_parts (nat_eq (key x) n) (list_any (λ m. nat_eq m n) (map key xs)) absent in
      ap (λ b. cond b (Some x) (item_with n xs)) parts.0 ∙ not_found n xs parts.1

  only_one_by : (live : Bool) (n : ℕ) (x y : A) (xs : List A) (same : Bool) (rest : Option A) → nat_eq (key x) n ≡ same → list_any (λ m. nat_eq m (key x)) (map key xs) ≡ false
      → (rest ≡ Some y → item_with n xs ≡ Some y) → cond (same && live) (Some x) rest ≡ Some y → cond same (Some x) (item_with n xs) ≡ Some y
  only_one_by true n x y xs true rest same distinct later is = is
  only_one_by false n x y xs true rest same distinct later is =
      absurd (none-some y (sym (not_found n xs (subst (λ (k : ℕ). list_any (λ m. nat_eq m k) (map key xs) ≡ false) (eqb-true (key x) n same) distinct)) ∙ later is))
  only_one_by live n x y xs false rest same distinct later is = later is

  -- where no number is there twice, the item that has a number and passes a test is the one that has the number
  pub only_one : (test : A → Bool) (n : ℕ) (xs : List A) (y : A) → AreDistinct (map key xs) → find (λ x. nat_eq (key x) n && test x) xs ≡ Some y → item_with n xs ≡ Some y
  only_one test n [] y distinct is = absurd (none-some y is)
  only_one test n (x ∷ xs) y distinct is =
      only_one_by (test x) n x y xs (nat_eq (key x) n) (find (λ z. nat_eq (key z) n && test z) xs) refl distinct.0 (only_one test n xs y distinct.1) is

  -- ---- lists made of items

  module _ {B : Type 0} (made : A → List B) (test : A → Bool) (n : ℕ) (nothing : (x : A) → (nat_eq (key x) n && test x) ≡ false → made x ≡ []) where
    none_give : (xs : List A) → list_any (λ m. nat_eq m n) (map key xs) ≡ false → flat_map made xs ≡ []
    none_give [] absent = refl
    none_give (x ∷ xs) absent =
        let parts = or_parts (nat_eq (key x) n) (list_any (λ m. nat_eq m n) (map key xs)) absent in
        ap₂ (λ (first rest : List B). first ++ rest) (nothing x (and_left (nat_eq (key x) n) (test x) parts.0)) (none_give xs parts.1)

    one_gives_by : (x y : A) (xs : List A) (passes : Bool) → (nat_eq (key x) n && test x) ≡ passes → list_any (λ m. nat_eq m (key x)) (map key xs) ≡ false
        → (find (λ z. nat_eq (key z) n && test z) xs ≡ Some y → flat_map made xs ≡ made y) → cond passes (Some x) (find (λ z. nat_eq (key z) n && test z) xs) ≡ Some y → (made x ++ flat_map made xs) ≡ made y
    one_gives_by x y xs true passes absent later is =
        let same : key x ≡ n = eqb-true (key x) n (and_parts (nat_eq (key x) n) (test x) passes).0 in
        ap₂ (λ (first rest : List B). first ++ rest) (ap made (same_Some x y is)) (none_give xs (subst (λ (k : ℕ). list_any (λ m. nat_eq m k) (map key xs) ≡ false) same absent)) ∙ append-nil (made y)
    one_gives_by x y xs false fails absent later is = ap (λ (first : List B). first ++ flat_map made xs) (nothing x fails) ∙ later is

    -- where no number is there twice, and only an item that has a number and passes a test makes something
    pub only_one_gives : (xs : List A) (y : A) → AreDistinct (map key xs) → find (λ x. nat_eq (key x) n && test x) xs ≡ Some y → flat_map made xs ≡ made y
    only_one_gives [] y distinct is = absurd (none-some y is)
    only_one_gives (x ∷ xs) y distinct is = one_gives_by x y xs (nat_eq (key x) n && test x) refl distinct.0 (only_one_gives xs y distinct.1) is

  -- an item with a number, at its index in a list
  abbrev IsAt : ℕ → List A → Type 0
  IsAt n xs = (k : ℕ) × (x : A) × (slice_get xs k ≡ Some x) × (key x ≡ n)

  index_by : (n : ℕ) (x : A) (kept : List A) (same passes rest : Bool) → nat_eq (key x) n ≡ same → (same ≡ true → passes ≡ true) → (rest ≡ true → IsAt n kept) → (same || rest) ≡ true → IsAt n (cond passes (x ∷ kept) kept)
  index_by n x kept true true rest same passes later among = (0, x, refl, eqb-true (key x) n same)
  index_by n x kept true false rest same passes later among = absurd (false≢true (passes refl))
  index_by n x kept false true rest same passes later among = let at = later among in (suc at.0, at.1, at.2, at.3)
  index_by n x kept false false rest same passes later among = later among

  -- an item with a number is among those that pass a test, if each with this number passes
  pub index_among : (test : A → Bool) (n : ℕ) → ((x : A) → nat_eq (key x) n ≡ true → test x ≡ true) → (xs : List A) → list_any (λ m. nat_eq m n) (map key xs) ≡ true → IsAt n (filter test xs)
  index_among test n passes [] among = absurd (false≢true among)
  index_among test n passes (x ∷ xs) among =
      index_by n x (filter test xs) (nat_eq (key x) n) (test x) (list_any (λ m. nat_eq m n) (map key xs)) refl (passes x) (index_among test n passes xs) among

  -- ---- changes

  module _ (change : A → A) (same : (x : A) → key (change x) ≡ key x) where
    pub keys_changed : (xs : List A) → map key (map change xs) ≡ map key xs
    keys_changed [] = refl
    keys_changed (x ∷ xs) = λ i. same x i ∷ keys_changed xs i

    changed_by : (b : Bool) (x : A) (rest : Option A) → cond b (Some (change x)) (option_map change rest) ≡ option_map change (cond b (Some x) rest)
    changed_by true x rest = refl
    changed_by false x rest = refl

    -- the item with a number, of a changed list
    pub item_changed : (n : ℕ) (xs : List A) → item_with n (map change xs) ≡ option_map change (item_with n xs)
    item_changed n [] = refl
    item_changed n (x ∷ xs) =
        ap (λ k. cond (nat_eq k n) (Some (change x)) (item_with n (map change xs))) (same x)
        ∙ ap (λ rest. cond (nat_eq (key x) n) (Some (change x)) rest) (item_changed n xs)
        ∙ changed_by (nat_eq (key x) n) x (item_with n xs)

-- ---- filters

filtered_by : {A : Type 0} (change : A → A) (b : Bool) (x : A) (kept : List A) → cond b (change x ∷ map change kept) (map change kept) ≡ map change (cond b (x ∷ kept) kept)
filtered_by change true x kept = refl
filtered_by change false x kept = refl

-- a filter of a changed list, by a test that the change keeps
pub filter_changed : {A : Type 0} (test : A → Bool) (change : A → A) → ((x : A) → test (change x) ≡ test x) → (xs : List A) → filter test (map change xs) ≡ map change (filter test xs)
filter_changed test change same [] = refl
filter_changed {A} test change same (x ∷ xs) =
    ap (λ b. cond b (change x ∷ filter test (map change xs)) (filter test (map change xs))) (same x)
    ∙ ap (λ (kept : List A). cond (test x) (change x ∷ kept) kept) (filter_changed test change same xs)
    ∙ filtered_by change (test x) x (filter test xs)

-- an item of a list that may have one more
pub item_pushed : {A : Type 0} (xs : List A) (y : A) (more : Bool) (k : ℕ) (x : A) → slice_get (xs ++ cond more (y ∷ []) []) k ≡ Some x → (slice_get xs k ≡ Some x) ⊎ ((more ≡ true) × (k ≡ length xs) × (y ≡ x))
item_pushed [] y true zero x is = inr (refl, refl, same_Some y x is)
item_pushed [] y true (suc k) x is = absurd (none-some x is)
item_pushed [] y false k x is = absurd (none-some x is)
item_pushed (z ∷ xs) y more zero x is = inl is
item_pushed (z ∷ xs) y more (suc k) x is = elim (item_pushed xs y more k x is) [
  | inl here ↦ inl here
  | inr new ↦ inr (new.0, ap suc new.1, new.2)
]

-- ---- options

-- what a mapped option was before
pub mapped_some : {A B : Type 0} (f : A → B) (o : Option A) (y : B) → option_map f o ≡ Some y → (x : A) × (o ≡ Some x) × (f x ≡ y)
mapped_some f None y is = absurd (none-some y is)
mapped_some f (Some x) y is = (x, refl, same_Some (f x) y is)
