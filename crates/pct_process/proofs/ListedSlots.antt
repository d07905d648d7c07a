-- The places of a list whose elements pass a test, as slots.
use Rattle.pct_names.proofs.Names.{◌&&◌, ◌||◌, ◌+◌, ◌≡◌, ◌≤◌, ◌∙◌, ◌∷◌, [], ap, arith, Bool, cond, false, filter, get_or, is_some, length, List}
use Rattle.pct_names.proofs.Names.{list_any, not, range_with_len, refl, slice_get, suc, true, zero, ℕ}
use Rattle.pct_set.specs.Slots.{slots_where, difference_of}
use Rattle.pct_set.proofs.SlotLemmas.{slots_agree, has_where}

module _ {X : Type 0} (test : X → Bool) (d : X) (fails : test d ≡ false) where
  some_from : (passes : ℕ → Bool) (xs : List X) (a n : ℕ) → length xs ≤ n → ((i j : ℕ) → a + i ≡ j → passes j ≡ test (get_or xs i d)) → is_some (slice_get (filter passes (range_with_len a n)) 0) ≡ list_any test xs
  some_from passes [] a zero few are = refl
  some_from passes (x ∷ xs) a zero few are = absurd (omega (arith, few))
  some_from passes [] a (suc n) few are =
      ap (λ (b : Bool). is_some (slice_get (cond b (a ∷ filter passes (range_with_len (a + 1) n)) (filter passes (range_with_len (a + 1) n))) 0)) (are 0 a (omega arith) ∙ fails)
      ∙ some_from passes [] (a + 1) n (omega arith) (λ i j is. are (suc i) j (omega (arith, is)))
  some_from passes (x ∷ xs) a (suc n) few are =
      ap (λ (b : Bool). is_some (slice_get (cond b (a ∷ filter passes (range_with_len (a + 1) n)) (filter passes (range_with_len (a + 1) n))) 0)) (are 0 a (omega arith))
      ∙ by (test x) (some_from passes xs (a + 1) n (omega (arith, few)) (λ i j is. are (suc i) j (omega (arith, is)))) where
        by : (b : Bool) → is_some (slice_get (filter passes (range_with_len (a + 1) n)) 0) ≡ list_any test xs → is_some (slice_get (cond b (a ∷ filter passes (range_with_len (a + 1) n)) (filter passes (range_with_len (a + 1) n))) 0) ≡ (b || list_any test xs)
        by true rest = refl
        by false rest = rest

  -- an element passes if there is a place
  pub some_slot : (xs : List X) → length xs ≤ 64 → is_some (slice_get (slots_where (λ k. test (get_or xs k d))) 0) ≡ list_any test xs
  unfolding slots_where
  some_slot xs few = some_from (λ k. test (get_or xs k d)) xs 0 64 few (λ i j is. ap (λ (k : ℕ). test (get_or xs k d)) (omega (arith, is)))

-- `minus` of the sets by two tests
pub difference-where : (p q : ℕ → Bool) → difference_of (slots_where p) (slots_where q) ≡ slots_where (λ k. p k && not (q k))
difference-where p q = slots_agree _ _ (λ k small. (λ i. has_where p k small i && not (has_where q k small i)))
