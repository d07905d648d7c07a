-- The places that pass a test, found by a scan.
use Rattle.pct_names.proofs.Names.{◌+◌, ◌-◌, ◌<◌, [], ap, arith, Bool, cond, due_places, false, filter, free_places, from_bool, is_due}
use Rattle.pct_names.proofs.Names.{is_left, is_none, key_at, KeyPlace, KeyValues, le_refl, left_places, length, List, MAX_KEYS, None, not, Option}
use Rattle.pct_names.proofs.Names.{range_with_len, refl, slice_get, Some, suc, sym, true, zero, ℕ, ◌∙◌, ◌∷◌, ◌≡◌, ◌≤◌}

-- the places from a place on that pass the test
unfoldable pub places_from : (ℕ → Bool) → ℕ → List ℕ
places_from test place = filter test (range_with_len place (MAX_KEYS - place))

pub free-start : (places : List KeyPlace) → places_from (λ place. is_none (key_at places place)) 0 ≡ free_places places
unfolding places_from free_places
free-start places = refl

pub due-start : (places : List KeyPlace) (own : KeyValues) → places_from (is_due places own) 0 ≡ due_places places own
unfolding places_from due_places
due-start places own = refl

pub left-start : (places : List KeyPlace) (own : KeyValues) → places_from (is_left places own) 0 ≡ left_places places own
unfolding places_from left_places
left-start places own = refl

filter-fails : (test : ℕ → Bool) (first n : ℕ) → ((i : ℕ) → first ≤ i → test i ≡ false) → filter test (range_with_len first n) ≡ []
filter-fails test first zero fails = refl
filter-fails test first (suc n) fails =
    let rest : List ℕ = filter test (range_with_len (first + 1) n) in
    ap (λ passes. cond passes (first ∷ rest) rest) (fails first (le_refl first)) ∙ filter-fails test (first + 1) n (λ i later. fails i (omega (arith, later)))

module _ (test : ℕ → Bool) where
  -- no place from this one on passes the test
  places_from-none : (place : ℕ) → ((i : ℕ) → place ≤ i → test i ≡ false) → places_from test place ≡ []
  unfolding places_from
  places_from-none place fails = filter-fails test place (MAX_KEYS - place) fails

  places_from-end : (place : ℕ) → MAX_KEYS ≤ place → places_from test place ≡ []
  unfolding places_from
  places_from-end place past = let none : MAX_KEYS - place ≡ 0 = omega arith in ap (λ n. filter test (range_with_len place n)) none

  -- one place more, which passes the test or not
  places_from-step : (place : ℕ) (b : Bool) → place < MAX_KEYS → test place ≡ b → places_from test place ≡ cond b (place ∷ places_from test (place + 1)) (places_from test (place + 1))
  unfolding places_from
  places_from-step place b within is =
      let more : MAX_KEYS - place ≡ suc (MAX_KEYS - (place + 1)) = omega arith in
      let rest : List ℕ = filter test (range_with_len (place + 1) (MAX_KEYS - (place + 1))) in
      ap (λ n. filter test (range_with_len place n)) more ∙ ap (λ t. cond t (place ∷ rest) rest) is

  -- ---- the number of places

  -- n is what a place adds to the number
  pub count-step : (place count n total : ℕ) (b : Bool) → place < MAX_KEYS → b ≡ test place → n ≡ from_bool b → count + length (places_from test place) ≡ total → (n ≤ 1) × (count + n + length (places_from test (place + 1)) ≡ total)
  count-step place count n total true within is adds so_far = (omega arith, omega (arith, ap length (places_from-step place true within (sym is))))
  count-step place count n total false within is adds so_far = (omega arith, omega (arith, ap length (places_from-step place false within (sym is))))

  pub count-end : (place count total : ℕ) → MAX_KEYS ≤ place → count + length (places_from test place) ≡ total → count ≡ total
  count-end place count total past so_far = omega (arith, ap length (places_from-end place past))

  -- no place is left that passes the test
  pub count-rest : (place end count total : ℕ) → end ≤ place → ((i : ℕ) → end ≤ i → test i ≡ false) → count + length (places_from test place) ≡ total → count ≡ total
  count-rest place end count total past fails so_far = omega (arith, ap length (places_from-none place (λ i later. fails i (omega (arith, past, later)))), so_far)

  -- the number of places that do not pass the test
  pub others-step : (place count n total : ℕ) (b : Bool) → place < MAX_KEYS → not b ≡ test place → n ≡ from_bool b → count + total ≡ place + length (places_from test place) → (n ≤ 1) × (count + n + total ≡ place + 1 + length (places_from test (place + 1)))
  others-step place count n total true within is adds so_far = (omega arith, omega (arith, ap length (places_from-step place false within (sym is))))
  others-step place count n total false within is adds so_far = (omega arith, omega (arith, ap length (places_from-step place true within (sym is))))

  pub others-end : (place count total : ℕ) → place ≡ MAX_KEYS → count + total ≡ place + length (places_from test place) → count + total ≡ MAX_KEYS
  others-end place count total past so_far = omega (arith, ap length (places_from-end place (omega arith)))

  -- ---- the place at an index

  -- the scan passes a place that fails the test
  pub nth-miss : (place rest : ℕ) (found : Option ℕ) → place < MAX_KEYS → test place ≡ false → slice_get (places_from test place) rest ≡ found → slice_get (places_from test (place + 1)) rest ≡ found
  nth-miss place rest found within is so_far = sym (ap (λ xs. slice_get xs rest) (places_from-step place false within is)) ∙ so_far

  -- the scan passes a place that passes the test
  pub nth-hit : (place rest : ℕ) (found : Option ℕ) → place < MAX_KEYS → test place ≡ true → 0 < rest → slice_get (places_from test place) rest ≡ found → slice_get (places_from test (place + 1)) (rest - 1) ≡ found
  nth-hit place rest found within is some so_far =
      let later : rest ≡ suc (rest - 1) = omega arith in
      sym (ap (λ n. slice_get (place ∷ places_from test (place + 1)) n) later) ∙ sym (ap (λ xs. slice_get xs rest) (places_from-step place true within is)) ∙ so_far

  -- the scan finds the place
  pub nth-found : (place rest : ℕ) (found : Option ℕ) → place < MAX_KEYS → test place ≡ true → rest ≡ 0 → slice_get (places_from test place) rest ≡ found → Some place ≡ found
  nth-found place rest found within is none so_far =
      sym (ap (λ n. slice_get (place ∷ places_from test (place + 1)) n) none) ∙ sym (ap (λ xs. slice_get xs rest) (places_from-step place true within is)) ∙ so_far

  -- the scan finds none
  pub nth-end : (place rest : ℕ) (found : Option ℕ) → MAX_KEYS ≤ place → slice_get (places_from test place) rest ≡ found → None ≡ found
  nth-end place rest found past so_far = sym (ap (λ xs. slice_get xs rest) (places_from-end place past)) ∙ so_far

  -- no place is left that passes the test
  pub nth-rest : (place end rest : ℕ) (found : Option ℕ) → end ≤ place → ((i : ℕ) → end ≤ i → test i ≡ false) → slice_get (places_from test place) rest ≡ found → None ≡ found
  nth-rest place end rest found past fails so_far =
      sym (ap (λ xs. slice_get xs rest) (places_from-none place (λ i later. fails i (omega (arith, past, later))))) ∙ so_far
