-- The fork handler that is called next: the first of those among indexes.
use Rattle.pct_names.proofs.Names.{◌+◌, ◌++◌, ◌-◌, ◌<◌, [], ap, arith, ForkHandlers, handler_at, HandlerCall, handlers_among, List, None}
use Rattle.pct_names.proofs.Names.{Option, Phase, range_with_len, refl, reverse, reverse-append, slice_get, Some, suc, zero, ℕ, ◌∙◌, ◌∷◌}
use Rattle.pct_names.proofs.Names.{◌≡◌}

-- ---- indexes

-- the last of a range of numbers
range_more : (a n k : ℕ) → a + n ≡ k → range_with_len a (suc n) ≡ range_with_len a n ++ k ∷ []
range_more a zero k is = let same : a ≡ k = omega (arith, is) in ap (λ (j : ℕ). j ∷ []) same
range_more a (suc n) k is = let next : a + 1 + n ≡ k = omega (arith, is) in ap (λ (ks : List ℕ). a ∷ ks) (range_more (a + 1) n k next)

-- the indexes below a number, the greatest first
pub downwards : (n : ℕ) → 0 < n → reverse (range_with_len 0 n) ≡ (n - 1) ∷ reverse (range_with_len 0 (n - 1))
downwards n some =
    let more : n ≡ suc (n - 1) = omega (arith, some) in
    let last : 0 + (n - 1) ≡ n - 1 = omega arith in
    ap (λ (k : ℕ). reverse (range_with_len 0 k)) more ∙ ap (λ (ks : List ℕ). reverse ks) (range_more 0 (n - 1) (n - 1) last) ∙ reverse-append (range_with_len 0 (n - 1)) ((n - 1) ∷ [])

-- the indexes from a number on, below an end
pub upwards : (n end : ℕ) → n < end → range_with_len n (end - n) ≡ n ∷ range_with_len (n + 1) (end - (n + 1))
upwards n end below =
    let left : end - n ≡ suc (end - (n + 1)) = omega (arith, below) in
    ap (λ (k : ℕ). range_with_len n k) left

-- ---- handlers

module _ (phase : Phase) (registered : List ForkHandlers) where
  -- the first handler of the phase in the registrations with these indexes
  abbrev pub first_handler : List ℕ → Option HandlerCall
  first_handler indexes = slice_get (handlers_among phase registered indexes) 0

  -- a registration without one is passed over
  pub passes_over : (index : ℕ) (rest : List ℕ) → handler_at phase registered index ≡ None → first_handler (index ∷ rest) ≡ first_handler rest
  passes_over index rest none = rw none refl

  -- one that has a handler comes first
  pub finds : (index f : ℕ) (rest : List ℕ) → handler_at phase registered index ≡ Some f → first_handler (index ∷ rest) ≡ Some (record { index = index; func = f })
  finds index f rest is = rw is refl
