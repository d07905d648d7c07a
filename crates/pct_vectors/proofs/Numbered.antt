-- Items for the numbers from 1 on.
use Rattle.pct_names.proofs.Names.{◌+◌, ◌++◌, ◌-◌, ◌<◌, [], and_parts, ap, arith, Bool, cases_order, inl, inr, List, list_all, map}
use Rattle.pct_names.proofs.Names.{map-range_with_len_more, range_with_len, refl, suc, sym, true, zero, ℕ, ◌∙◌, ◌∷◌, ◌≡◌, ◌≤◌}
use Rattle.std.proofs.lemmas.List.{append_assoc}

-- the items for the numbers below n
abbrev pub below : {X : Type 0} → (ℕ → X) → ℕ → List X
below f n = map f (range_with_len 1 (n - 1))

-- and one more
pub below-more : {X : Type 0} (f : ℕ → X) (n : ℕ) → 1 ≤ n → below f (n + 1) ≡ below f n ++ f n ∷ []
below-more f n from =
    let more : n + 1 - 1 ≡ (n - 1) + 1 = omega (arith, from) in
    let last : 1 + (n - 1) ≡ n = omega (arith, from) in
    ap (λ (m : ℕ). map f (range_with_len 1 m)) more ∙ map-range_with_len_more f 1 (n - 1) n last

-- one more item after those that were there
pub after-more : {X : Type 0} (f : ℕ → X) (old items : List X) (n : ℕ) → 1 ≤ n → items ≡ old ++ below f n → items ++ f n ∷ [] ≡ old ++ below f (n + 1)
after-more f old items n from is =
    ap (λ xs. xs ++ f n ∷ []) is ∙ append_assoc old (below f n) (f n ∷ []) ∙ ap (λ xs. old ++ xs) (sym (below-more f n from))

-- what holds of each of these numbers
pub at_each : (p : ℕ → Bool) (first n k : ℕ) → list_all p (range_with_len first n) ≡ true → first ≤ k → k < first + n → p k ≡ true
at_each p first zero k all from within = absurd (omega (arith, from, within))
at_each p first (suc n) k all from within =
    let parts = and_parts (p first) (list_all p (range_with_len (first + 1) n)) all in
    elim (cases_order first k) [
      | inl same ↦ ap p (sym same) ∙ parts.0
      | inr (inl later) ↦ at_each p (first + 1) n k parts.1 (omega (arith, later)) (omega (arith, within))
      | inr (inr earlier) ↦ absurd (omega (arith, from, earlier))
    ]

-- items that are the same for each of these numbers
pub same_each : {X : Type 0} (f g : ℕ → X) (first n : ℕ) → ((k : ℕ) → first ≤ k → k < first + n → f k ≡ g k) → map f (range_with_len first n) ≡ map g (range_with_len first n)
same_each f g first zero same = refl
same_each f g first (suc n) same =
    ap (λ x. x ∷ map f (range_with_len (first + 1) n)) (same first (omega arith) (omega arith))
    ∙ ap (λ xs. g first ∷ xs) (same_each f g (first + 1) n (λ k from within. same k (omega (arith, from)) (omega (arith, within))))
