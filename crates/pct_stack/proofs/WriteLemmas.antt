-- Rows and words after a row or a word is written.
use Rattle.std.proofs.Common.{◌≡◌, ℕ, ◌<◌, ◌≢◌, List, [], length, get_or, set, ap, ◌∙◌, sym, subst, inl, inr, arith}
use Rattle.std.proofs.lemmas.Bool.{cases_eq, cases_lt}
use Rattle.std.proofs.lemmas.List.{length-set, get_or-set_same, get_or-set_other, set_past}
use Rattle.pct_stack.specs.Rows.{Rows, row_at, word_at, with_row, with_word}
use Rattle.pct_stack.specs.Links.{AreEven}

module _ (grid : Rows) (row : ℕ) where
  pub row_at-with_same : (words : List ℕ) → row < length grid.rows → row_at (with_row row words grid) row ≡ words
  row_at-with_same words inside = get_or-set_same grid.rows row words [] inside

  pub row_at-with_other : (words : List ℕ) (s : ℕ) → s ≢ row → row_at (with_row row words grid) s ≡ row_at grid s
  row_at-with_other words s other = get_or-set_other grid.rows row s words [] other

  pub length-with_row : (words : List ℕ) → length (with_row row words grid).rows ≡ length grid.rows
  length-with_row words = length-set grid.rows row words

  -- rows stay even
  pub even-with_row : (words : List ℕ) → AreEven grid → length words ≡ grid.width → AreEven (with_row row words grid)
  even-with_row words even long s inside = elim (cases_eq s row) [
    | inl same ↦ subst (λ (k : ℕ). length (row_at (with_row row words grid) k) ≡ grid.width) (sym same) (ap length (row_at-with_same words (omega (arith, inside, same, length-with_row words))) ∙ long)
    | inr other ↦ ap length (row_at-with_other words s other) ∙ even s (omega (arith, inside, length-with_row words))
  ]

  pub even-with_word : (i value : ℕ) → AreEven grid → AreEven (with_word row i value grid)
  even-with_word i value even s inside =
      let words : List ℕ = set (row_at grid row) i value in
      elim (cases_eq s row) [
        | inl same ↦
            let there : row < length grid.rows = omega (arith, inside, same, length-with_row words) in
            subst (λ (k : ℕ). length (row_at (with_row row words grid) k) ≡ grid.width) (sym same) (ap length (row_at-with_same words there) ∙ length-set (row_at grid row) i value ∙ even row there)
        | inr other ↦ ap length (row_at-with_other words s other) ∙ even s (omega (arith, inside, length-with_row words))
      ]

  pub word_at-same : (i value : ℕ) → row < length grid.rows → i < length (row_at grid row) → word_at (with_word row i value grid) row i ≡ value
  word_at-same i value inside small = ap (λ (r : List ℕ). get_or r i 0) (row_at-with_same (set (row_at grid row) i value) inside) ∙ get_or-set_same (row_at grid row) i value 0 small

  pub word_at-other_row : (i value s j : ℕ) → s ≢ row → word_at (with_word row i value grid) s j ≡ word_at grid s j
  word_at-other_row i value s j other = ap (λ (r : List ℕ). get_or r j 0) (row_at-with_other (set (row_at grid row) i value) s other)

  pub word_at-other : (i value s j : ℕ) → j ≢ i → word_at (with_word row i value grid) s j ≡ word_at grid s j
  word_at-other i value s j other = elim (cases_eq s row) [
    | inr differs ↦ word_at-other_row i value s j differs
    | inl same ↦ elim (cases_lt row (length grid.rows)) [
      | inl inside ↦
          subst (λ (k : ℕ). word_at (with_word row i value grid) k j ≡ word_at grid k j) (sym same)
          (ap (λ (r : List ℕ). get_or r j 0) (row_at-with_same (set (row_at grid row) i value) inside) ∙ get_or-set_other (row_at grid row) i j value 0 other)
      | inr past ↦ ap (λ (rows : List (List ℕ)). get_or (get_or rows s []) j 0) (set_past grid.rows row (set (row_at grid row) i value) past)
    ]
  ]
