-- The rows of the seeds of a range, and one more.
use Rattle.std.proofs.Common.{◌≡◌, ℕ, zero, suc, ◌+◌, ◌++◌, List, [], ◌∷◌, arith, subst, sym}
use Rattle.std.specs.List.{AllZip, range_with_len}

module _ {Y : Type 0} (R : ℕ → Y → Type 0) (y : Y) where
  one_more : (first count : ℕ) (ys : List Y) → AllZip R (range_with_len first count) ys → R (first + count) y → AllZip R (range_with_len first (suc count)) (ys ++ y ∷ [])
  one_more first zero [] each here = (subst (λ (n : ℕ). R n y) (omega arith) here, tt)
  one_more first zero (x ∷ ys) each here = absurd each
  one_more first (suc count) [] each here = absurd each
  one_more first (suc count) (x ∷ ys) each here = (each.0, one_more (first + 1) count ys each.1 (subst (λ (n : ℕ). R n y) (omega arith) here))

  pub longer_rows : (first count more : ℕ) (ys : List Y) → AllZip R (range_with_len first count) ys → R (first + count) y → more ≡ suc count → AllZip R (range_with_len first more) (ys ++ y ∷ [])
  longer_rows first count more ys each here is = subst (λ (n : ℕ). AllZip R (range_with_len first n) (ys ++ y ∷ [])) (sym is) (one_more first count ys each here)
