-- Lemmas on counts of errors.
use Rattle.std.proofs.Common.{◌≡◌, ℕ, subst}
use Rattle.pct_io.specs.ErrorCounts.{Rose}

-- a count that stayed as it was and then rose
pub Rose-unchanged : (before mid now : ℕ) → mid ≡ before → Rose mid now → Rose before now
Rose-unchanged before mid now same rose = subst (λ count. Rose count now) same rose
