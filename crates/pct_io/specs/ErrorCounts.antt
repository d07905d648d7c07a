-- Counts of errors, which stop at 18446744073709551615, the last value of their type.
use Rattle.std.specs.Prelude.{◌≡◌, ℕ, ◌+◌, ◌-◌, ◌^◌, min, max, Result, OnOk, OnErr}

-- one more, but not beyond the last value
abbrev pub raised : ℕ → ℕ
raised count = max count (min (count + 1) (2 ^ 64 - 1))

-- the count rose by exactly one, or stayed at the last value
abbrev pub Rose : ℕ → ℕ → Type 0
Rose before now = now ≡ raised before

-- a call that succeeded left the count as it was, and a call that failed raised it by one
pub record HasCause {T E : Type 0} (before now : ℕ) (result : Result T E) : Type 0 where
  pub ok : OnOk result (now ≡ before)
  pub err : OnErr result (Rose before now)
