-- The number of arguments of a line `fn`.
use Rattle.std.proofs.Common.{◌≡◌, ℕ, ◌-◌, max, length, arith}
use Rattle.std.proofs.lemmas.List.{length-replicate}
use Rattle.pct_model.specs.declared.line_kind.ArgumentKind.TheVariants.{Local}
use Rattle.pct_model.specs.LineKinds.{fn_argument_kinds}

pub length_of_fn_argument_kinds : (n : ℕ) → length (fn_argument_kinds n) ≡ max n 2
length_of_fn_argument_kinds n = omega (arith, length-replicate (n - 2) Local)
