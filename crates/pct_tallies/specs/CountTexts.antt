-- Numbers of 64 bits as the code reads them. No public clause cites this file.
use Rattle.std.specs.Prelude.{ℕ, Bool, false, if◌then◌else◌, List, [], ◌∷◌, Option, Some, None, nat_eq}
use Rattle.std.specs.Str.Parse.{digits_value}
use Rattle.pct_model.specs.declared.run_options.RunOption.TheVariants as option
use Rattle.pct_model.specs.RunOptions.{is_value}

-- the word begins with the digit 0, and has more bytes
abbrev pub has_leading_zero : List ℕ → Bool
has_leading_zero (b ∷ next ∷ bytes) = nat_eq b 48
has_leading_zero (b ∷ []) = false
has_leading_zero [] = false

-- the number that 1 to 20 digits write, if it has at most 64 bits
abbrev pub value_of : List ℕ → Option ℕ
value_of word = if is_value option.Seed word then Some (digits_value 10 word) else None
