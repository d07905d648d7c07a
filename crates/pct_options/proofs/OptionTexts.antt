-- The value of an option is that of its text.
use Rattle.pct_names.proofs.Names.{◌&&◌, ◌<◌, [], ◌^◌, arith, Bool, cond, digits_value, Err, false, false≢true, greatest_value, is_digit}
use Rattle.pct_names.proofs.Names.{is_empty, IsNumeralModel, least_value, length, List, list_all, nat_le, None, not, numerals_by_value, Ok}
use Rattle.pct_names.proofs.Names.{OkIff, Option, option_and_then, parse_digits, ParsesUnsigned, refl, Result, result_ok, rules, RunOption}
use Rattle.pct_names.proofs.Names.{Some, true, ℕ, ◌∷◌, ◌≡◌, ◌≤◌}
use Rattle.std.proofs.Common.{leb-true, le-leb}
use Rattle.pct_model.specs.declared.run_options.RunOption.TheVariants as option
use Rattle.pct_model.specs.RunOptions.{is_value}
use Rattle.pct_options.specs.OptionTexts.{written_number, number_of, in_range, value_of}

-- texts of digits are the numerals
digits : IsNumeralModel (λ ds. list_all is_digit ds ≡ true) (digits_value 10)
digits = numerals_by_value _ (search rules)

-- a number of more than 64 bits
too_large : (n : ℕ) (fits : Bool) → nat_le n 18446744073709551615 ≡ fits → ¬ (n < 2 ^ 64) → None ≡ cond fits (Some n) None
too_large n true is large = absurd (large (omega (arith, leb-true n 18446744073709551615 is)))
too_large n false is large = refl

-- the number of digits, as it is parsed
parsed : {E : Type 0} (text : List ℕ) (r : Result ℕ E) → OkIff r ((0 < length text) × (digits_value 10 text < 2 ^ 64)) (digits_value 10 text) → result_ok r ≡ written_number text
parsed [] (Ok n) h = absurd (omega (arith, h.0.0))
parsed [] (Err e) h = refl
parsed (d ∷ ds) (Ok n) h = rw (le-leb (digits_value 10 (d ∷ ds)) 18446744073709551615 (omega (arith, h.0.1)), h.1) refl
parsed (d ∷ ds) (Err e) h = too_large (digits_value 10 (d ∷ ds)) (nat_le (digits_value 10 (d ∷ ds)) 18446744073709551615) refl (λ less. h (omega arith, less))

pub number_parsed : {E : Type 0} (text : List ℕ) (r : Result ℕ E) → ParsesUnsigned 64 10 text r → list_all is_digit text ≡ true → result_ok r ≡ written_number text
number_parsed text r h all = parsed text r (parse_digits digits 64 text r h all)

-- each value has at most 64 bits
greatest_fits : (o : RunOption) → greatest_value o ≤ 18446744073709551615
greatest_fits option.Budget = omega arith
greatest_fits option.Passes = omega arith
greatest_fits option.Slots = omega arith
greatest_fits option.Seed = omega arith
greatest_fits option.Workers = omega arith
greatest_fits option.Turns = omega arith

value_by : (f : ℕ → Option ℕ) (n : ℕ) (some all short fits low high : Bool) → f n ≡ cond (low && high) (Some n) None → (high ≡ true → fits ≡ true)
    → option_and_then f (cond (short && all) (cond (some && fits) (Some n) None) None) ≡ cond (some && all && short && low && high) (Some n) None
value_by f n true true true true low high is more = is
value_by f n true true true false true true is more = absurd (false≢true (more refl))
value_by f n true true true false true false is more = refl
value_by f n true true true false false high is more = refl
value_by f n true true false fits low high is more = refl
value_by f n true false true fits low high is more = refl
value_by f n true false false fits low high is more = refl
value_by f n false true true fits low high is more = refl
value_by f n false true false fits low high is more = refl
value_by f n false false true fits low high is more = refl
value_by f n false false false fits low high is more = refl

-- the value that is read
pub value_as_read : (o : RunOption) (text : List ℕ) → value_of o text ≡ cond (is_value o text) (Some (digits_value 10 text)) None
unfolding value_of number_of
value_as_read o text =
    let n = digits_value 10 text in
    value_by (in_range o) n (not (is_empty text)) (list_all is_digit text) (nat_le (length text) 20) (nat_le n 18446744073709551615) (nat_le (least_value o) n) (nat_le n (greatest_value o)) refl
    (λ high. le-leb n 18446744073709551615 (omega (arith, greatest_fits o, leb-true n (greatest_value o) high)))
