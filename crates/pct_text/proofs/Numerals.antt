-- The loop over digits reads the value of a numeral.
use Rattle.pct_names.proofs.Names.{◌&&◌, ◌*◌, ◌+◌, ◌-◌, ◌>>=◌, [], and_parts, ap, arith, Bool, cond, digit_value, digit_value_digit}
use Rattle.pct_names.proofs.Names.{digits_value, digits_value_after, false, is_digit, is_empty, length, List, list_all, lt-leb, nat_le}
use Rattle.pct_names.proofs.Names.{None, not, numeral, Option, refl, Some, sym, true, ℕ, ◌∙◌, ◌∷◌, ◌≡◌, ◌≤◌}
use Rattle.std.proofs.Common.{leb-true, leb-false, le-leb}
use Rattle.pct_text.specs.Digits.{with_digit, value_from, numeral_in}

-- the value v, where all bytes are digits and it is at most 4294967295
abbrev value_if : Bool → ℕ → Option ℕ
value_if all v = cond (all && nat_le v 4294967295) (Some v) None

too_large : (all : Bool) (v : ℕ) → nat_le v 4294967295 ≡ false → value_if all v ≡ None
too_large true v e = rw e refl
too_large false v e = refl

-- further digits do not lower the value
value_grows : (n : ℕ) (ds : List ℕ) → n ≤ digits_value_after 10 n ds
value_grows n [] = omega arith
value_grows n (d ∷ ds) = omega (arith, value_grows (n * 10 + digit_value d) ds)

digit_worth : (d : ℕ) → is_digit d ≡ true → digit_value d ≡ d - 48
digit_worth d is =
    let parts = and_parts (nat_le 48 d) (nat_le d 57) is in
    let low = leb-true 48 d parts.0 in
    omega (arith, low, digit_value_digit d (low, leb-true d 57 parts.1))

value_step : (n d : ℕ) (ds : List ℕ) (is fits : Bool) → is_digit d ≡ is → nat_le (n * 10 + (d - 48)) 4294967295 ≡ fits
    → ((m : ℕ) → m ≤ 4294967295 → value_from m ds ≡ value_if (list_all is_digit ds) (digits_value_after 10 m ds))
    → (cond (is && fits) (Some (n * 10 + (d - 48))) None >>= λ m. value_from m ds) ≡ value_if (is && list_all is_digit ds) (digits_value_after 10 (n * 10 + digit_value d) ds)
value_step n d ds true true e f more =
    let worth : n * 10 + (d - 48) ≡ n * 10 + digit_value d = omega (arith, digit_worth d e) in
    more (n * 10 + (d - 48)) (leb-true (n * 10 + (d - 48)) 4294967295 f) ∙ ap (λ (k : ℕ). value_if (list_all is_digit ds) (digits_value_after 10 k ds)) worth
value_step n d ds true false e f more =
    let v = digits_value_after 10 (n * 10 + digit_value d) ds in
    sym (too_large (list_all is_digit ds) v (lt-leb v 4294967295 (omega (arith, digit_worth d e, leb-false (n * 10 + (d - 48)) 4294967295 f, value_grows (n * 10 + digit_value d) ds))))
value_step n d ds false fits e f more = refl

-- the value of a word of digits, where it has 32 bits
value_is : (n : ℕ) (ds : List ℕ) → n ≤ 4294967295 → value_from n ds ≡ value_if (list_all is_digit ds) (digits_value_after 10 n ds)
unfolding value_from with_digit
value_is n [] fits = rw (le-leb n 4294967295 fits) refl
value_is n (d ∷ ds) fits = value_step n d ds (is_digit d) (nat_le (n * 10 + (d - 48)) 4294967295) refl refl (λ m few. value_is m ds few)

numeral_by : (some all short fits : Bool) (n : ℕ) → cond (some && short) (cond (all && fits) (Some n) None) None ≡ cond (some && all && short && fits) (Some n) None
numeral_by true true true fits n = refl
numeral_by true false true fits n = refl
numeral_by _ _ _ fits n = refl

-- the loop over 1 to 10 digits gives the numeral
pub numeral_as_read : (w : List ℕ) → numeral_in w ≡ numeral w
unfolding numeral_in numeral
numeral_as_read w =
    ap (λ (o : Option ℕ). cond (not (is_empty w) && nat_le (length w) 10) o None) (value_is 0 w (omega arith))
    ∙ numeral_by (not (is_empty w)) (list_all is_digit w) (nat_le (length w) 10) (nat_le (digits_value 10 w) 4294967295) (digits_value 10 w)
