-- The decimal text of a number of 64 bits, and the number that is read from it.
use Rattle.std.proofs.Common.{◌≡◌, ℕ, suc, zero, ◌<◌, ◌≤◌, ◌^◌, Bool, true, false, cond, not, ◌&&◌, List, [], ◌∷◌, Option, Some, None, length, get_or, refl, sym, ap, subst, arith, ◌∙◌, bytes_eq, nat_eq, nat_le}
use Rattle.std.proofs.Common.{le-leb, leb-true, ne_eqb, eq-eqb, true≢false}
use Rattle.pct_names.proofs.Names.{IsNumeralModel, and_parts, decimal, digits_value, is_digit, is_empty, list_all, none-some, numerals_by_value, rules, same_Some}
use Rattle.std.proofs.lemmas.Fmt.{decimal-digits_value, decimal_digit, decimal_nonempty, digits_decimal, digits_value-decimal, first_decimal, length-decimal-le, IsAscii-from_digits}
use Rattle.std.proofs.lemmas.Str.{IsUtf8-from_ascii}
use Rattle.std.specs.Str.{IsUtf8}
use Rattle.pct_model.specs.declared.run_options.RunOption.TheVariants as option
use Rattle.pct_model.specs.RunOptions.{is_value}
use Rattle.pct_model.proofs.Bytes.{same_bytes, bytes_eq-refl}
use Rattle.pct_tallies.specs.CountTexts.{has_leading_zero, value_of}
use Rattle.pct_tallies.specs.Readings.{count_of}

-- texts of digits are the numerals
digits : IsNumeralModel (λ ds. list_all is_digit ds ≡ true) (digits_value 10)
digits = numerals_by_value _ (search rules)

five : (a b c d e : Bool) → (a && b && c && d && e) ≡ true → (a ≡ true) × ((b ≡ true) × ((c ≡ true) × ((d ≡ true) × (e ≡ true))))
five true true true true true h = (refl, (refl, (refl, (refl, refl))))
five false b c d e h = absurd (true≢false (sym h))
five true false c d e h = absurd (true≢false (sym h))
five true true false d e h = absurd (true≢false (sym h))
five true true true false e h = absurd (true≢false (sym h))
five true true true true false h = absurd (true≢false (sym h))

all_five : (a b c d e : Bool) → a ≡ true → b ≡ true → c ≡ true → d ≡ true → e ≡ true → (a && b && c && d && e) ≡ true
all_five a b c d e h i j k l = rw (h, i, j, k, l) refl

-- ---- what is written is read

begins_above : (ds : List ℕ) → 48 < get_or ds 0 0 → has_leading_zero ds ≡ false
begins_above [] h = refl
begins_above (b ∷ []) h = refl
begins_above (b ∷ next ∷ ds) h = ne_eqb b 48 (λ e. absurd (omega (arith, h, e)))

no_leading_zero : (n : ℕ) → n < 2 ^ 64 → has_leading_zero (decimal n) ≡ false
no_leading_zero zero h = rw (decimal_digit 0 (omega arith)) refl
no_leading_zero (suc n) h = begins_above (decimal (suc n)) (first_decimal (suc n) (omega arith) h)

some_bytes : (ds : List ℕ) → 0 < length ds → not (is_empty ds) ≡ true
some_bytes [] h = absurd (omega (arith, h))
some_bytes (b ∷ ds) h = refl

pub decimal_is_value : (n : ℕ) → n < 2 ^ 64 → is_value option.Seed (decimal n) ≡ true
decimal_is_value n h =
    let ds = decimal n in
    let value : digits_value 10 ds ≡ n = digits_value-decimal digits n h in
    all_five (not (is_empty ds)) (list_all is_digit ds) (nat_le (length ds) 20) (nat_le 0 (digits_value 10 ds)) (nat_le (digits_value 10 ds) 18446744073709551615)
    (some_bytes ds (decimal_nonempty n h)) (digits_decimal digits n h) (le-leb (length ds) 20 (length-decimal-le 20 n (omega arith) (omega (arith, h)) h))
    (le-leb 0 (digits_value 10 ds) (omega arith)) (le-leb (digits_value 10 ds) 18446744073709551615 (omega (arith, value, h)))

-- ---- what is read is written so

one_digit : (word : List ℕ) → has_leading_zero word ≡ false → 0 < length word → get_or word 0 0 ≡ 48 → length word ≡ 1
one_digit [] z some first = absurd (omega (arith, some))
one_digit (b ∷ []) z some first = refl
one_digit (b ∷ next ∷ bytes) z some first = absurd (true≢false (sym (eq-eqb b 48 first) ∙ z))

not_empty : (word : List ℕ) → not (is_empty word) ≡ true → 0 < length word
not_empty [] h = absurd (true≢false (sym h))
not_empty (b ∷ word) h = omega arith

value_is_decimal : (word : List ℕ) → has_leading_zero word ≡ false → is_value option.Seed word ≡ true → decimal (digits_value 10 word) ≡ word
value_is_decimal word z given =
    let v = digits_value 10 word in
    let parts = five (not (is_empty word)) (list_all is_digit word) (nat_le (length word) 20) (nat_le 0 v) (nat_le v 18446744073709551615) given in
    let some : 0 < length word = not_empty word parts.0 in
    decimal-digits_value digits word parts.1.0 some (one_digit word z some) (omega (arith, leb-true v 18446744073709551615 parts.1.1.1.1))

-- a word that is no UTF-8 has no value
pub no_value : (word : List ℕ) → ¬ IsUtf8 word → value_of word ≡ None
no_value word not_utf8 = by_test (is_value option.Seed word) refl
  where
    by_test : (t : Bool) → is_value option.Seed word ≡ t → cond t (Some (digits_value 10 word)) None ≡ None
    by_test false t_is = refl
    by_test true t_is =
        let parts = five (not (is_empty word)) (list_all is_digit word) (nat_le (length word) 20) (nat_le 0 (digits_value 10 word)) (nat_le (digits_value 10 word) 18446744073709551615) t_is in
        absurd (not_utf8 (IsUtf8-from_ascii word (IsAscii-from_digits word (digits.to word parts.1.0))))

-- ---- both

-- the word is the text of a number of 64 bits
abbrev is_count : List ℕ → Bool
is_count word = bytes_eq (decimal (digits_value 10 word)) word && nat_le (digits_value 10 word) 18446744073709551615

written : (word : List ℕ) → is_count word ≡ true → (decimal (digits_value 10 word) ≡ word) × (digits_value 10 word < 2 ^ 64)
written word is =
    let v = digits_value 10 word in
    let parts = and_parts (bytes_eq (decimal v) word) (nat_le v 18446744073709551615) is in
    (same_bytes (decimal v) word parts.0, omega (arith, leb-true v 18446744073709551615 parts.1))

read_by : (word : List ℕ) (t z i : Bool) → is_count word ≡ t → has_leading_zero word ≡ z → is_value option.Seed word ≡ i
    → cond t (Some (digits_value 10 word)) None ≡ cond z None (cond i (Some (digits_value 10 word)) None)
read_by word true z i t_is z_is i_is =
    let w = written word t_is in
    let none : has_leading_zero word ≡ false = subst (λ (ds : List ℕ). has_leading_zero ds ≡ false) w.0 (no_leading_zero (digits_value 10 word) w.1) in
    let given : is_value option.Seed word ≡ true = subst (λ (ds : List ℕ). is_value option.Seed ds ≡ true) w.0 (decimal_is_value (digits_value 10 word) w.1) in
    rw (sym z_is ∙ none, sym i_is ∙ given) refl
read_by word false true i t_is z_is i_is = refl
read_by word false false false t_is z_is i_is = refl
read_by word false false true t_is z_is i_is =
    let v = digits_value 10 word in
    let same : decimal v ≡ word = value_is_decimal word z_is i_is in
    let parts = five (not (is_empty word)) (list_all is_digit word) (nat_le (length word) 20) (nat_le 0 v) (nat_le v 18446744073709551615) i_is in
    let equal : bytes_eq (decimal v) word ≡ true = subst (λ (ds : List ℕ). bytes_eq (decimal v) ds ≡ true) same (bytes_eq-refl (decimal v)) in
    absurd (true≢false (sym (rw (equal, parts.1.1.1.1) refl) ∙ t_is))

-- the number of a word is the value of its digits, where there is no leading zero
pub count_as_read : (word : List ℕ) → count_of word ≡ cond (has_leading_zero word) None (value_of word)
unfolding count_of
count_as_read word = read_by word (is_count word) (has_leading_zero word) (is_value option.Seed word) refl refl refl

-- the text of a number is read as that number
pub count_again : (n : ℕ) → n < 2 ^ 64 → count_of (decimal n) ≡ Some n
count_again n h =
    count_as_read (decimal n) ∙ rw (no_leading_zero n h, decimal_is_value n h) (ap Some (digits_value-decimal digits n h))

-- the word whose number is read is its text
pub count_spelled : (word : List ℕ) (n : ℕ) → count_of word ≡ Some n → (word ≡ decimal n) × (n < 2 ^ 64)
unfolding count_of
count_spelled word n is = spelled (is_count word) refl is
  where
    spelled : (t : Bool) → is_count word ≡ t → cond t (Some (digits_value 10 word)) None ≡ Some n → (word ≡ decimal n) × (n < 2 ^ 64)
    spelled true t_is same =
        let w = written word t_is in
        let number : digits_value 10 word ≡ n = same_Some (digits_value 10 word) n same in
        (sym w.0 ∙ ap decimal number, omega (arith, w.1, number))
    spelled false t_is same = absurd (none-some n same)
