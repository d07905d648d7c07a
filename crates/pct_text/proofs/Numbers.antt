-- The decimal text of a number, and the number that is read from it.
use Rattle.pct_names.proofs.Names.{◌%◌, ◌&&◌, ◌*◌, ◌+◌, ◌++◌, ◌-◌, ◌/◌, ◌<◌, ◌>>=◌, [], and_from, and_parts, ap, arith, Bool, bytes_eq}
use Rattle.pct_names.proofs.Names.{cond, cond_some, decimal, decimal_by_steps, decimal_digit, decimal_is_IsNumeral, decimal_step}
use Rattle.pct_names.proofs.Names.{digit_glyph, digits, digits_onto, digits_value, false, is_digit, List, list_all, nat_eq, nat_le, None}
use Rattle.pct_names.proofs.Names.{not, number_of, Option, refl, Some, split_once, suc, sym, true, zero, ℕ, ◌∙◌, ◌∷◌, ◌≡◌, ◌≤◌}
use Rattle.std.proofs.Common.{le-leb, leb-true, ne_eqb, lt-ltb, true≢false, append-nil, append_assoc}
use Rattle.pct_text.specs.Digits.{with_digit, with_next, number_from, number_in}
use Rattle.pct_text.proofs.SplitOnce.{lacks_other}
use Rattle.pct_model.proofs.Bytes.{same_bytes, bytes_eq-refl}

is_digit-glyph : (d : ℕ) → d < 10 → is_digit (48 + d) ≡ true
is_digit-glyph d lt = and_from (nat_le 48 (48 + d)) (nat_le (48 + d) 57) (le-leb 48 (48 + d) (omega arith)) (le-leb (48 + d) 57 (omega arith))

digit_again : (n d : ℕ) → d < 10 → n * 10 + d ≤ 4294967295 → with_digit n (48 + d) ≡ Some (n * 10 + d)
unfolding with_digit
digit_again n d lt fits =
    let worth : 48 + d - 48 ≡ d = omega arith in
    rw (worth, is_digit-glyph d lt, le-leb (n * 10 + d) 4294967295 fits) refl

positive : (n : ℕ) → nat_eq n 0 ≡ false → 0 < n
positive zero e = absurd (true≢false e)
positive (suc n) e = omega arith

none_is_some : (n : ℕ) → None ≡ Some n → ⊥
none_is_some n e = cc

bind_again : (o : Option ℕ) → (o >>= λ n. Some n) ≡ o
bind_again None = refl
bind_again (Some n) = refl

push_step : (o : Option ℕ) (xs : List ℕ) (d : ℕ) → ((m : ℕ) → number_from m (xs ++ d ∷ []) ≡ (number_from m xs >>= λ k. with_next k d))
    → (o >>= λ m. number_from m (xs ++ d ∷ [])) ≡ ((o >>= λ m. number_from m xs) >>= λ k. with_next k d)
push_step None xs d more = refl
push_step (Some m) xs d more = more m

number_from-push : (n : ℕ) (xs : List ℕ) (d : ℕ) → number_from n (xs ++ d ∷ []) ≡ (number_from n xs >>= λ k. with_next k d)
unfolding number_from
number_from-push n [] d = bind_again (with_next n d)
number_from-push n (x ∷ xs) d = push_step (with_next n x) xs d (λ m. number_from-push m xs d)

number_in-push : (x : ℕ) (xs : List ℕ) (d : ℕ) → number_in ((x ∷ xs) ++ d ∷ []) ≡ (number_in (x ∷ xs) >>= λ k. with_next k d)
unfolding number_in
number_in-push x xs d = push_step (with_digit 0 x) xs d (λ m. number_from-push m xs d)

-- digits are read as the number n
abbrev IsWorth : ℕ → List ℕ → Type 0
IsWorth n ds = n ≤ 4294967295 → number_in ds ≡ Some n

worth_one : (n : ℕ) → n < 10 → IsWorth n ((48 + n) ∷ [])
unfolding number_in number_from
worth_one n lt fits =
    let e : 0 * 10 + n ≡ n = omega arith in
    bind_again (with_digit 0 (48 + n)) ∙ digit_again 0 n lt (omega arith) ∙ ap (λ (k : ℕ). Some k) e

next_again : (n d : ℕ) → 0 < n → d < 10 → n * 10 + d ≤ 4294967295 → with_next n (48 + d) ≡ Some (n * 10 + d)
unfolding with_next
next_again n d some lt fits = ap (λ t. cond t None (with_digit n (48 + d))) (ne_eqb n 0 (omega (arith, some))) ∙ digit_again n d lt fits

worth_more : (n : ℕ) (ds : List ℕ) → 10 ≤ n → IsWorth (n / 10) ds → IsWorth n (ds ++ (48 + n % 10) ∷ [])
unfolding number_in
worth_more n [] le more fits = absurd (none_is_some (n / 10) (more (omega arith)))
worth_more n (x ∷ xs) le more fits =
    let e : n / 10 * 10 + n % 10 ≡ n = omega arith in
    number_in-push x xs (48 + n % 10) ∙ ap (λ (o : Option ℕ). o >>= λ k. with_next k (48 + n % 10)) (more (omega arith))
    ∙ next_again (n / 10) (n % 10) (omega arith) (omega arith) (omega arith) ∙ ap (λ (k : ℕ). Some k) e

-- a number of 32 bits is read from its decimal text
in_again : (n : ℕ) → n ≤ 4294967295 → number_in (decimal n) ≡ Some n
in_again n fits = decimal_by_steps IsWorth worth_one worth_more n (omega arith) fits

-- ---- the decimal text of the number that is read

-- m is the number n with one more digit
abbrev HasDigit : ℕ → ℕ → ℕ → Type 0
HasDigit n d m = (48 ≤ d) × (d ≤ 57) × (m ≡ n * 10 + (d - 48)) × (m ≤ 4294967295)

digit_taken : (n d m : ℕ) → with_digit n d ≡ Some m → HasDigit n d m
unfolding with_digit
digit_taken n d m h =
    let v = n * 10 + (d - 48) in
    let found = cond_some (is_digit d && nat_le v 4294967295) v m h in
    let tests = and_parts (is_digit d) (nat_le v 4294967295) found.0 in
    let digit = and_parts (nat_le 48 d) (nat_le d 57) tests.0 in
    let few = leb-true v 4294967295 tests.1 in
    (leb-true 48 d digit.0, leb-true d 57 digit.1, sym found.1, omega (arith, found.1, few))

-- the text of m is the text of n, followed by further bytes
abbrev Extends : ℕ → List ℕ → ℕ → Type 0
Extends n ds m = (decimal m ≡ decimal n ++ ds) × (m ≤ 4294967295)

next_taken : (n d m : ℕ) → with_next n d ≡ Some m → Extends n (d ∷ []) m
unfolding with_next
next_taken n d m h = by_zero n (nat_eq n 0) refl h
  where
    text : (n m : ℕ) → 0 < n → HasDigit n d m → decimal m ≡ decimal n ++ d ∷ []
    text n m some has =
        let tens : m / 10 ≡ n = omega (arith, has.0, has.1, has.2) in
        let ones : 48 + m % 10 ≡ d = omega (arith, has.0, has.1, has.2) in
        decimal_step m (omega (arith, has.0, has.2, some)) (omega (arith, has.3))
        ∙ ap (λ (k : ℕ). decimal k ++ (48 + m % 10) ∷ []) tens ∙ ap (λ (b : ℕ). decimal n ++ b ∷ []) ones

    by_zero : (n : ℕ) (zero_is : Bool) → nat_eq n 0 ≡ zero_is → cond zero_is None (with_digit n d) ≡ Some m → Extends n (d ∷ []) m
    by_zero n true e h = absurd cc
    by_zero n false e h =
        let has = digit_taken n d m h in
        (text n m (positive n e) has, has.3)

by_next : (n d m : ℕ) (ds : List ℕ) (o : Option ℕ) → with_next n d ≡ o → (o >>= λ k. number_from k ds) ≡ Some m
    → ((k : ℕ) → k ≤ 4294967295 → number_from k ds ≡ Some m → Extends k ds m) → Extends n (d ∷ ds) m
by_next n d m ds None e h later = absurd cc
by_next n d m ds (Some k) e h later =
    let next = next_taken n d k e in
    let rest = later k next.1 h in
    (rest.0 ∙ ap (λ text. text ++ ds) next.0 ∙ append_assoc (decimal n) (d ∷ []) ds, rest.1)

number_taken : (n m : ℕ) (ds : List ℕ) → n ≤ 4294967295 → number_from n ds ≡ Some m → Extends n ds m
unfolding number_from
number_taken n m [] fits h =
    let same : n ≡ m = cc in
    (ap decimal (sym same) ∙ sym (append-nil (decimal n)), omega (arith, same, fits))
number_taken n m (d ∷ ds) fits h = by_next n d m ds (with_next n d) refl h (λ k few e. number_taken k m ds few e)

-- a word that is read as a number is its decimal text
in_taken : (word : List ℕ) (n : ℕ) → number_in word ≡ Some n → (decimal n ≡ word) × (n ≤ 4294967295)
unfolding number_in
in_taken [] n h = absurd cc
in_taken (d ∷ ds) n h = by_first (with_digit 0 d) refl h
  where
    by_first : (o : Option ℕ) → with_digit 0 d ≡ o → (o >>= λ k. number_from k ds) ≡ Some n → (decimal n ≡ d ∷ ds) × (n ≤ 4294967295)
    by_first None e h = absurd cc
    by_first (Some k) e h =
        let has = digit_taken 0 d k e in
        let byte : 48 + k ≡ d = omega (arith, has.0, has.2) in
        let rest = number_taken k n ds has.3 h in
        (rest.0 ∙ ap (λ text. text ++ ds) (decimal_digit k (omega (arith, has.1, has.2)) ∙ ap (λ (b : ℕ). b ∷ []) byte), rest.1)

-- the digits of a decimal text have the number's value
value_again : (n : ℕ) → n ≤ 4294967295 → digits_value 10 (decimal n) ≡ n
value_again n fits = (decimal_is_IsNumeral n (omega arith)).1

-- whether a word is the decimal text of this number of 32 bits
abbrev is_text : ℕ → List ℕ → Bool
is_text n word = bytes_eq (decimal n) word && nat_le n 4294967295

again_is_text : (n : ℕ) → n ≤ 4294967295 → is_text n (decimal n) ≡ true
again_is_text n fits = and_from (bytes_eq (decimal n) (decimal n)) (nat_le n 4294967295) (bytes_eq-refl (decimal n)) (le-leb n 4294967295 fits)

-- the number of its decimal text
pub number_again : (n : ℕ) → n ≤ 4294967295 → number_of (decimal n) ≡ Some n
unfolding number_of
number_again n fits =
    ap (λ (k : ℕ). cond (is_text k (decimal n)) (Some k) None) (value_again n fits) ∙ ap (λ (b : Bool). cond b (Some n) None) (again_is_text n fits)

-- a word that has a number is its decimal text
pub number_takes : (word : List ℕ) (n : ℕ) → number_of word ≡ Some n → word ≡ decimal n
unfolding number_of
number_takes word n h =
    let value = digits_value 10 word in
    let found = cond_some (is_text value word) value n h in
    sym (same_bytes (decimal value) word (and_parts (bytes_eq (decimal value) word) (nat_le value 4294967295) found.0).0) ∙ ap decimal found.1

-- such a number has 32 bits
number_fits : (word : List ℕ) (n : ℕ) → number_of word ≡ Some n → n ≤ 4294967295
unfolding number_of
number_fits word n h =
    let value = digits_value 10 word in
    let found = cond_some (is_text value word) value n h in
    omega (arith, found.1, leb-true value 4294967295 (and_parts (bytes_eq (decimal value) word) (nat_le value 4294967295) found.0).1)

-- the loop over digits gives a word's number
pub number_as_read : (word : List ℕ) → number_in word ≡ number_of word
number_as_read word = by_number (number_in word) (number_of word) refl refl
  where
    by_number : (o p : Option ℕ) → number_in word ≡ o → number_of word ≡ p → o ≡ p
    by_number None None e f = refl
    by_number None (Some n) e f = sym e ∙ ap number_in (number_takes word n f) ∙ in_again n (number_fits word n f)
    by_number (Some n) p e f =
        let taken = in_taken word n e in
        sym (number_again n taken.1) ∙ ap number_of taken.0 ∙ f

glyph_is_digit : (d : ℕ) → d < 10 → is_digit (digit_glyph false d) ≡ true
glyph_is_digit d lt = rw (lt-ltb d 10 lt) (is_digit-glyph d lt)

all_or : (t : Bool) (a b : List ℕ) → list_all is_digit a ≡ true → list_all is_digit b ≡ true → list_all is_digit (cond t a b) ≡ true
all_or true a b all more = all
all_or false a b all more = more

digits_prepended : (k n : ℕ) (after : List ℕ) → list_all is_digit after ≡ true → list_all is_digit (digits_onto k 10 false n after) ≡ true
digits_prepended zero n after all = all
digits_prepended (suc k) n after all =
    let glyph = digit_glyph false (n % 10) in
    let more : list_all is_digit (glyph ∷ after) ≡ true = and_from (is_digit glyph) (list_all is_digit after) (glyph_is_digit (n % 10) (omega arith)) all in
    all_or (nat_eq (n / 10) 0) (glyph ∷ after) (digits_onto k 10 false (n / 10) (glyph ∷ after)) more (digits_prepended k (n / 10) (glyph ∷ after) more)

-- a decimal text consists of digits
pub digits_of_decimal : (n : ℕ) → list_all is_digit (decimal n) ≡ true
unfolding digits
digits_of_decimal n = digits_prepended 64 n [] refl

-- a decimal text lacks a byte that is not a digit
pub decimal_lacks : (c n : ℕ) → is_digit c ≡ false → split_once c (decimal n) ≡ None
decimal_lacks c n other = lacks_other is_digit c (decimal n) other (digits_of_decimal n)

-- so does a word that is read as a number
pub number_lacks : (c : ℕ) (w : List ℕ) (n : ℕ) → is_digit c ≡ false → number_of w ≡ Some n → split_once c w ≡ None
number_lacks c w n other h = ap (split_once c) (number_takes w n h) ∙ decimal_lacks c n other
