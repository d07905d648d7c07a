-- The words of a report: none contains a byte up to the space (LF and CR among them).
use Rattle.pct_names.proofs.Names.{◌&&◌, [], and_from, and_parts, arith, Bool, contents_of, decimal, false, is_digit, is_name, is_name_byte}
use Rattle.pct_names.proofs.Names.{Keyword, keyword_text, length, List, list_all, list_all-append, lt-leb, name_at, names_of_kind, nat_le}
use Rattle.pct_names.proofs.Names.{nat_lt, not, refl, Script, suc, sym, SymbolKind, thread_text, true, zero, ℕ, ◌∙◌, ◌∷◌, ◌≡◌, ◌≤◌}
use Rattle.std.proofs.Common.{ltb-false, leb-true, lt-ltb, ne_eqb}
use Rattle.pct_model.specs.declared.keyword.Keyword.TheVariants as keyword
use Rattle.pct_text.proofs.Numbers.{digits_of_decimal}
use Rattle.pct_model.proofs.StaticFacts.{passes_all, text_parts, kinds_are_names}

-- a byte above the space
abbrev pub is_plain_byte : ℕ → Bool
is_plain_byte b = nat_lt 32 b

abbrev pub is_plain : List ℕ → Bool
is_plain w = list_all is_plain_byte w

abbrev pub are_plain : List (List ℕ) → Bool
are_plain words = list_all is_plain words

pub more : (w : List ℕ) (words : List (List ℕ)) → is_plain w ≡ true → are_plain words ≡ true → are_plain (w ∷ words) ≡ true
more w words first rest = and_from (is_plain w) (are_plain words) first rest

-- ---- bytes

by_contradiction : (b : ℕ) (t : Bool) → nat_lt 32 b ≡ t → (b ≤ 32 → true ≡ false) → t ≡ true
by_contradiction b true e fails = refl
by_contradiction b false e fails = sym (fails (ltb-false 32 b e))

digit_is_plain : (b : ℕ) → is_digit b ≡ true → is_plain_byte b ≡ true
digit_is_plain b is =
    let low : 48 ≤ b = leb-true 48 b (and_parts (nat_le 48 b) (nat_le b 57) is).0 in
    lt-ltb 32 b (omega arith)

low_is_no_name_byte : (b : ℕ) → b ≤ 32 → is_name_byte b ≡ false
low_is_no_name_byte b low = rw (lt-leb 65 b (omega arith), lt-leb 97 b (omega arith), lt-leb 48 b (omega arith), ne_eqb b 95 (omega arith)) refl

name_byte_is_plain : (b : ℕ) → is_name_byte b ≡ true → is_plain_byte b ≡ true
name_byte_is_plain b is = by_contradiction b (nat_lt 32 b) refl (λ (low : b ≤ 32). sym is ∙ low_is_no_name_byte b low)

wider : (p q : ℕ → Bool) → ((b : ℕ) → p b ≡ true → q b ≡ true) → (xs : List ℕ) → list_all p xs ≡ true → list_all q xs ≡ true
wider p q each [] all = refl
wider p q each (x ∷ xs) all =
    let parts = and_parts (p x) (list_all p xs) all in
    and_from (q x) (list_all q xs) (each x parts.0) (wider p q each xs parts.1)

-- ---- words

pub decimal_plain : (n : ℕ) → is_plain (decimal n) ≡ true
decimal_plain n = wider is_digit is_plain_byte digit_is_plain (decimal n) (digits_of_decimal n)

pub plain_name : (w : List ℕ) → is_name w ≡ true → is_plain w ≡ true
unfolding is_name
plain_name [] is = refl
plain_name (b ∷ bs) is =
    let first = (and_parts (not (is_digit b) && list_all is_name_byte (b ∷ bs)) (nat_le (length (b ∷ bs)) 31) is).0 in
    wider is_name_byte is_plain_byte name_byte_is_plain (b ∷ bs) (and_parts (not (is_digit b)) (list_all is_name_byte (b ∷ bs)) first).1

pub name_at_plain : (names : List (List ℕ)) (f : ℕ) → list_all is_name names ≡ true → is_plain (name_at names f) ≡ true
unfolding name_at
name_at_plain [] f all = refl
name_at_plain (name ∷ names) zero all = plain_name name (and_parts (is_name name) (list_all is_name names) all).0
name_at_plain (name ∷ names) (suc f) all = name_at_plain names f (and_parts (is_name name) (list_all is_name names) all).1

-- the declared names of each kind
pub declared_plain : (script : Script) (k : SymbolKind) (i : ℕ) → is_plain (name_at (names_of_kind (contents_of script) k) i) ≡ true
declared_plain script k i =
    let c = contents_of script in
    name_at_plain (names_of_kind c k) i (kinds_are_names c k (text_parts c (passes_all c script.passes_checks).text))

pub thread_plain : (pid tid : ℕ) → is_plain (thread_text pid tid) ≡ true
unfolding thread_text
thread_plain pid tid = list_all-append is_plain_byte (decimal pid) (46 ∷ decimal tid) ∙ and_from (is_plain (decimal pid)) (is_plain (decimal tid)) (decimal_plain pid) (decimal_plain tid)

pub keyword_plain : (k : Keyword) → is_plain (keyword_text k) ≡ true
unfolding keyword_text
keyword_plain keyword.Main = refl
keyword_plain _ = refl
