-- Numbers as the loop over their digits reads them. No public clause cites this file.
use Rattle.std.specs.Prelude.{ℕ, ◌+◌, ◌*◌, ◌-◌, not, ◌&&◌, if◌then◌else◌, List, [], ◌∷◌, Option, Some, None, length, nat_eq, nat_le}
use Rattle.pct_model.specs.Names.{is_digit}
use Rattle.pct_model.specs.Lines.{◌>>=◌}
use Rattle.pct_model.specs.LineParsing.{is_empty}

-- the value n with one more digit, where it is at most 4294967295
unfoldable pub with_digit : ℕ → ℕ → Option ℕ
with_digit n digit = if is_digit digit && nat_le (n * 10 + (digit - 48)) 4294967295 then Some (n * 10 + (digit - 48)) else None

-- the value n with these further digits, where it is at most 4294967295
unfoldable pub value_from : ℕ → List ℕ → Option ℕ
value_from n [] = Some n
value_from n (digit ∷ digits) = with_digit n digit >>= λ m. value_from m digits

-- the value of 1 to 10 digits
unfoldable pub numeral_in : List ℕ → Option ℕ
numeral_in word = if not (is_empty word) && nat_le (length word) 10 then value_from 0 word else None

-- the value n with one more digit, where it does not begin with 0
unfoldable pub with_next : ℕ → ℕ → Option ℕ
with_next n digit = if nat_eq n 0 then None else with_digit n digit

-- the value n with these further digits, where it does not begin with 0
unfoldable pub number_from : ℕ → List ℕ → Option ℕ
number_from n [] = Some n
number_from n (digit ∷ digits) = with_next n digit >>= λ m. number_from m digits

-- the value of a word's digits, where it has no leading zero
unfoldable pub number_in : List ℕ → Option ℕ
number_in [] = None
number_in (digit ∷ digits) = with_digit 0 digit >>= λ n. number_from n digits

-- the value n with the further digits before the first space, and the bytes after it
unfoldable pub number_until : ℕ → List ℕ → Option (ℕ × List ℕ)
number_until n [] = None
number_until n (byte ∷ bytes) = if nat_eq byte 32 then Some (n, bytes) else (with_next n byte >>= λ m. number_until m bytes)

-- the number before the first space, and the bytes after it
unfoldable pub split_number_in : List ℕ → Option (ℕ × List ℕ)
split_number_in [] = None
split_number_in (byte ∷ bytes) = with_digit 0 byte >>= λ n. number_until n bytes
