-- The lengths of names.
use Rattle.pct_names.proofs.Names.{◌&&◌, ◌<◌, [], and_parts, arith, is_digit, is_name, is_name_byte, length, List, list_all, nat_le, not}
use Rattle.pct_names.proofs.Names.{true, ℕ, ◌∷◌, ◌≡◌, ◌≤◌}
use Rattle.std.proofs.Common.{leb-true}

-- a name has at least 1 byte
pub name_is_some : (w : List ℕ) → is_name w ≡ true → 0 < length w
unfolding is_name
name_is_some [] is = absurd cc
name_is_some (b ∷ bytes) is = omega arith

-- a name has at most 31 bytes
pub name_is_short : (w : List ℕ) → is_name w ≡ true → length w ≤ 31
unfolding is_name
name_is_short [] is = absurd cc
name_is_short (b ∷ bytes) is = leb-true (length (b ∷ bytes)) 31 (and_parts (not (is_digit b) && list_all is_name_byte (b ∷ bytes)) (nat_le (length (b ∷ bytes)) 31) is).1
