-- Names in scripts: their spelling, and lookup by name.
use Rattle.std.specs.Prelude.{ℕ, Bool, true, false, not, ◌&&◌, ◌||◌, List, [], ◌∷◌, length, map, nat_eq, nat_le, bytes_eq, slice_get, unwrap_or, Option, position}
use Rattle.std.specs.List.{list_all, list_any, position_or_len}
use Rattle.pct_model.specs.declared.script.Func.{Func}
use Rattle.pct_model.specs.declared.keyword.Keyword.TheVariants as keyword
use Rattle.pct_model.specs.declared.name.TheConstants.{MAX_NAME}
use Rattle.pct_model.specs.Keywords.{keyword_text}

-- 0 to 9
abbrev pub is_digit : ℕ → Bool
is_digit b = nat_le 48 b && nat_le b 57

-- A to Z or a to z
abbrev pub is_letter : ℕ → Bool
is_letter b = nat_le 65 b && nat_le b 90 || nat_le 97 b && nat_le b 122

-- a letter, a digit or `_`
abbrev pub is_name_byte : ℕ → Bool
is_name_byte b = is_letter b || is_digit b || nat_eq b 95

-- a name has 1 to 31 letters, digits or `_`, and does not begin with a digit
unfoldable pub is_name : List ℕ → Bool
is_name [] = false
is_name (b ∷ bs) = not (is_digit b) && list_all is_name_byte (b ∷ bs) && nat_le (length (b ∷ bs)) MAX_NAME

-- no name occurs twice
unfoldable pub all_different : List (List ℕ) → Bool
all_different [] = true
all_different (name ∷ names) = not (list_any (bytes_eq name) names) && all_different names

-- the name at an index, or the empty name if the index is out of range
unfoldable pub name_at : List (List ℕ) → ℕ → List ℕ
name_at names i = unwrap_or (slice_get names i) []

-- the index of the first name that is equal to w
abbrev pub index_among : List (List ℕ) → List ℕ → Option ℕ
index_among names w = position (λ name. bytes_eq name w) names

-- the names of the functions, in order
abbrev pub names_of : List Func → List (List ℕ)
names_of funcs = map (λ f. f.name) funcs

-- the index of the first function named `main`, or the number of names if there is none
unfoldable pub main_of : List (List ℕ) → ℕ
main_of names = position_or_len (bytes_eq (keyword_text keyword.Main)) names
