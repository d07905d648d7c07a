-- Lines of a text, words separated by spaces, and numbers in decimal.
use Rattle.std.specs.Prelude.{ℕ, ◌==◌, ◌&&◌, if◌then◌else◌, List, [], ◌∷◌, Option, Some, None, nat_eq, nat_le, bytes_eq, decimal, option_map, option_and_then}
use Rattle.std.specs.List.{slice_split}
use Rattle.std.specs.Str.Parse.{digits_value}

-- bind of Option: apply f to the value, if there is one
infixl 10 ◌>>=◌
abbrev pub ◌>>=◌ : {A B : Type 0} → Option A → (A → Option B) → Option B
o >>= f = option_and_then f o

-- the list without its last piece, if that piece is empty
abbrev pub without_empty_last : List (List ℕ) → List (List ℕ)
without_empty_last [] = []
without_empty_last ([] ∷ []) = []
without_empty_last ((b ∷ bs) ∷ []) = (b ∷ bs) ∷ []
without_empty_last (line ∷ next ∷ lines) = line ∷ without_empty_last (next ∷ lines)

-- the lines of a text: each ends at LF (byte 10), and bytes after the last LF, if any, are a line too
unfoldable pub lines_of : List ℕ → List (List ℕ)
lines_of text = without_empty_last (slice_split (λ b. b == 10) text)

-- the line without one CR (byte 13) at its end, if it ends with CR
unfoldable pub strip_cr : List ℕ → List ℕ
strip_cr [] = []
strip_cr (b ∷ []) = if b == 13 then [] else b ∷ []
strip_cr (b ∷ next ∷ bytes) = b ∷ strip_cr (next ∷ bytes)

-- the pieces of a line between its spaces; two adjacent spaces have an empty piece between them
abbrev pub words_of : List ℕ → List (List ℕ)
words_of line = slice_split (λ b. b == 32) line

-- the prefix before the first byte c and the suffix after it, if there is a byte c
unfoldable pub split_once : ℕ → List ℕ → Option (List ℕ × List ℕ)
split_once c [] = None
split_once c (b ∷ bytes) = if nat_eq b c then Some ([], bytes) else option_map (λ parts. (b ∷ parts.0, parts.1)) (split_once c bytes)

-- ---- numbers

-- the number of at most 32 bits whose decimal text is the word; a decimal text has no leading zeros
unfoldable pub number_of : List ℕ → Option ℕ
number_of word =
    if bytes_eq (decimal (digits_value 10 word)) word && nat_le (digits_value 10 word) 4294967295
    then Some (digits_value 10 word)
    else None
