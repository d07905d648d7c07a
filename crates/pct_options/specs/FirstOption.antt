-- The first option that words give. No public clause cites this file.
use Rattle.std.specs.Prelude.{ℕ, suc, List, [], ◌∷◌, take, drop, position, Option, Some, None, nat_eq, option_map}
use Rattle.pct_model.specs.RunOptions.{GivenOption}

-- the bytes before the first `=`, and the bytes after it
unfoldable pub split_name : List ℕ → Option (List ℕ × List ℕ)
split_name word = option_map (λ at. (take at word, drop (suc at) word)) (position (λ b. nat_eq b 61) word)

-- the option whose name is a word, or its part before an `=`, and the words after it
abbrev pub option_in : List ℕ → Option (List ℕ × List ℕ) → List (List ℕ) → Option (GivenOption × List (List ℕ))
option_in word (Some parts) words = Some (record { name = parts.0; value = parts.1 }, words)
option_in word None [] = None
option_in word None (value ∷ words) = Some (record { name = word; value = value }, words)

-- the first option of some words, and the words after it
unfoldable pub first_option : List (List ℕ) → Option (GivenOption × List (List ℕ))
first_option [] = None
first_option (word ∷ words) = option_in word (split_name word) words
