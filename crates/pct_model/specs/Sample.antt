-- The arguments of the command `sample`.
use Rattle.std.specs.Prelude.{ℕ, ◌&&◌, if◌then◌else◌, List, [], ◌∷◌, Option, Some, None, bytes_eq, nat_le}
use Rattle.pct_model.specs.declared.keyword.Keyword.TheVariants as keyword
use Rattle.pct_model.specs.declared.limits.TheConstants.{MAX_SEEDS}
use Rattle.pct_model.specs.Keywords.{keyword_text}
use Rattle.pct_model.specs.LineParsing.{numeral}
use Rattle.pct_model.specs.Lines.{◌>>=◌}

-- the number of seeds that a word gives, if it is a number of 1 to 10 digits with a value from 1 to 10,000; leading zeros are allowed
unfoldable pub seed_count : List ℕ → Option ℕ
seed_count text = numeral text >>= λ k. if nat_le 1 k && nat_le k MAX_SEEDS then Some k else None

-- the number of seeds in the arguments, if they are `sample` and such a word
unfoldable pub sample_number : List (List ℕ) → Option ℕ
sample_number [] = None
sample_number (command ∷ []) = None
sample_number (command ∷ text ∷ []) = if bytes_eq command (keyword_text keyword.Sample) then seed_count text else None
sample_number (command ∷ text ∷ next ∷ words) = None
