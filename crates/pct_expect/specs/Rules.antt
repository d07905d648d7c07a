-- Which rule a line spells.
use Rattle.std.specs.Prelude.{ℕ, Bool, not, ◌&&◌, if◌then◌else◌, List, [], ◌∷◌, length, Option, Some, None, nat_le, codes, bytes_eq, option_map}
use Rattle.std.specs.List.{list_all}
use Rattle.pct_model.specs.Lines.{◌>>=◌}
use Rattle.pct_model.specs.LineParsing.{is_allowed, numeral, words_in}
use Rattle.pct_expect.specs.declared.rule.Rule.{Rule}
use Rattle.pct_expect.specs.declared.rule.RuleKind.{RuleKind}
use Rattle.pct_expect.specs.declared.rule.RuleKind.TheVariants as kind

-- the word `/`
abbrev pub is_slash : List ℕ → Bool
is_slash word = bytes_eq word (codes "/")

-- a pattern has 2 to 6 words
abbrev pub is_size : ℕ → Bool
is_size count = nat_le 2 count && nat_le count 6

-- a pattern: so many words, none of them `/`
unfoldable pub is_pattern : List (List ℕ) → Bool
is_pattern words = is_size (length words) && list_all (λ word. not (is_slash word)) words

-- the words before the first `/`, and the words after it
unfoldable pub sides : List (List ℕ) → Option (List (List ℕ) × List (List ℕ))
sides [] = None
sides (word ∷ words) = if is_slash word then Some ([], words) else option_map (λ parts. (word ∷ parts.0, parts.1)) (sides words)

-- the rule of line n with these words as its pattern
unfoldable pub one_pattern : (n : ℕ) → RuleKind → (number : ℕ) → List (List ℕ) → Option Rule
one_pattern n rule_kind number words = if is_pattern words then Some (record { line = n; kind = rule_kind; number = number; first = words; second = [] }) else None

-- the rule of line n with a number and a pattern
unfoldable pub counted : (n : ℕ) → List (List ℕ) → Option Rule
counted n [] = None
counted n (word ∷ words) = numeral word >>= λ number. one_pattern n kind.Count number words

-- the rule of line n with these two patterns
abbrev pub of_sides : (n : ℕ) → RuleKind → List (List ℕ) × List (List ℕ) → Option Rule
of_sides n rule_kind parts =
    if is_pattern parts.0 && is_pattern parts.1 then Some (record { line = n; kind = rule_kind; number = 0; first = parts.0; second = parts.1 }) else None

-- the rule of line n with two patterns, which a `/` separates
unfoldable pub two_patterns : (n : ℕ) → RuleKind → List (List ℕ) → Option Rule
two_patterns n rule_kind words = sides words >>= of_sides n rule_kind

-- the rule that the words of line n spell, if they spell one
unfoldable pub rule_of : (n : ℕ) → List (List ℕ) → Option Rule
rule_of n [] = None
rule_of n (word ∷ words) =
    if bytes_eq word (codes "never") then one_pattern n kind.Never 0 words
    else if bytes_eq word (codes "count") then counted n words
    else if bytes_eq word (codes "before") then two_patterns n kind.Before words
    else if bytes_eq word (codes "after") then two_patterns n kind.After words
    else if bytes_eq word (codes "thread") then two_patterns n kind.Thread words
    else None

-- the rule of line n, if it is one
unfoldable pub rule_in : (n : ℕ) → List ℕ → Option Rule
rule_in n line = if list_all is_allowed line then rule_of n (words_in line) else None
