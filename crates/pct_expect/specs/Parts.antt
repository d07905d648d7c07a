-- The parts in which a rule's line is read. No public clause cites this file.
use Rattle.std.specs.Prelude.{ℕ, if◌then◌else◌, List, [], ◌∷◌, length}
use Rattle.pct_model.specs.LineParsing.{words_in}
use Rattle.pct_expect.specs.declared.parsing.Parts.{Parts}
use Rattle.pct_expect.specs.declared.rule.Rule.{Rule}
use Rattle.pct_expect.specs.Rules.{is_slash}

-- the words before the first `/`, or all words if there is none
unfoldable pub before_slash : List (List ℕ) → List (List ℕ)
before_slash [] = []
before_slash (word ∷ words) = if is_slash word then [] else word ∷ before_slash words

-- how many words are before a `/`, and the words after it
abbrev pub size_and_rest : List (List ℕ) × List (List ℕ) → ℕ × List (List ℕ)
size_and_rest parts = (length parts.0, parts.1)

-- the rule of line n with these parts
abbrev pub rule_from : (n : ℕ) → Parts → Rule
rule_from n parts = record { line = n; kind = parts.kind; number = parts.number; first = before_slash (words_in parts.first.now); second = before_slash (words_in parts.second.now) }
