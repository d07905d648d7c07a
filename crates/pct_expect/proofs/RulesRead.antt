-- Which rule the parts of a line make.
use Rattle.pct_names.proofs.Names.{◌&&◌, ◌>>=◌, [], and_from, ap, Bool, false, if◌then◌else◌, length, List, list_all, None, numeral}
use Rattle.pct_names.proofs.Names.{Option, option_map, refl, same_Some, Some, sym, true, words_in, is_allowed, ℕ, ◌∙◌, ◌∷◌, ◌≡◌}
use Rattle.pct_expect.specs.declared.rule.Rule.{Rule}
use Rattle.pct_expect.specs.declared.rule.RuleKind.{RuleKind}
use Rattle.pct_expect.specs.declared.rule.RuleKind.TheVariants as kind
use Rattle.pct_expect.specs.Parts.{before_slash, size_and_rest}
use Rattle.pct_expect.specs.Rules.{counted, is_pattern, is_size, of_sides, one_pattern, rule_in, rule_of, sides, two_patterns}
use Rattle.pct_expect.proofs.Patterns.{front_none, before_slash_of_pattern, pattern_by_size, sides_found}

abbrev pub rule_with : ℕ → RuleKind → ℕ → List (List ℕ) → List (List ℕ) → Option Rule
rule_with n rule_kind number first second = Some (record { line = n; kind = rule_kind; number = number; first = first; second = second })

-- ---- a rule with one pattern

no_words : words_in [] ≡ []
unfolding words_in
no_words = refl

pub one_read : (n : ℕ) (rule_kind : RuleKind) (number : ℕ) (words empty : List (List ℕ)) → empty ≡ words_in [] → is_pattern words ≡ true
    → rule_with n rule_kind number (before_slash words) (before_slash empty) ≡ one_pattern n rule_kind number words
unfolding one_pattern
one_read n rule_kind number words empty e is =
    ap (λ (first : List (List ℕ)). rule_with n rule_kind number first (before_slash empty)) (before_slash_of_pattern words is)
    ∙ ap (λ (second : List (List ℕ)). rule_with n rule_kind number words second) (front_none empty (e ∙ no_words))
    ∙ ap (λ (t : Bool). if t then rule_with n rule_kind number words [] else None) (sym is)

pub one_refused : (n : ℕ) (rule_kind : RuleKind) (number : ℕ) (words : List (List ℕ)) → is_pattern words ≡ false → one_pattern n rule_kind number words ≡ None
unfolding one_pattern
one_refused n rule_kind number words is = ap (λ (t : Bool). if t then rule_with n rule_kind number words [] else None) is

-- ---- a rule with a number

pub counted_none : (n : ℕ) (words : List (List ℕ)) → words ≡ [] → counted n words ≡ None
unfolding counted
counted_none n words e = ap (counted n) e

pub counted_by : (n : ℕ) (words : List (List ℕ)) (word : List ℕ) (after : List (List ℕ)) (number : Option ℕ) → words ≡ word ∷ after → number ≡ numeral word
    → counted n words ≡ (number >>= λ m. one_pattern n kind.Count m after)
unfolding counted
counted_by n words word after number e is = ap (counted n) e ∙ ap (λ (o : Option ℕ). o >>= λ m. one_pattern n kind.Count m after) (sym is)

-- ---- a rule with two patterns

by_sides : (n : ℕ) (rule_kind : RuleKind) (words : List (List ℕ)) (found : Option (List (List ℕ) × List (List ℕ))) → sides words ≡ found → two_patterns n rule_kind words ≡ (found >>= of_sides n rule_kind)
unfolding two_patterns
by_sides n rule_kind words found e = ap (λ (o : Option (List (List ℕ) × List (List ℕ))). o >>= of_sides n rule_kind) e

-- the two sides that were found, by the number of words before the `/`
pub record AreFound (words : List (List ℕ)) (size : ℕ) (second : List (List ℕ)) : Type 0 where
  pub first : List (List ℕ)
  pub found : sides words ≡ Some (first, second)
  pub count : size ≡ length first

some_is_none : {A : Type 0} (x : A) → Some x ≡ None → ⊥
some_is_none x e = cc

none_is_some : {A : Type 0} (x : A) → None ≡ Some x → ⊥
none_is_some x e = cc

found_in : (words : List (List ℕ)) (found : Option (List (List ℕ) × List (List ℕ))) (size : ℕ) (second : List (List ℕ))
    → sides words ≡ found → option_map size_and_rest found ≡ Some (size, second) → AreFound words size second
found_in words None size second e is = absurd (none_is_some (size, second) is)
found_in words (Some parts) size second e is =
    let same = same_Some (size_and_rest parts) (size, second) is in
    let same_second : parts.1 ≡ second = ap (λ (p : ℕ × List (List ℕ)). p.1) same in
    let same_count : length parts.0 ≡ size = ap (λ (p : ℕ × List (List ℕ)). p.0) same in
    record { first = parts.0; found = e ∙ ap (λ (after : List (List ℕ)). Some (parts.0, after)) same_second; count = sym same_count }

pub found_sides : (words : List (List ℕ)) (size : ℕ) (second : List (List ℕ)) → option_map size_and_rest (sides words) ≡ Some (size, second) → AreFound words size second
found_sides words size second is = found_in words (sides words) size second refl is

none_in : (found : Option (List (List ℕ) × List (List ℕ))) → option_map size_and_rest found ≡ None → found ≡ None
none_in None is = refl
none_in (Some parts) is = absurd (some_is_none (size_and_rest parts) is)

pub two_none : (n : ℕ) (rule_kind : RuleKind) (words : List (List ℕ)) → option_map size_and_rest (sides words) ≡ None → two_patterns n rule_kind words ≡ None
two_none n rule_kind words is = by_sides n rule_kind words None (none_in (sides words) is)

size_of_first : (words : List (List ℕ)) (count : ℕ) (second : List (List ℕ)) (f : AreFound words count second) → is_pattern f.first ≡ is_size count
size_of_first words count second f = pattern_by_size f.first (sides_found words f.first second f.found).none ∙ ap is_size (sym f.count)

pub two_read : (n : ℕ) (rule_kind : RuleKind) (words : List (List ℕ)) (count : ℕ) (second : List (List ℕ)) → AreFound words count second → is_size count ≡ true → is_pattern second ≡ true
    → rule_with n rule_kind 0 (before_slash words) (before_slash second) ≡ two_patterns n rule_kind words
two_read n rule_kind words count second f size is =
    ap (λ (first : List (List ℕ)). rule_with n rule_kind 0 first (before_slash second)) (sides_found words f.first second f.found).front
    ∙ ap (λ (after : List (List ℕ)). rule_with n rule_kind 0 f.first after) (before_slash_of_pattern second is)
    ∙ ap (λ (t : Bool). if t then rule_with n rule_kind 0 f.first second else None) (sym (and_from (is_pattern f.first) (is_pattern second) (size_of_first words count second f ∙ size) is))
    ∙ sym (by_sides n rule_kind words (Some (f.first, second)) f.found)

pub two_refused : (n : ℕ) (rule_kind : RuleKind) (words : List (List ℕ)) (count : ℕ) (second : List (List ℕ)) → AreFound words count second → (is_size count && is_pattern second) ≡ false
    → two_patterns n rule_kind words ≡ None
two_refused n rule_kind words count second f not_both =
    by_sides n rule_kind words (Some (f.first, second)) f.found
    ∙ ap (λ (t : Bool). if t then rule_with n rule_kind 0 f.first second else None)
    (ap (λ (t : Bool). t && is_pattern second) (size_of_first words count second f) ∙ not_both)

-- ---- a line

pub rule_of_none : (n : ℕ) (words : List (List ℕ)) → words ≡ [] → rule_of n words ≡ None
unfolding rule_of
rule_of_none n words e = ap (rule_of n) e

pub line_refused : (n : ℕ) (line : List ℕ) → list_all is_allowed line ≡ false → rule_in n line ≡ None
unfolding rule_in
line_refused n line is = ap (λ (t : Bool). if t then rule_of n (words_in line) else None) is

pub line_allowed : (n : ℕ) (line : List ℕ) (words : List (List ℕ)) → list_all is_allowed line ≡ true → words_in line ≡ words → rule_in n line ≡ rule_of n words
unfolding rule_in
line_allowed n line words is e = ap (λ (t : Bool). if t then rule_of n (words_in line) else None) is ∙ ap (rule_of n) e
