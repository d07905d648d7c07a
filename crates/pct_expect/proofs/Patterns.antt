-- Patterns, and the words before and after a `/`.
use Rattle.std.proofs.lemmas.List.{append-nil, append_assoc}
use Rattle.pct_names.proofs.Names.{◌&&◌, ◌+◌, ◌++◌, [], and_parts, ap, arith, Bool, cases_Bool, false, if◌then◌else◌, inl, inr, length, List}
use Rattle.pct_names.proofs.Names.{list_all, None, not, not-true, Option, option_map, refl, same_Some, Some, sym, true, ℕ, ◌∙◌, ◌∷◌, ◌≡◌}
use Rattle.std.proofs.Math.Bool.{and-true}
use Rattle.pct_expect.specs.Parts.{before_slash, size_and_rest}
use Rattle.pct_expect.specs.Rules.{is_pattern, is_size, is_slash, sides}

none_is_some : (parts : List (List ℕ) × List (List ℕ)) → None ≡ Some parts → ⊥
none_is_some parts e = cc

-- ---- a list of words

-- no word is `/`
abbrev pub no_slash : List (List ℕ) → Bool
no_slash words = list_all (λ word. not (is_slash word)) words

pub slash_first : (words : List (List ℕ)) (word : List ℕ) (after : List (List ℕ)) → words ≡ word ∷ after → is_slash word ≡ true → no_slash words ≡ false
slash_first words word after e is = ap no_slash e ∙ ap (λ (t : Bool). not t && no_slash after) is

pub slash_later : (words : List (List ℕ)) (word : List ℕ) (after : List (List ℕ)) → words ≡ word ∷ after → is_slash word ≡ false → no_slash words ≡ no_slash after
slash_later words word after e is = ap no_slash e ∙ ap (λ (t : Bool). not t && no_slash after) is

and-false : (t : Bool) → (t && false) ≡ false
and-false true = refl
and-false false = refl

-- words with a `/` are no pattern
pub no_pattern : (words : List (List ℕ)) → no_slash words ≡ false → is_pattern words ≡ false
unfolding is_pattern
no_pattern words slash = ap (λ (t : Bool). is_size (length words) && t) slash ∙ and-false (is_size (length words))

-- words without a `/` are a pattern if there are so many
pub pattern_by_size : (words : List (List ℕ)) → no_slash words ≡ true → is_pattern words ≡ is_size (length words)
unfolding is_pattern
pattern_by_size words none = ap (λ (t : Bool). is_size (length words) && t) none ∙ and-true (is_size (length words))

pattern_parts : (words : List (List ℕ)) → is_pattern words ≡ true → (is_size (length words) ≡ true) × (no_slash words ≡ true)
unfolding is_pattern
pattern_parts words is = and_parts (is_size (length words)) (no_slash words) is

-- ---- the words before the first `/`

pub front_first : (words : List (List ℕ)) (word : List ℕ) (after : List (List ℕ)) → words ≡ word ∷ after → is_slash word ≡ true → before_slash words ≡ []
unfolding before_slash
front_first words word after e is = ap before_slash e ∙ ap (λ (t : Bool). if t then [] else word ∷ before_slash after) is

pub front_later : (words : List (List ℕ)) (word : List ℕ) (after : List (List ℕ)) → words ≡ word ∷ after → is_slash word ≡ false → before_slash words ≡ word ∷ before_slash after
unfolding before_slash
front_later words word after e is = ap before_slash e ∙ ap (λ (t : Bool). if t then [] else word ∷ before_slash after) is

pub front_none : (words : List (List ℕ)) → words ≡ [] → before_slash words ≡ []
unfolding before_slash
front_none words e = ap before_slash e

pub front_whole : (words : List (List ℕ)) → no_slash words ≡ true → before_slash words ≡ words
front_whole [] none = front_none [] refl
front_whole (word ∷ words) none =
    let parts = and_parts (not (is_slash word)) (no_slash words) none in
    front_later (word ∷ words) word words refl (not-true (is_slash word) parts.0) ∙ ap (λ (others : List (List ℕ)). word ∷ others) (front_whole words parts.1)

-- a pattern is all words before a slash
pub before_slash_of_pattern : (words : List (List ℕ)) → is_pattern words ≡ true → before_slash words ≡ words
before_slash_of_pattern words is = front_whole words (pattern_parts words is).1

-- a word is stored after the others
pub stored_word : (words : List (List ℕ)) (word copy : List ℕ) (rest more : List (List ℕ)) → copy ≡ word → more ≡ words ++ copy ∷ [] → words ++ (word ∷ rest) ≡ more ++ rest
stored_word words word copy rest more same e =
    ap (λ (w : List ℕ). words ++ (w ∷ rest)) (sym same) ∙ sym (append_assoc words (copy ∷ []) rest) ∙ ap (λ (items : List (List ℕ)). items ++ rest) (sym e)

pub nothing_after : (words rest : List (List ℕ)) → rest ≡ [] → words ++ rest ≡ words
nothing_after words rest e = ap (λ (others : List (List ℕ)). words ++ others) e ∙ append-nil words

-- ---- the two sides of a `/`

pub sides_first : (words : List (List ℕ)) (word : List ℕ) (after : List (List ℕ)) → words ≡ word ∷ after → is_slash word ≡ true → sides words ≡ Some ([], after)
unfolding sides
sides_first words word after e is = ap sides e ∙ ap (λ (t : Bool). if t then Some ([], after) else option_map (λ parts. (word ∷ parts.0, parts.1)) (sides after)) is

-- one more word before the others
abbrev pub with_word : List ℕ → List (List ℕ) × List (List ℕ) → List (List ℕ) × List (List ℕ)
with_word word parts = (word ∷ parts.0, parts.1)

pub sides_later : (words : List (List ℕ)) (word : List ℕ) (after : List (List ℕ)) → words ≡ word ∷ after → is_slash word ≡ false → sides words ≡ option_map (with_word word) (sides after)
unfolding sides
sides_later words word after e is = ap sides e ∙ ap (λ (t : Bool). if t then Some ([], after) else option_map (λ parts. (word ∷ parts.0, parts.1)) (sides after)) is

pub sides_none : (words : List (List ℕ)) → words ≡ [] → sides words ≡ None
unfolding sides
sides_none words e = ap sides e

-- how many words are before the `/`, n more than these, and the words after it
abbrev pub sized : ℕ → List (List ℕ) × List (List ℕ) → ℕ × List (List ℕ)
sized n parts = (n + length parts.0, parts.1)

pub sized_later : (n : ℕ) (word : List ℕ) (found : Option (List (List ℕ) × List (List ℕ))) → option_map (sized n) (option_map (with_word word) found) ≡ option_map (sized (n + 1)) found
sized_later n word None = refl
sized_later n word (Some parts) =
    let same : n + length (word ∷ parts.0) ≡ n + 1 + length parts.0 = omega arith in
    ap (λ (m : ℕ). Some (m, parts.1)) same

pub sized_none : (found : Option (List (List ℕ) × List (List ℕ))) → option_map size_and_rest found ≡ option_map (sized 0) found
sized_none None = refl
sized_none (Some parts) =
    let same : length parts.0 ≡ 0 + length parts.0 = omega arith in
    ap (λ (m : ℕ). Some (m, parts.1)) same

pub sized_first : (n : ℕ) (after : List (List ℕ)) → option_map (sized n) (Some ([], after)) ≡ Some (n, after)
sized_first n after =
    let same : n + 0 ≡ n = omega arith in
    ap (λ (m : ℕ). Some (m, after)) same

-- the words before the first `/` have none
pub record AreSides (words : List (List ℕ)) (first second : List (List ℕ)) : Type 0 where
  pub front : before_slash words ≡ first
  pub none : no_slash first ≡ true

later_sides : (words : List (List ℕ)) (word : List ℕ) (found : Option (List (List ℕ) × List (List ℕ))) (first second : List (List ℕ)) → is_slash word ≡ false
    → ((before : List (List ℕ)) → found ≡ Some (before, second) → AreSides words before second) → option_map (with_word word) found ≡ Some (first, second) → AreSides (word ∷ words) first second
later_sides words word None first second is more e = absurd (none_is_some (first, second) e)
later_sides words word (Some parts) first second is more e =
    let same = same_Some (word ∷ parts.0, parts.1) (first, second) e in
    let same_first : word ∷ parts.0 ≡ first = ap (λ (p : List (List ℕ) × List (List ℕ)). p.0) same in
    let same_second : parts.1 ≡ second = ap (λ (p : List (List ℕ) × List (List ℕ)). p.1) same in
    let rest = more parts.0 (ap (λ (after : List (List ℕ)). Some (parts.0, after)) same_second) in
    record {
      front = front_later (word ∷ words) word words refl is ∙ ap (λ (others : List (List ℕ)). word ∷ others) rest.front ∙ same_first;
      none = sym (ap no_slash same_first) ∙ ap (λ (t : Bool). not t && no_slash parts.0) is ∙ rest.none;
    }

pub sides_found : (words first second : List (List ℕ)) → sides words ≡ Some (first, second) → AreSides words first second
sides_found [] first second e = absurd (none_is_some (first, second) (sym (sides_none [] refl) ∙ e))
sides_found (word ∷ words) first second e =
    elim (cases_Bool (is_slash word)) [
      | inl is ↦
          let same = same_Some ([], words) (first, second) (sym (sides_first (word ∷ words) word words refl is) ∙ e) in
          let empty : [] ≡ first = ap (λ (p : List (List ℕ) × List (List ℕ)). p.0) same in
          record { front = front_first (word ∷ words) word words refl is ∙ empty; none = sym (ap no_slash empty) }
      | inr is ↦ later_sides words word (sides words) first second is (λ before f. sides_found words before second f) (sym (sides_later (word ∷ words) word words refl is) ∙ e)
    ]
