-- The first option of some words, and the options of the words after it.
use Rattle.pct_names.proofs.Names.{◌<◌, [], add-one, after_first, ap, arith, before_first, drop, given_after, GivenOption, le-ltb, length}
use Rattle.pct_names.proofs.Names.{List, MatchOption, nat_eq, None, none-some, Option, option_map, option_map_or, position, position_or_len}
use Rattle.pct_names.proofs.Names.{refl, same_Some, Some, subst, suc, sym, take, ℕ, ◌∷◌, ◌≡◌}
use Rattle.std.proofs.Common.{Bor}
use Rattle.std.proofs.lemmas.Bool.{lt-ltb}
use Rattle.pct_options.specs.FirstOption.{split_name, option_in, first_option}

-- the index of the first `=`, or the length of the word
abbrev index : List ℕ → ℕ
index word = position_or_len (λ b. nat_eq b 61) word

-- a word is split at its first `=`
pub split_as_read : (word : List ℕ) (r : Option (Bor (List ℕ) × Bor (List ℕ)))
    → MatchOption r (index word ≡ length word) (λ parts. (index word < length word) × (parts.0.now ≡ before_first (λ b. nat_eq b 61) word) × (parts.1.now ≡ after_first (λ b. nat_eq b 61) word))
    → option_map (λ parts. (parts.0.now, parts.1.now)) r ≡ split_name word
unfolding split_name
split_as_read word None past = rw (le-ltb (index word) (length word) (omega (arith, past))) refl
split_as_read word (Some parts) is = rw (lt-ltb (index word) (length word) is.0, is.1, is.2, add-one (index word)) refl

-- the options of some words are the first one, and those of the words after it
given_by : (at : Option ℕ) (word : List ℕ) (words after : List (List ℕ)) (g : GivenOption) → option_in word (option_map (λ i. (take i word, drop (suc i) word)) at) words ≡ Some (g, after)
    → option_map_or (λ i. option_map (λ rest. record { name = take i word; value = drop (suc i) word } ∷ rest) (given_after None words)) at (given_after (Some word) words) ≡ option_map (λ rest. g ∷ rest) (given_after None after)
unfolding given_after
given_by (Some i) word words after g is = ap (λ (p : GivenOption × List (List ℕ)). option_map (λ rest. p.0 ∷ rest) (given_after None p.1)) (same_Some _ _ is)
given_by None word [] after g is = absurd (none-some (g, after) is)
given_by None word (value ∷ words) after g is = ap (λ (p : GivenOption × List (List ℕ)). option_map (λ rest. p.0 ∷ rest) (given_after None p.1)) (same_Some _ _ is)

pub given_first : (words after : List (List ℕ)) (g : GivenOption) → first_option words ≡ Some (g, after) → given_after None words ≡ option_map (λ rest. g ∷ rest) (given_after None after)
unfolding first_option split_name given_after
given_first [] after g is = absurd (none-some (g, after) is)
given_first (word ∷ words) after g is = given_by (position (λ b. nat_eq b 61) word) word words after g is

-- words that begin with no option give none
given_none_by : (at : Option ℕ) (word : List ℕ) (words : List (List ℕ)) → option_in word (option_map (λ i. (take i word, drop (suc i) word)) at) words ≡ None
    → option_map_or (λ i. option_map (λ rest. record { name = take i word; value = drop (suc i) word } ∷ rest) (given_after None words)) at (given_after (Some word) words) ≡ None
unfolding given_after
given_none_by (Some i) word words none = absurd (none-some _ (sym none))
given_none_by None word [] none = refl
given_none_by None word (value ∷ words) none = absurd (none-some _ (sym none))

pub given_none : (words : List (List ℕ)) → 0 < length words → first_option words ≡ None → given_after None words ≡ None
unfolding first_option split_name given_after
given_none [] some none = absurd (omega (arith, some))
given_none (word ∷ words) some none = given_none_by (position (λ b. nat_eq b 61) word) word words none

-- fewer words are left
shorter_by : (word : List ℕ) (parts : Option (List ℕ × List ℕ)) (words after : List (List ℕ)) (g : GivenOption) → option_in word parts words ≡ Some (g, after) → length after < suc (length words)
shorter_by word (Some parts) words after g is = subst (λ (p : GivenOption × List (List ℕ)). length p.1 < suc (length words)) (same_Some _ (g, after) is) (omega arith)
shorter_by word None [] after g is = absurd (none-some (g, after) is)
shorter_by word None (value ∷ words) after g is = subst (λ (p : GivenOption × List (List ℕ)). length p.1 < suc (suc (length words))) (same_Some _ (g, after) is) (omega arith)

pub shorter : (words after : List (List ℕ)) (g : GivenOption) → first_option words ≡ Some (g, after) → length after < length words
unfolding first_option
shorter [] after g is = absurd (none-some (g, after) is)
shorter (word ∷ words) after g is = shorter_by word (split_name word) words after g is
