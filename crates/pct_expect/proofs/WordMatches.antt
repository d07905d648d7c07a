-- Which words a pattern matches, word by word.
use Rattle.std.proofs.lemmas.Bool.{eqb-true}
use Rattle.pct_names.proofs.Names.{◌&&◌, ◌==◌, [], ap, arith, Bool, false, false_from_ne_true, length, List, refl, sym, true, ℕ, ◌∙◌, ◌∷◌, ◌≡◌}
use Rattle.pct_expect.specs.Events.{matches, word_matches}

one_word : (asked word : List ℕ) (others after : List (List ℕ)) → matches (asked ∷ others) (word ∷ after) ≡ (word_matches asked word && matches others after)
unfolding matches
one_word asked word others after = refl

both : (pattern words : List (List ℕ)) (asked word : List ℕ) (others after : List (List ℕ)) → pattern ≡ asked ∷ others → words ≡ word ∷ after → matches pattern words ≡ (word_matches asked word && matches others after)
both pattern words asked word others after e f = ap (λ (p : List (List ℕ)). matches p words) e ∙ ap (matches (asked ∷ others)) f ∙ one_word asked word others after

pub word_passes : (pattern words : List (List ℕ)) (asked word : List ℕ) (others after : List (List ℕ)) → pattern ≡ asked ∷ others → words ≡ word ∷ after → word_matches asked word ≡ true
    → matches pattern words ≡ matches others after
word_passes pattern words asked word others after e f is = both pattern words asked word others after e f ∙ ap (λ (t : Bool). t && matches others after) is

pub word_fails : (pattern words : List (List ℕ)) (asked word : List ℕ) (others after : List (List ℕ)) → pattern ≡ asked ∷ others → words ≡ word ∷ after → word_matches asked word ≡ false → matches pattern words ≡ false
word_fails pattern words asked word others after e f is = both pattern words asked word others after e f ∙ ap (λ (t : Bool). t && matches others after) is

pub too_many_words : (pattern words : List (List ℕ)) (word : List ℕ) (after : List (List ℕ)) → pattern ≡ [] → words ≡ word ∷ after → matches pattern words ≡ false
unfolding matches
too_many_words pattern words word after e f = ap (λ (p : List (List ℕ)). matches p words) e ∙ ap (matches []) f

pub no_more_words : (pattern words : List (List ℕ)) → words ≡ [] → pattern ≡ [] → matches pattern words ≡ true
unfolding matches
no_more_words pattern words e f = ap (λ (p : List (List ℕ)). matches p words) f ∙ ap (matches []) e

pub too_few_words : (pattern words : List (List ℕ)) (asked : List ℕ) (others : List (List ℕ)) → words ≡ [] → pattern ≡ asked ∷ others → matches pattern words ≡ false
unfolding matches
too_few_words pattern words asked others e f = ap (λ (p : List (List ℕ)). matches p words) f ∙ ap (matches (asked ∷ others)) e

-- no word is left
pub at_the_end : (pattern words : List (List ℕ)) → words ≡ [] → (length pattern == 0) ≡ matches pattern words
at_the_end [] words e = sym (no_more_words [] words e refl)
at_the_end (asked ∷ others) words e =
    let some : (length (asked ∷ others) == 0) ≡ false =
    false_from_ne_true (length (asked ∷ others) == 0) (λ none. let same : length (asked ∷ others) ≡ 0 = eqb-true (length (asked ∷ others)) 0 none in absurd (omega (arith, same))) in
    some ∙ sym (too_few_words (asked ∷ others) words asked others e refl)
