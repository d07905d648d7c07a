-- The words of a text, one after the other, as the code compares them with the kinds of a form.
use Rattle.pct_names.proofs.Names.{◌&&◌, ◌||◌, ◌<◌, [], ap, arith, Bool, false, is_some, length, List, list_any, map, None, not, Option}
use Rattle.pct_names.proofs.Names.{refl, Some, sym, true, words_of, ℕ, ◌∙◌, ◌∷◌, ◌≡◌}
use Rattle.std.specs.Borrow.{Bor}
use Rattle.pct_text.proofs.Lines.{words_of-some}
use Rattle.pct_report_reader.specs.declared.text.WordKind.{WordKind}
use Rattle.pct_report_reader.specs.Forms.{words_left}
use Rattle.pct_report_reader.specs.Texts.{are_words, is_word}

-- ---- one word

module _ (kinds others : List WordKind) (words after : List (List ℕ)) (kind : WordKind) (word : List ℕ) (first : kinds ≡ kind ∷ others) where
  one_word : words ≡ word ∷ after → are_words kinds words ≡ (is_word kind word && are_words others after)
  unfolding are_words
  one_word e = ap (λ (ks : List WordKind). are_words ks words) first ∙ ap (are_words (kind ∷ others)) e

  pub word_fails : words ≡ word ∷ after → is_word kind word ≡ false → are_words kinds words ≡ false
  word_fails e fails = one_word e ∙ ap (λ (t : Bool). t && are_words others after) fails

  pub word_passes : words ≡ word ∷ after → is_word kind word ≡ true → are_words kinds words ≡ are_words others after
  word_passes e passes = one_word e ∙ ap (λ (t : Bool). t && are_words others after) passes

pub word_missing : (kinds others : List WordKind) (words : List (List ℕ)) (kind : WordKind) → kinds ≡ kind ∷ others → words ≡ [] → are_words kinds words ≡ false
unfolding are_words
word_missing kinds others words kind first e = ap (λ (ks : List WordKind). are_words ks words) first ∙ ap (are_words (kind ∷ others)) e

-- ---- after the last kind

too_many : (words : List (List ℕ)) → 0 < length words → are_words [] words ≡ false
unfolding are_words
too_many [] some = absurd (omega arith)
too_many (word ∷ words) some = refl

flipped : (b t : Bool) → t ≡ not b → b ≡ not t
flipped true t e = sym (ap not e)
flipped false t e = sym (ap not e)

pub all_compared : (kinds : List WordKind) (rest : Option (Bor (List ℕ))) (done : Bool) → kinds ≡ [] → is_some rest ≡ not done → are_words kinds (words_left rest) ≡ done
unfolding are_words
all_compared kinds None done e some = ap (λ (ks : List WordKind). are_words ks []) e ∙ sym (flipped done false some)
all_compared kinds (Some bytes) done e some =
    ap (λ (ks : List WordKind). are_words ks (words_of bytes.now)) e ∙ too_many (words_of bytes.now) (words_of-some bytes.now) ∙ sym (flipped done true some)

-- ---- tables

pub list_any-map : {X Y : Type 0} (p : Y → Bool) (f : X → Y) (xs : List X) → list_any p (map f xs) ≡ list_any (λ x. p (f x)) xs
list_any-map p f [] = refl
list_any-map p f (x ∷ xs) = ap (λ (t : Bool). p (f x) || t) (list_any-map p f xs)

pub list_any-never : {X : Type 0} (xs : List X) → list_any (λ _. false) xs ≡ false
list_any-never [] = refl
list_any-never (x ∷ xs) = list_any-never xs
