-- The values of words, one after the other.
use Rattle.pct_names.proofs.Names.{[], ap, false≢true, is_some, List, None, Option, refl, Some, sym, true, ℕ, ◌&&◌, ◌++◌, ◌∙◌, ◌∷◌, ◌≡◌, and_parts}
use Rattle.std.proofs.lemmas.List.{append-nil, append_assoc}
use Rattle.std.specs.Borrow.{Bor}
use Rattle.pct_model.specs.EventTexts.{EventNames}
use Rattle.pct_model.specs.Lines.{◌>>=◌}
use Rattle.pct_name_numbers.specs.EventReading.{Reading}
use Rattle.pct_report_reader.specs.declared.text.WordKind.{WordKind}
use Rattle.pct_report_reader.specs.Forms.{words_left}
use Rattle.pct_report_reader.specs.Texts.{are_words, is_word}
use Rattle.pct_event_reader.specs.declared.numbers.EventNumbers.{EventNumbers}
use Rattle.pct_event_reader.specs.declared.value.Value.{Value}
use Rattle.pct_event_reader.specs.Numberings.{IsNumberings, Numbers}
use Rattle.pct_event_reader.specs.Values.{read_map, value_of, values_of}

-- what is read are these values and those of the words that are left
abbrev pub ReadSoFar : Reading (List Value) → EventNumbers → List Value → List WordKind → List (List ℕ) → Type 0
ReadSoFar whole table values kinds words =
    (names : EventNames) × (whole ≡ read_map (λ more. values ++ more) (values_of kinds names words)) × IsNumberings table names

-- ---- the kinds that are left

pub some_left : (kinds others : List WordKind) (kind : WordKind) (rest : Option (Bor (List ℕ))) → kinds ≡ kind ∷ others → are_words kinds (words_left rest) ≡ true → is_some rest ≡ true
unfolding are_words
some_left kinds others kind None first are = absurd (false≢true (sym (ap (λ (ks : List WordKind). are_words ks []) first) ∙ are))
some_left kinds others kind (Some bytes) first are = refl

module _ (kinds others : List WordKind) (kind : WordKind) (words after : List (List ℕ)) (word : List ℕ) (first : kinds ≡ kind ∷ others) (is : words ≡ word ∷ after) (are : are_words kinds words ≡ true) where
  both : (is_word kind word && are_words others after) ≡ true
  unfolding are_words
  both = sym (ap (λ (ks : List WordKind). are_words ks words) first ∙ ap (are_words (kind ∷ others)) is) ∙ are

  pub first_passes : is_word kind word ≡ true
  first_passes = (and_parts (is_word kind word) (are_words others after) both).0

  pub others_pass : are_words others after ≡ true
  others_pass = (and_parts (is_word kind word) (are_words others after) both).1

-- ---- values

module _ (whole : Reading (List Value)) (before after : EventNumbers) (values grown : List Value) (kinds others : List WordKind) (kind : WordKind) (words rest : List (List ℕ)) (word : List ℕ) (v : Value)
    (first : kinds ≡ kind ∷ others) (is : words ≡ word ∷ rest) (pushed : grown ≡ values ++ v ∷ []) where
  joined : (more : Reading (List Value))
      → read_map (λ more. values ++ more) (read_map (λ more. v ∷ more) more) ≡ read_map (λ more. grown ++ more) more
  joined None = refl
  joined (Some s) = ap (λ (all : List Value). Some (s.0, all)) (sym (append_assoc values (v ∷ []) s.1) ∙ ap (λ (all : List Value). all ++ s.1) (sym pushed))

  one_read : (names next : EventNames) → value_of kind names word ≡ Some (next, v)
      → read_map (λ more. values ++ more) (values_of kinds names words) ≡ read_map (λ more. grown ++ more) (values_of others next rest)
  unfolding values_of
  one_read names next read =
      ap (λ (ks : List WordKind). read_map (λ more. values ++ more) (values_of ks names words)) first
      ∙ ap (λ (ws : List (List ℕ)). read_map (λ more. values ++ more) (values_of (kind ∷ others) names ws)) is
      ∙ ap (λ (o : Reading Value). read_map (λ more. values ++ more) (o >>= λ r. read_map (λ more. r.1 ∷ more) (values_of others r.0 rest))) read
      ∙ joined (values_of others next rest)

  pub read_more : ReadSoFar whole before values kinds words → ((names : EventNames) → IsNumberings before names → Numbers (value_of kind names word) after v) → ReadSoFar whole after grown others rest
  read_more so_far next =
      let here = next so_far.0 so_far.2 in
      (here.0, so_far.1 ∙ one_read so_far.0 here.0 here.1, here.2)

no_words : (kinds : List WordKind) (words : List (List ℕ)) (names : EventNames) → kinds ≡ [] → are_words kinds words ≡ true → values_of kinds names words ≡ Some (names, [])
unfolding are_words values_of
no_words kinds [] names none are = ap (λ (ks : List WordKind). values_of ks names []) none
no_words kinds (w ∷ words) names none are = absurd (false≢true (sym (ap (λ (ks : List WordKind). are_words ks (w ∷ words)) none) ∙ are))

pub read_all : (whole : Reading (List Value)) (table : EventNumbers) (values : List Value) (kinds : List WordKind) (words : List (List ℕ)) → kinds ≡ [] → are_words kinds words ≡ true
    → ReadSoFar whole table values kinds words → Numbers whole table values
read_all whole table values kinds words none are so_far = (
  so_far.0,
  so_far.1 ∙ ap (read_map (λ more. values ++ more)) (no_words kinds words so_far.0 none are) ∙ ap (λ (all : List Value). Some (so_far.0, all)) (append-nil values),
  so_far.2,
)

pub read_none : (whole : Reading (List Value)) (table : EventNumbers) (names : EventNames) (kinds : List WordKind) (words : List (List ℕ)) (values : List Value) → values ≡ []
    → whole ≡ values_of kinds names words → IsNumberings table names → ReadSoFar whole table values kinds words
read_none whole table names kinds words values none is table_is = (names, is ∙ sym (kept (values_of kinds names words)), table_is)
  where
    kept : (o : Reading (List Value)) → read_map (λ more. values ++ more) o ≡ o
    kept None = refl
    kept (Some s) = ap (λ (all : List Value). Some (s.0, all ++ s.1)) none
