-- As many fields as words, read as values by the kinds of a form.
use Rattle.pct_names.proofs.Names.{[], ap, List, None, Option, refl, Some, sym, ℕ, ◌∙◌, ◌∷◌, ◌≡◌}
use Rattle.pct_model.specs.declared.event.What.{What}
use Rattle.pct_model.specs.EventTexts.{EventNames}
use Rattle.pct_model.specs.Lines.{◌>>=◌}
use Rattle.pct_name_numbers.specs.EventReading.{Field, Reading, four, one, three, two}
use Rattle.pct_report_reader.specs.declared.text.WordKind.{WordKind}
use Rattle.pct_event_reader.specs.declared.value.Value.{Value}
use Rattle.pct_event_reader.specs.Values.{read_map, value_of, values_of}

-- a field, and the words of a kind: a word has the value that the field has
pub record KindField (A : Type 0) : Type 0 where
  pub kind : WordKind
  pub value : A → Value
  pub field : Field A
  pub same : (n : EventNames) (w : List ℕ) → value_of kind n w ≡ read_map value (field n w)

-- words of these kinds are read as the event that their values make
abbrev pub IsRow : (EventNames → List (List ℕ) → Reading What) → List WordKind → (List Value → What) → Type 0
IsRow read kinds make = (n : EventNames) (words : List (List ℕ)) → read n words ≡ read_map make (values_of kinds n words)

never : {A B : Type 0} (o : Option A) → ◌≡◌ {A = Option B} (o >>= λ _. None) None
never None = refl
never (Some a) = refl

module _ {A : Type 0} (x : KindField A) (kinds : List WordKind) (make : List Value → What) (rest : A → EventNames → List (List ℕ) → Reading What)
    (rows : (a : A) → IsRow (rest a) kinds (λ values. make (x.value a ∷ values))) where
  both : (a : A) (others : Reading (List Value))
      → read_map make (read_map (λ values. x.value a ∷ values) others) ≡ read_map (λ values. make (x.value a ∷ values)) others
  both a None = refl
  both a (Some s) = refl

  -- the event, by what is read of the first word
  by_first : (words : List (List ℕ)) (first : Reading A)
      → (first >>= λ r. rest r.1 r.0 words)
      ≡ read_map make (read_map x.value first >>= λ r. read_map (λ values. r.1 ∷ values) (values_of kinds r.0 words))
  by_first words None = refl
  by_first words (Some r) = rows r.1 r.0 words ∙ sym (both r.1 (values_of kinds r.0 words))

  first_row : (n : EventNames) (w : List ℕ) (words : List (List ℕ)) → (x.field n w >>= λ r. rest r.1 r.0 words) ≡ read_map make (values_of (x.kind ∷ kinds) n (w ∷ words))
  unfolding values_of
  first_row n w words =
      by_first words (x.field n w)
      ∙ ap (λ (first : Reading Value). read_map make (first >>= λ r. read_map (λ values. r.1 ∷ values) (values_of kinds r.0 words))) (sym (x.same n w))

-- an event whose words are all read
abbrev nothing_left : What → EventNames → List (List ℕ) → Reading What
nothing_left what n [] = Some (n, what)
nothing_left what n (w ∷ words) = None

nothing_row : (made : What) (make : List Value → What) → make [] ≡ made → IsRow (nothing_left made) [] make
unfolding values_of
nothing_row made make is n [] = ap (λ (what : What). Some (n, what)) (sym is)
nothing_row made make is n (w ∷ words) = refl

module _ {A : Type 0} (x : KindField A) (event : A → What) (make : List Value → What) (made : (a : A) → make (x.value a ∷ []) ≡ event a) where
  mapped : (read : Reading A) → read_map event read ≡ (read >>= λ r. nothing_left (event r.1) r.0 [])
  mapped None = refl
  mapped (Some r) = refl

  one_by_first : (n : EventNames) (w : List ℕ) (words : List (List ℕ)) → one event x.field n (w ∷ words) ≡ (x.field n w >>= λ r. nothing_left (event r.1) r.0 words)
  one_by_first n w [] = mapped (x.field n w)
  one_by_first n w (v ∷ words) = sym (never (x.field n w))

  pub one_row : IsRow (one event x.field) (x.kind ∷ []) make
  unfolding values_of
  one_row n [] = refl
  one_row n (w ∷ words) = one_by_first n w words ∙ first_row x [] make (λ a. nothing_left (event a)) (λ a. nothing_row (event a) (λ values. make (x.value a ∷ values)) (made a)) n w words

module _ {A B : Type 0} (x : KindField A) (y : KindField B) (event : A → B → What) (make : List Value → What)
    (made : (a : A) (b : B) → make (x.value a ∷ y.value b ∷ []) ≡ event a b) where
  two_by_first : (n : EventNames) (w : List ℕ) (words : List (List ℕ)) → two event x.field y.field n (w ∷ words) ≡ (x.field n w >>= λ r. one (event r.1) y.field r.0 words)
  two_by_first n w [] = sym (never (x.field n w))
  two_by_first n w (v ∷ []) = refl
  two_by_first n w (v ∷ u ∷ words) = sym (never (x.field n w))

  pub two_row : IsRow (two event x.field y.field) (x.kind ∷ y.kind ∷ []) make
  unfolding values_of
  two_row n [] = refl
  two_row n (w ∷ words) =
      two_by_first n w words
      ∙ first_row x (y.kind ∷ []) make (λ a. one (event a) y.field) (λ a. one_row y (event a) (λ values. make (x.value a ∷ values)) (made a)) n w words

module _ {A B C : Type 0} (x : KindField A) (y : KindField B) (z : KindField C) (event : A → B → C → What) (make : List Value → What)
    (made : (a : A) (b : B) (c : C) → make (x.value a ∷ y.value b ∷ z.value c ∷ []) ≡ event a b c) where
  three_by_first : (n : EventNames) (w : List ℕ) (words : List (List ℕ))
      → three event x.field y.field z.field n (w ∷ words) ≡ (x.field n w >>= λ r. two (event r.1) y.field z.field r.0 words)
  three_by_first n w [] = sym (never (x.field n w))
  three_by_first n w (v ∷ []) = sym (never (x.field n w))
  three_by_first n w (v ∷ u ∷ []) = refl
  three_by_first n w (v ∷ u ∷ t ∷ words) = sym (never (x.field n w))

  pub three_row : IsRow (three event x.field y.field z.field) (x.kind ∷ y.kind ∷ z.kind ∷ []) make
  unfolding values_of
  three_row n [] = refl
  three_row n (w ∷ words) =
      three_by_first n w words
      ∙ first_row x (y.kind ∷ z.kind ∷ []) make (λ a. two (event a) y.field z.field) (λ a. two_row y z (event a) (λ values. make (x.value a ∷ values)) (made a)) n w words

module _ {A B C D : Type 0} (x : KindField A) (y : KindField B) (z : KindField C) (t : KindField D) (event : A → B → C → D → What) (make : List Value → What)
    (made : (a : A) (b : B) (c : C) (d : D) → make (x.value a ∷ y.value b ∷ z.value c ∷ t.value d ∷ []) ≡ event a b c d) where
  four_by_first : (n : EventNames) (w : List ℕ) (words : List (List ℕ))
      → four event x.field y.field z.field t.field n (w ∷ words) ≡ (x.field n w >>= λ r. three (event r.1) y.field z.field t.field r.0 words)
  four_by_first n w [] = sym (never (x.field n w))
  four_by_first n w (v ∷ []) = sym (never (x.field n w))
  four_by_first n w (v ∷ u ∷ []) = sym (never (x.field n w))
  four_by_first n w (v ∷ u ∷ s ∷ []) = refl
  four_by_first n w (v ∷ u ∷ s ∷ r ∷ words) = sym (never (x.field n w))

  pub four_row : IsRow (four event x.field y.field z.field t.field) (x.kind ∷ y.kind ∷ z.kind ∷ t.kind ∷ []) make
  unfolding values_of
  four_row n [] = refl
  four_row n (w ∷ words) =
      four_by_first n w words
      ∙ first_row x (y.kind ∷ z.kind ∷ t.kind ∷ []) make (λ a. three (event a) y.field z.field t.field)
      (λ a. three_row y z t (event a) (λ values. make (x.value a ∷ values)) (made a)) n w words
