-- The texts of fields and of lines, as their pieces one after the other.
use Rattle.pct_names.proofs.Names.{◌++◌, [], ap, codes, Event, event_names, event_words, flat_map-map, List, map, refl, Script, sym, What, ℕ, ◌∙◌, ◌∷◌}
use Rattle.pct_names.proofs.Names.{◌≡◌}
use Rattle.std.proofs.Common.{append_assoc}
use Rattle.std.specs.List.{flat_map}
use Rattle.std.proofs.lemmas.List.{append-nil}
use Rattle.std.proofs.lemmas.Grind.{flat_map-append}
use Rattle.pct_view_texts.specs.Fields.{Phrase, phrase_text, field_text, fields_text, before_comma, word_field}

-- a field of one phrase
pub one_phrase : (phrase : Phrase) → field_text (phrase ∷ []) ≡ phrase_text phrase
unfolding field_text
one_phrase phrase = append-nil (phrase_text phrase)

-- a field of one word
pub one_word : (word : List ℕ) → field_text (word_field word) ≡ word
one_word word = one_phrase (word ∷ [])

-- a field with a phrase for each item: the first phrase, and each other after a comma
pub phrase_each : {X : Type 0} (phrase_of : X → Phrase) (x : X) (xs : List X) → field_text (map phrase_of (x ∷ xs)) ≡ phrase_text (phrase_of x) ++ flat_map (λ y. codes ", " ++ phrase_text (phrase_of y)) xs
unfolding field_text
phrase_each phrase_of x xs = ap (λ text. phrase_text (phrase_of x) ++ text) (flat_map-map (λ (phrase : Phrase). codes ", " ++ phrase_text phrase) phrase_of xs)

-- the field of events
pub events_each : (script : Script) (first : Event) (others : List Event)
    → field_text (map (event_words (event_names script)) (map (λ e. e.what) (first ∷ others))) ≡ phrase_text (event_words (event_names script) first.what) ++ flat_map (λ e. codes ", " ++ phrase_text (event_words (event_names script) e.what)) others
events_each script first others =
    phrase_each (event_words (event_names script)) first.what (map (λ e. e.what) others)
    ∙ ap (λ text. phrase_text (event_words (event_names script) first.what) ++ text) (flat_map-map (λ (what : What). codes ", " ++ phrase_text (event_words (event_names script) what)) (λ (e : Event). e.what) others)

-- phrases before others
pub phrases_before : (phrases : List Phrase) (next : Phrase) (others : List Phrase) → field_text (phrases ++ next ∷ others) ≡ before_comma phrases ++ field_text (next ∷ others)
unfolding field_text
phrases_before [] next others = refl
phrases_before (first ∷ phrases) next others =
    let after = λ (phrase : Phrase). codes ", " ++ phrase_text phrase in
    ap (λ text. phrase_text first ++ text) (flat_map-append after phrases (next ∷ others))
    ∙ sym (append_assoc (phrase_text first) (flat_map after phrases) (codes ", " ++ field_text (next ∷ others)))
    ∙ sym (append_assoc (phrase_text first ++ flat_map after phrases) (codes ", ") (field_text (next ∷ others)))

-- a field of two phrases
pub two_phrases : (first second : Phrase) → field_text (first ∷ second ∷ []) ≡ phrase_text first ++ codes ", " ++ phrase_text second
two_phrases first second = phrases_before (first ∷ []) second [] ∙ (λ i. one_phrase first i ++ codes ", " ++ one_phrase second i)

-- a line is its first field, HT, and the line of the others
pub next_field : (first next : List Phrase) (fields : List (List Phrase)) → fields_text (first ∷ next ∷ fields) ≡ field_text first ++ 9 ∷ fields_text (next ∷ fields)
unfolding fields_text
next_field first next fields = append_assoc (field_text first) (9 ∷ (field_text next ++ flat_map (λ (field : List Phrase). 9 ∷ field_text field) fields)) (10 ∷ [])

-- the line of one field
pub last_field : (field : List Phrase) → fields_text (field ∷ []) ≡ field_text field ++ 10 ∷ []
unfolding fields_text
last_field field = ap (λ text. text ++ 10 ∷ []) (append-nil (field_text field))
