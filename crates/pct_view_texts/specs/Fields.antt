-- The lines of `trace`, `choices` and `states`: fields separated by HT (byte 9). A field is a list of phrases, and a phrase is a list of words.
use Rattle.std.specs.Prelude.{ℕ, List, [], ◌∷◌, ◌++◌, flat_map, codes}
use Rattle.std.specs.List.{join_by, join_with_byte}

-- words, and numbers or names among them
abbrev pub Phrase : Type 0
Phrase = List (List ℕ)

-- the text of a phrase: its words separated by one space
abbrev pub phrase_text : Phrase → List ℕ
phrase_text words = join_with_byte 32 words

-- the text of a field: its phrases separated by a comma and a space, or `-` if there are none
unfoldable pub field_text : List Phrase → List ℕ
field_text [] = codes "-"
field_text (first ∷ phrases) = join_by phrase_text (codes ", ") (first ∷ phrases)

-- phrases before another phrase of their field: their text and a comma, or nothing if there are none
abbrev pub before_comma : List Phrase → List ℕ
before_comma [] = []
before_comma (first ∷ phrases) = field_text (first ∷ phrases) ++ codes ", "

-- phrases, each after a comma and a space
abbrev pub after_commas : List Phrase → List ℕ
after_commas phrases = flat_map (λ phrase. codes ", " ++ phrase_text phrase) phrases

-- a line: its fields separated by HT (byte 9), then LF (byte 10)
unfoldable pub fields_text : List (List Phrase) → List ℕ
fields_text fields = join_by field_text (9 ∷ []) fields ++ 10 ∷ []

-- the field that is one word
abbrev pub word_field : List ℕ → List Phrase
word_field word = (word ∷ []) ∷ []
