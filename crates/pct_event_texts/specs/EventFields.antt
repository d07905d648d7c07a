-- The words of an event as the code builds them.
use Rattle.std.specs.Prelude.{ℕ, List, [], ◌∷◌}
use Rattle.pct_io.specs.Fields.{field_text}
use Rattle.pct_model.specs.Keywords.{keyword_text}
use Rattle.pct_event_texts.specs.declared.fields.Fields.{Fields}
use Rattle.pct_event_texts.specs.declared.fields.Fields.TheVariants.{One, Two, Three, Four}

-- the words: a fixed word, and the texts of the fields
abbrev pub words_of : Fields → List (List ℕ)
words_of (One word a) = keyword_text word ∷ field_text a ∷ []
words_of (Two word a b) = keyword_text word ∷ field_text a ∷ field_text b ∷ []
words_of (Three word a b c) = keyword_text word ∷ field_text a ∷ field_text b ∷ field_text c ∷ []
words_of (Four word a b c d) = keyword_text word ∷ field_text a ∷ field_text b ∷ field_text c ∷ field_text d ∷ []
