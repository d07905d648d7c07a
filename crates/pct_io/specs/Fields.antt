-- The texts of the fields of a line.
use Rattle.std.specs.Prelude.{ℕ, List, ◌∷◌, ◌++◌, decimal}
use Rattle.pct_io.specs.declared.line.Field.{Field}
use Rattle.pct_io.specs.declared.line.Field.TheVariants.{Text, Number, Count, Dotted}

-- the bytes of a field
abbrev pub field_text : Field → List ℕ
field_text (Text text) = text.now
field_text (Number number) = decimal number
field_text (Count count) = decimal count
field_text (Dotted first second) = decimal first ++ 46 ∷ decimal second
