-- The forms of the code's tables, and the words that are left of a line. No public clause cites this file.
use Rattle.std.specs.Prelude.{ℕ, List, [], Option, Some, None}
use Rattle.std.specs.Borrow.{Bor}
use Rattle.pct_model.specs.declared.keyword.Keyword.{Keyword}
use Rattle.pct_model.specs.Lines.{words_of}
use Rattle.pct_report_reader.specs.declared.text.WordKind.{WordKind}
use Rattle.pct_report_reader.specs.Texts.{Form}

-- the form that a row of a table represents
abbrev pub as_form : Keyword × Bor (List WordKind) → Form
as_form row = record { first = row.0; kinds = row.1.now }

-- the words of the bytes, if there are bytes left, else none
abbrev pub words_left : Option (Bor (List ℕ)) → List (List ℕ)
words_left None = []
words_left (Some bytes) = words_of bytes.now
