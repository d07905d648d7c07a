-- Which texts make the reader ask for memory.
use Rattle.std.specs.Prelude.{ℕ, ◌+◌, Bool, false, not, ◌&&◌, if◌then◌else◌, List, [], ◌∷◌, Option, Some, None, is_some}
use Rattle.pct_model.specs.declared.schedule.Config.{Config}
use Rattle.pct_model.specs.declared.schedule.Format.{Format}
use Rattle.pct_model.specs.declared.keyword.Keyword.TheVariants as keyword
use Rattle.pct_model.specs.Keywords.{keyword_text}
use Rattle.pct_model.specs.Lines.{lines_of, strip_cr}
use Rattle.pct_model.specs.Schedule.{begins, header_of, entry_in}

-- the header in the lines from line n on, the first that begins with `schedule `: its number, the line, and the lines after it
unfoldable pub header_line : ℕ → List (List ℕ) → Option (ℕ × List ℕ × List (List ℕ))
header_line n [] = None
header_line n (line ∷ lines) = if begins (keyword_text keyword.Schedule) (strip_cr line) then Some (n, strip_cr line, lines) else header_line (n + 1) lines

-- the first of the lines after a header is an entry of a schedule of this format
unfoldable pub entry_is_first : Format → List (List ℕ) → Bool
entry_is_first format [] = false
entry_is_first format (line ∷ lines) = not (begins (keyword_text keyword.End) (strip_cr line)) && is_some (entry_in format (strip_cr line))

-- the header is legal, and the line after it is an entry
abbrev pub entry_follows : Option Config → List (List ℕ) → Bool
entry_follows None lines = false
entry_follows (Some config) lines = entry_is_first config.format lines

-- the same of the header that was found, if any
abbrev pub has_entry_after : Option (ℕ × List ℕ × List (List ℕ)) → Bool
has_entry_after None = false
has_entry_after (Some header) = entry_follows (header_of header.1) header.2

-- the text has a legal header, and the line after it is an entry: so an entry is stored
unfoldable pub stores_an_entry : List ℕ → Bool
stores_an_entry text = has_entry_after (header_line 1 (lines_of text))
