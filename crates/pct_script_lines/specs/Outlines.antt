-- Outlines of lines: their kinds and numbers of tokens.
use Rattle.std.specs.Prelude.{ℕ, List, [], ◌∷◌, filter_map, length, map, Option, None, option_map}
use Rattle.pct_model.specs.declared.role.Role.{Role}
use Rattle.pct_model.specs.declared.parsed_line.ParsedLine.{ParsedLine}
use Rattle.pct_model.specs.LineKinds.{syntax_of, line_kind_of}
use Rattle.pct_model.specs.Sections.{Line}
use Rattle.pct_model.specs.LineParsing.{Numbered, words_in}
use Rattle.pct_script_lines.specs.declared.stored_lines.LineOutline.{LineOutline}

-- the outline of a line of these words
abbrev pub outline_of_words : List (List ℕ) → Option LineOutline
outline_of_words [] = None
outline_of_words (w ∷ words) = option_map (λ f. record { line_kind = f; token_count = length words }) (line_kind_of w)

-- the outline of a numbered line, if its first word begins a kind of line
abbrev pub outline_numbered : Numbered (List ℕ) → Option (Numbered LineOutline)
outline_numbered l = option_map (λ h. (l.0, h)) (outline_of_words (words_in l.1))

-- the outlines of lines
unfoldable pub outlines_in : List (Numbered (List ℕ)) → List (Numbered LineOutline)
outlines_in lines = filter_map outline_numbered lines

-- the roles of outlines
abbrev pub outline_roles : List (Numbered LineOutline) → List (Numbered Role)
outline_roles outlines = map (λ h. (h.0, (syntax_of h.1.line_kind).role)) outlines

-- the outline of a parsed line
abbrev pub outline_of : ParsedLine → LineOutline
outline_of line = record { line_kind = line.line_kind; token_count = length line.tokens }

-- the outlines of parsed lines
abbrev pub outlines_of : List Line → List (Numbered LineOutline)
outlines_of lines = map (λ l. (l.0, outline_of l.1)) lines
