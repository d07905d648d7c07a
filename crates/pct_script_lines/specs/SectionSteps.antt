-- The sections of lines, one after the other.
use Rattle.std.specs.Prelude.{◌≡◌, ◌++◌, ◌&&◌, ◌||◌, Bool, true, false, not, List, [], ◌∷◌, length, nat_le}
use Rattle.pct_model.specs.declared.line_kind.SymbolKind.TheVariants as kind
use Rattle.pct_model.specs.declared.parsed_line.Token.{Token}
use Rattle.pct_model.specs.declared.parsed_line.Token.TheVariants as token
use Rattle.pct_model.specs.Sections.{Line, declares, locals_of, is_statement, split_sections, sections_of}

-- the lines are a section, and a rest that begins with the next declaration
pub record BeginsWithSection (lines : List Line) (header : Line) (body : List Line) (rest : List Line) : Type 0 where
  pub whole : lines ≡ header ∷ (body ++ rest)
  pub headers : is_statement header.1 ≡ false
  pub sections : split_sections lines ≡ record { preamble = []; sections = record { header = header; body = body } ∷ sections_of rest }
  pub after : (split_sections rest).preamble ≡ []

-- the first token is a name
abbrev pub begins_with_name : List Token → Bool
begins_with_name (token.Name name ∷ words) = true
begins_with_name _ = false

-- a `fn` line has a name and at most 8 locals
abbrev pub is_ready : Line → Bool
is_ready l = not (declares kind.Function l.1) || begins_with_name l.1.tokens && nat_le (length (locals_of l.1)) 8
