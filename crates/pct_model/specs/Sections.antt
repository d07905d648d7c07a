-- The sections of a script's text: each declaration (the header) with the statements up to the next one (the body).
use Rattle.std.specs.Prelude.{ℕ, Bool, true, false, not, ◌&&◌, ◌||◌, if◌then◌else◌, List, [], ◌∷◌, length, filter, filter_map, flat_map, take, drop, Option, Some, None, option_map}
use Rattle.std.specs.List.{list_all}
use Rattle.pct_model.specs.declared.line_kind.SymbolKind.{SymbolKind}
use Rattle.pct_model.specs.declared.line_kind.SymbolKind.TheVariants as kind
use Rattle.pct_model.specs.declared.line_kind.ArgumentKind.{ArgumentKind}
use Rattle.pct_model.specs.declared.role.Role.{Role}
use Rattle.pct_model.specs.declared.role.Role.TheVariants as role
use Rattle.pct_model.specs.declared.parsed_line.ParsedLine.{ParsedLine}
use Rattle.pct_model.specs.declared.parsed_line.Token.{Token}
use Rattle.pct_model.specs.declared.parsed_line.Token.TheVariants as token
use Rattle.pct_model.specs.LineKinds.{syntax_of}
use Rattle.pct_model.specs.LineParsing.{Numbered, is_empty, spelled_lines, parsed}

-- ---- lines

-- a parsed line, with its number
abbrev pub Line : Type 0
Line = Numbered ParsedLine

-- the parse of a numbered line of bytes
abbrev pub parsed_numbered : Numbered (List ℕ) → Option Line
parsed_numbered l = option_map (λ line. (l.0, line)) (parsed l.1)

-- the parsed lines of a text; a line that does not parse is left out
unfoldable pub parsed_lines : List ℕ → List Line
parsed_lines text = filter_map parsed_numbered (spelled_lines text)

-- the role of a line
abbrev pub role_in : ParsedLine → Role
role_in line = (syntax_of line.line_kind).role

-- the kinds of a line's arguments
abbrev pub argument_kinds_in : ParsedLine → List ArgumentKind
argument_kinds_in line = (syntax_of line.line_kind).argument_kinds (length line.tokens)

-- the two kinds are equal
abbrev pub is_same : SymbolKind → SymbolKind → Bool
is_same kind.Global kind.Global = true
is_same kind.Mutex kind.Mutex = true
is_same kind.Cond kind.Cond = true
is_same kind.Sem kind.Sem = true
is_same kind.Once kind.Once = true
is_same kind.Function kind.Function = true
is_same _ _ = false

-- the role is a declaration of this kind
abbrev pub declares_by : SymbolKind → Role → Bool
declares_by k (role.Declares other) = is_same k other
declares_by k _ = false

-- the line declares something of this kind
abbrev pub declares : SymbolKind → ParsedLine → Bool
declares k line = declares_by k (role_in line)

-- the role is a declaration of any kind
abbrev pub is_declaration : Role → Bool
is_declaration (role.Declares k) = true
is_declaration _ = false

-- the line is a statement: it declares nothing
abbrev pub is_statement : ParsedLine → Bool
is_statement line = not (is_declaration (role_in line))

-- ---- declared names

-- the name in a token, if it is a name
abbrev pub name_in : Token → Option (List ℕ)
name_in (token.Name name) = Some name
name_in _ = None

-- the names among tokens
abbrev pub names_in : List Token → List (List ℕ)
names_in words = filter_map name_in words

-- the name that a line declares: the first name in it, as a list of at most one
abbrev pub declared_by : ParsedLine → List (List ℕ)
declared_by line = take 1 (names_in line.tokens)

-- the locals that a line `fn` declares: all names in it but the first
abbrev pub locals_of : ParsedLine → List (List ℕ)
locals_of line = drop 1 (names_in line.tokens)

-- the lines that declare something of a kind
abbrev pub declaring : SymbolKind → List Line → List Line
declaring k lines = filter (λ l. declares k l.1) lines

-- the names of a kind that the lines declare, in order
abbrev pub names_declared : List Line → SymbolKind → List (List ℕ)
names_declared lines k = flat_map (λ l. declared_by l.1) (declaring k lines)

-- ---- sections

-- a declaration, and the statements between it and the next one
pub record Section : Type 0 where
  pub header : Line
  pub body : List Line

-- the statements before the first declaration (the preamble), and the sections
pub record Sections : Type 0 where
  pub preamble : List Line
  pub sections : List Section

-- the sections of a text with one more line before it
abbrev pub prepend_line : Line → Sections → Sections
prepend_line l p =
    if is_statement l.1
    then record { preamble = l ∷ p.preamble; sections = p.sections }
    else record { preamble = []; sections = record { header = l; body = p.preamble } ∷ p.sections }

-- the sections of a text
unfoldable pub split_sections : List Line → Sections
split_sections [] = record { preamble = []; sections = [] }
split_sections (l ∷ lines) = prepend_line l (split_sections lines)

-- the sections without the preamble
abbrev pub sections_of : List Line → List Section
sections_of lines = (split_sections lines).sections

-- the section's header is a line `fn`
abbrev pub is_function : Section → Bool
is_function section = declares kind.Function section.header.1

-- the sections of functions
abbrev pub functions_in : List Line → List Section
functions_in lines = filter is_function (sections_of lines)

-- every statement is in a function: the preamble is empty, and so is the body of every other section
abbrev pub are_in_functions : List Line → Bool
are_in_functions lines = is_empty (split_sections lines).preamble && list_all (λ section. is_function section || is_empty section.body) (sections_of lines)
