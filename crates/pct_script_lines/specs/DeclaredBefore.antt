-- Names that are declared twice, found line by line. No public clause cites this file.
use Rattle.std.specs.Prelude.{ℕ, Bool, not, ◌&&◌, ◌||◌, if◌then◌else◌, List, [], ◌∷◌, ◌++◌, Option, Some, None, bytes_eq}
use Rattle.std.specs.List.{list_any}
use Rattle.pct_model.specs.declared.line_kind.SymbolKind.TheVariants as kind
use Rattle.pct_model.specs.declared.parsed_line.ParsedLine.{ParsedLine}
use Rattle.pct_model.specs.Names.{all_different}
use Rattle.pct_model.specs.Sections.{Line, role_in, is_declaration, declares, declared_by, locals_of}

-- the line declares this name
abbrev pub declares_name : List ℕ → ParsedLine → Bool
declares_name name line = is_declaration (role_in line) && list_any (bytes_eq name) (declared_by line)

-- one of the lines declares it
abbrev pub declare_name : List Line → List ℕ → Bool
declare_name lines name = list_any (λ l. declares_name name l.1) lines

-- the line declares a name that an earlier line declares, or two of its locals are the same
abbrev pub declares_twice : List Line → ParsedLine → Bool
declares_twice before line = list_any (declare_name before) (declared_by line) || declares kind.Function line && not (all_different (locals_of line))

-- it is a declaration, and declares such a name
abbrev pub is_wrong : List Line → ParsedLine → Bool
is_wrong before line = is_declaration (role_in line) && declares_twice before line

-- the first declaration among the lines that declares such a name, where `before` are the earlier lines
unfoldable pub first_twice : List Line → List Line → Option ℕ
first_twice before [] = None
first_twice before (l ∷ lines) = if is_wrong before l.1 then Some l.0 else first_twice (before ++ l ∷ []) lines
