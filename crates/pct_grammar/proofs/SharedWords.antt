-- Definitions that the lemmas of this crate share.
use Rattle.pct_names.proofs.Names.{◌&&◌, [], Bool, Contents, declaration_syntax, is_empty, is_name, length, Line, line_kind_of, List}
use Rattle.pct_names.proofs.Names.{list_all, names_of_kind, nat_le, not, ParsedLine, refl, Some, SymbolKind, syntax_of, tokens_at, true, ℕ}
use Rattle.pct_names.proofs.Names.{◌∷◌, ◌≡◌}
use Rattle.pct_model.specs.declared.line_kind.SymbolKind.TheVariants as kind
use Rattle.pct_model.specs.declared.role.Role.TheVariants as role

-- a line that was parsed from words
pub record IsParsed (line : ParsedLine) : Type 0 where
  pub first : List ℕ
  pub others : List (List ℕ)
  pub line_kind : line_kind_of first ≡ Some line.line_kind
  pub words : tokens_at ((syntax_of line.line_kind).argument_kinds (length others)) others ≡ Some line.tokens

-- each line was parsed from words
abbrev pub EachParsed : List Line → Type 0
EachParsed [] = Unit {0}
EachParsed (l ∷ lines) = IsParsed l.1 × EachParsed lines

abbrev pub is_printable : ℕ → Bool
is_printable b = nat_le 33 b && nat_le b 126

-- 1 to 31 printable bytes
abbrev pub is_word : List ℕ → Bool
is_word w = not (is_empty w) && list_all is_printable w && nat_le (length w) 31

-- all names are names
pub record NameLists (c : Contents) (locals : List (List ℕ)) : Type 0 where
  pub kinds : (k : SymbolKind) → list_all is_name (names_of_kind c k) ≡ true
  pub own : list_all is_name locals ≡ true

-- the role of a declaration
pub role_of_kind : (k : SymbolKind) → (declaration_syntax k).role ≡ role.Declares k
unfolding declaration_syntax
role_of_kind kind.Global = refl
role_of_kind _ = refl
