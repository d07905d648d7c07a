-- The line kind of a keyword.
use Rattle.pct_names.proofs.Names.{ap, bytes_eq, declaration_syntax, find, is_no_point, line_kind_of, line_kinds, LineKind, List, None}
use Rattle.pct_names.proofs.Names.{none-some, Option, option_map, option_or, point_statement, refl, Some, sym, syntax_of, true, ℕ, ◌∙◌, ◌≡◌}
use Rattle.pct_model.specs.declared.line_kind.LineKind.TheVariants as line_kind
use Rattle.pct_model.specs.declared.line_kind.SymbolKind.TheVariants as kind
use Rattle.pct_model.proofs.Bytes.{same_bytes}
use Rattle.pct_grammar.proofs.EncodeDecode.{named_kind}

keyword_found : (f : LineKind) → is_no_point f ≡ true → line_kind_of (syntax_of f).keyword ≡ Some f
unfolding line_kind_of line_kinds syntax_of declaration_syntax
keyword_found (line_kind.Declares kind.Global) h = refl
keyword_found (line_kind.Point index) h = absurd cc
keyword_found _ h = refl

-- a line kind other than a point is found by its keyword
pub kind_of_keyword : (f : LineKind) (w : List ℕ) → is_no_point f ≡ true → bytes_eq (syntax_of f).keyword w ≡ true → line_kind_of w ≡ Some f
kind_of_keyword f w no_point is = ap line_kind_of (sym (same_bytes (syntax_of f).keyword w is)) ∙ keyword_found f no_point

or_none : {A : Type 0} (o : Option A) → o ≡ option_or o None
or_none None = refl
or_none (Some x) = refl

module _ (w : List ℕ) where
  -- a word that is the name of a point is no keyword
  pub kind_of_point : (f : LineKind) → Some f ≡ option_map (λ index. line_kind.Point index) (point_statement w) → Some f ≡ line_kind_of w
  kind_of_point f named = by (point_statement w) refl named where
    by : (o : Option ℕ) → point_statement w ≡ o → Some f ≡ option_map (λ index. line_kind.Point index) o → Some f ≡ line_kind_of w
    by None at is = absurd (none-some f (sym is))
    by (Some index) at is = is ∙ sym (named_kind w index at)

  -- another word can only be a keyword
  pub kind_of_another : None ≡ option_map (λ index. line_kind.Point index) (point_statement w) → find (λ f. bytes_eq (syntax_of f).keyword w) line_kinds ≡ line_kind_of w
  unfolding line_kind_of
  kind_of_another no_point = or_none (find (λ f. bytes_eq (syntax_of f).keyword w) line_kinds) ∙ ap (option_or (find (λ f. bytes_eq (syntax_of f).keyword w) line_kinds)) no_point
