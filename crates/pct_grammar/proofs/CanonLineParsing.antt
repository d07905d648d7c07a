-- The lines of a canonical text parse back, each by itself.
use Rattle.pct_names.proofs.Names.{◌-◌, ◌>>=◌, [], and_from, and_parts, ap, Argument, argument_kinds_of, argument_texts, ArgumentKind}
use Rattle.pct_names.proofs.Names.{arguments_of, arith, begins_comment, Bool, Contents, decimal, declaration_line, declaration_syntax}
use Rattle.pct_names.proofs.Names.{encode, encoded, false, has_first_word, has_line, has_word, have_words, is_declaration, is_empty}
use Rattle.pct_names.proofs.Names.{is_name, is_statement, length, line_kind_of, line_kind_of_statement, line_kinds, LineKind, List}
use Rattle.pct_names.proofs.Names.{list_all, map, names_of_kind, not, Option, option_map, parsed_as, parsed_words, ParsedLine, refl}
use Rattle.pct_names.proofs.Names.{replicate, resolve_all, role_of, Some, statement_words, Stmt, suc, sym, SymbolKind, syntax_of, Token}
use Rattle.pct_names.proofs.Names.{token_at, tokens_at, true, ℕ, ◌∙◌, ◌∷◌, ◌≡◌, ◌≤◌}
use Rattle.std.proofs.Common.{le-leb}
use Rattle.pct_model.specs.declared.line_kind.LineKind.TheVariants as line_kind
use Rattle.pct_model.specs.declared.line_kind.SymbolKind.TheVariants as kind
use Rattle.pct_model.specs.declared.line_kind.ArgumentKind.TheVariants as argument_kind
use Rattle.pct_model.specs.declared.parsed_line.Token.TheVariants as token
use Rattle.pct_model.specs.declared.statement.Stmt.TheVariants as statement
use Rattle.pct_grammar.proofs.SharedWords.{is_word, NameLists}
use Rattle.pct_grammar.proofs.CanonLines.{is_line}
use Rattle.pct_grammar.proofs.TokensResolve.{name_is_word, decimal_is_numeral, decimal_is_word, words_print, replaced_lengths}
use Rattle.pct_grammar.proofs.EncodeDecode.{line_kind_found, first_word}

-- ---- declarations

-- the line of a declaration
abbrev pub declared_line : SymbolKind → List Token → ParsedLine
declared_line k words = record { line_kind = line_kind.Declares k; tokens = words }

-- the parsed line of these words
pub record ParsesAs (words : List (List ℕ)) (line : ParsedLine) : Type 0 where
  pub are : is_line words ≡ true
  pub parsed : parsed_words words ≡ Some line

kind_found : (k : SymbolKind) → line_kind_of (declaration_syntax k).keyword ≡ Some (line_kind.Declares k)
unfolding line_kind_of line_kinds syntax_of declaration_syntax
kind_found kind.Global = refl
kind_found _ = refl

kind_is_line : (k : SymbolKind) (words : List (List ℕ)) → list_all is_word words ≡ true → is_line (declaration_line k words) ≡ true
unfolding declaration_syntax
kind_is_line kind.Global words are = and_from (list_all is_word words) true are refl
kind_is_line _ words are = and_from (list_all is_word words) true are refl

declaration_parses : (k : SymbolKind) (texts : List (List ℕ)) (words : List Token) → list_all is_word texts ≡ true → tokens_at ((declaration_syntax k).argument_kinds (length texts)) texts ≡ Some words
    → ParsesAs (declaration_line k texts) (declared_line k words)
unfolding parsed_words syntax_of
declaration_parses k texts words are line_parses =
    let put : List Token → ParsedLine = declared_line k in
    record {
      are = kind_is_line k texts are;
      parsed = ap (λ (o : Option LineKind). o >>= λ f. parsed_as f texts) (kind_found k) ∙ ap (λ (o : Option (List Token)). option_map put o) line_parses;
    }

name_parsed : (w : List ℕ) → is_name w ≡ true → tokens_at (argument_kind.Declared ∷ []) (w ∷ []) ≡ Some (token.Name w ∷ [])
unfolding tokens_at token_at
name_parsed w h = rw h refl

-- a kind whose declaration is a name alone
abbrev pub is_plain_kind : SymbolKind → Bool
is_plain_kind kind.Global = true
is_plain_kind kind.Mutex = true
is_plain_kind kind.Cond = true
is_plain_kind kind.Once = true
is_plain_kind _ = false

-- a line that declares a name alone parses back
pub name_parses : (k : SymbolKind) (w : List ℕ) → is_plain_kind k ≡ true → is_name w ≡ true → ParsesAs (declaration_line k (w ∷ [])) (declared_line k (token.Name w ∷ []))
unfolding declaration_syntax
name_parses kind.Sem w plain h = absurd cc
name_parses kind.Function w plain h = absurd cc
name_parses k w plain h = declaration_parses k (w ∷ []) (token.Name w ∷ []) (and_from (is_word w) true (name_is_word w h) refl) (name_parsed w h)

count_parsed : (w : List ℕ) (n : ℕ) → is_name w ≡ true → n ≤ 32767 → tokens_at (argument_kind.Declared ∷ argument_kind.Count ∷ []) (w ∷ decimal n ∷ []) ≡ Some (token.Name w ∷ token.Number n ∷ [])
unfolding tokens_at token_at
count_parsed w n h fits = rw (h, decimal_is_numeral n (omega arith), le-leb n 32767 fits) refl

-- a line that declares a semaphore parses back
pub sem_parses : (w : List ℕ) (n : ℕ) → is_name w ≡ true → n ≤ 32767 → ParsesAs (declaration_line kind.Sem (w ∷ decimal n ∷ [])) (declared_line kind.Sem (token.Name w ∷ token.Number n ∷ []))
unfolding declaration_syntax
sem_parses w n h fits =
    declaration_parses kind.Sem (w ∷ decimal n ∷ []) (token.Name w ∷ token.Number n ∷ [])
    (and_from (is_word w) (list_all is_word (decimal n ∷ [])) (name_is_word w h) (and_from (is_word (decimal n)) true (decimal_is_word n (omega arith)) refl)) (count_parsed w n h fits)

abbrev names_as_words : List (List ℕ) → List Token
names_as_words names = map (λ w. token.Name w) names

locals_parsed : (names : List (List ℕ)) → list_all is_name names ≡ true → tokens_at (replicate (length names) argument_kind.Local) names ≡ Some (names_as_words names)
unfolding tokens_at token_at
locals_parsed [] all = refl
locals_parsed (w ∷ names) all =
    let sections = and_parts (is_name w) (list_all is_name names) all in
    rw (sections.0, locals_parsed names sections.1) refl

all_words : (names : List (List ℕ)) → list_all is_name names ≡ true → list_all is_word names ≡ true
all_words [] all = refl
all_words (w ∷ names) all =
    let sections = and_parts (is_name w) (list_all is_name names) all in
    and_from (is_word w) (list_all is_word names) (name_is_word w sections.0) (all_words names sections.1)

fn_parsed : (w l : List ℕ) (locals : List (List ℕ)) → is_name w ≡ true → list_all is_name (l ∷ locals) ≡ true
    → tokens_at ((declaration_syntax kind.Function).argument_kinds (length (w ∷ l ∷ locals))) (w ∷ l ∷ locals) ≡ Some (token.Name w ∷ names_as_words (l ∷ locals))
unfolding tokens_at token_at declaration_syntax
fn_parsed w l locals h all =
    let sections = and_parts (is_name l) (list_all is_name locals) all in
    let after : suc (suc (length locals)) - 2 ≡ length locals = omega arith in
    rw (h, sections.0, after, locals_parsed locals sections.1) refl

-- a `fn` line parses back
pub function_parses : (w : List ℕ) (locals : List (List ℕ)) → is_name w ≡ true → is_empty locals ≡ false → list_all is_name locals ≡ true
    → ParsesAs (declaration_line kind.Function (w ∷ locals)) (declared_line kind.Function (token.Name w ∷ map (λ l. token.Name l) locals))
function_parses w [] h some all = absurd cc
function_parses w (l ∷ locals) h some all =
    declaration_parses kind.Function (w ∷ l ∷ locals) (token.Name w ∷ names_as_words (l ∷ locals)) (and_from (is_word w) (list_all is_word (l ∷ locals)) (name_is_word w h) (all_words (l ∷ locals) all)) (fn_parsed w l locals h all)

-- ---- statements

no_declaration : (s : Stmt) → is_declaration (role_of s) ≡ false
unfolding encode syntax_of
no_declaration (statement.Emit v) = refl
no_declaration _ = refl

texts_length : (c : Contents) (locals : List (List ℕ)) (argument_kinds : List ArgumentKind) (args : List Argument) → have_words c locals argument_kinds args ≡ true → length (argument_texts c locals argument_kinds args) ≡ length args
unfolding have_words argument_texts
texts_length c locals [] [] have = refl
texts_length c locals (p ∷ argument_kinds) (a ∷ args) have =
    ap suc (texts_length c locals argument_kinds args (and_parts (has_word c locals p a) (have_words c locals argument_kinds args) have).1)
texts_length c locals _ _ have = absurd cc

-- the parsed line of a statement
pub record Statement (c : Contents) (locals : List (List ℕ)) (s : Stmt) : Type 0 where
  pub line : ParsedLine
  pub line_parses : ParsesAs (statement_words c locals s) line
  pub resolves_to : encoded c locals line ≡ Some (encode s)
  pub no_declaration : is_statement line ≡ true

-- the line of a statement parses back
pub statement_parses : (c : Contents) (locals : List (List ℕ)) (s : Stmt) → NameLists c locals → has_line c locals s ≡ true → Statement c locals s
unfolding has_line statement_words parsed_words
statement_parses c locals s names has =
    let f = line_kind_of_statement s in
    let args = arguments_of s in
    let texts = argument_texts c locals (argument_kinds_of s) args in
    let sections = and_parts (has_first_word c locals f) (have_words c locals (argument_kinds_of s) args) has in
    let print = words_print c locals (argument_kinds_of s) args names sections.1 in
    let first = first_word c locals f sections.0 in
    let put : List Token → ParsedLine = λ words. record { line_kind = f; tokens = words } in
    record {
      line = put print.0;
      line_parses = record {
        are = and_from (list_all is_word ((syntax_of f).keyword ∷ texts)) (not (begins_comment (syntax_of f).keyword)) (and_from (is_word (syntax_of f).keyword) (list_all is_word texts) first.0 print.3) (ap not first.1);
        parsed = ap (λ (o : Option LineKind). o >>= λ g. parsed_as g texts) (line_kind_found c locals f sections.0)
            ∙ ap (λ (n : ℕ). option_map put (tokens_at ((syntax_of f).argument_kinds n) texts)) (texts_length c locals (argument_kinds_of s) args sections.1)
            ∙ ap (λ (o : Option (List Token)). option_map put o) print.1;
      };
      resolves_to = ap (λ (n : ℕ). option_map (λ (encoded : List Argument). (f, encoded)) (resolve_all (names_of_kind c) locals ((syntax_of f).argument_kinds n) print.0)) (sym (replaced_lengths (names_of_kind c) locals (argument_kinds_of s) print.0 args print.2))
          ∙ ap (λ (o : Option (List Argument)). option_map (λ (encoded : List Argument). (f, encoded)) o) print.2;
      no_declaration = ap not (no_declaration s);
    }
