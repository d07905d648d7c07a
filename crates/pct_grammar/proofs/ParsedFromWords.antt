-- Parsed lines come from words, and the tokens of a parsed declaration.
use Rattle.pct_names.proofs.Names.{◌-◌, [], and_from, and_parts, ap, ArgumentKind, arith, Bool, cond, cond_some, cons_option}
use Rattle.pct_names.proofs.Names.{declaration_syntax, declares, declares_by, false, filter_map, fn_argument_kinds, is_allowed, is_name}
use Rattle.pct_names.proofs.Names.{is_same, length, Line, line_kind_of, LineKind, List, list_all, map, nat_le, None, Numbered, numeral}
use Rattle.pct_names.proofs.Names.{Option, option_map, parsed, parsed_as, parsed_lines, parsed_numbered, parsed_words, ParsedLine, refl}
use Rattle.pct_names.proofs.Names.{replicate, same_Some, Some, spelled_lines, subst, suc, sym, SymbolKind, syntax_of, Token, token_at}
use Rattle.pct_names.proofs.Names.{tokens_at, true, words_in, zero, ℕ, ◌∙◌, ◌∷◌, ◌≡◌}
use Rattle.pct_model.specs.declared.line_kind.LineKind.TheVariants as line_kind
use Rattle.pct_model.specs.declared.line_kind.SymbolKind.TheVariants as kind
use Rattle.pct_model.specs.declared.line_kind.ArgumentKind.TheVariants as argument_kind
use Rattle.pct_model.specs.declared.parsed_line.Token.TheVariants as token
use Rattle.pct_grammar.proofs.SharedWords.{IsParsed, EachParsed, role_of_kind}
use Rattle.pct_grammar.proofs.OptionFacts.{BothFrom, both_from, bind_some, map_some}
use Rattle.pct_grammar.proofs.TokensResolve.{words_at_lengths}

-- ---- a line

from_words : (line : ParsedLine) (words : List (List ℕ)) → parsed_words words ≡ Some line → IsParsed line
unfolding parsed_words
from_words line [] h = absurd cc
from_words line (w ∷ words) h =
    let f = bind_some (line_kind_of w) (λ f. parsed_as f words) line h in
    let tokens = map_some {B = ParsedLine} (λ ts. record { line_kind = f.0; tokens = ts }) (tokens_at ((syntax_of f.0).argument_kinds (length words)) words) line f.2 in
    subst IsParsed tokens.2 (record { first = w; others = words; line_kind = f.1; words = tokens.1 })

from_bytes : (line : ParsedLine) (words : List (List ℕ)) (t : Bool) → cond t (parsed_words words) None ≡ Some line → IsParsed line
from_bytes line words true h = from_words line words h
from_bytes line words false h = absurd cc

-- a parsed line comes from words
pub line_is_parsed : (bytes : List ℕ) (line : ParsedLine) → parsed bytes ≡ Some line → IsParsed line
unfolding parsed
line_is_parsed bytes line h = from_bytes line (words_in bytes) (list_all is_allowed bytes) h

-- ---- the lines of a text

one_more : (n : ℕ) (bytes : List ℕ) (o : Option ParsedLine) (lines : List Line) → parsed bytes ≡ o → EachParsed lines → EachParsed (cons_option (option_map {U = Line} (λ line. (n, line)) o) lines)
one_more n bytes None lines e others = others
one_more n bytes (Some line) lines e others = (line_is_parsed bytes line e, others)

each_parsed : (lines : List (Numbered (List ℕ))) → EachParsed (filter_map parsed_numbered lines)
each_parsed [] = tt
each_parsed (l ∷ lines) = one_more l.0 l.1 (parsed l.1) (filter_map parsed_numbered lines) refl (each_parsed lines)

-- the parsed lines of a text come from words
pub parsed_lines_are_parsed : (text : List ℕ) → EachParsed (parsed_lines text)
unfolding parsed_lines
parsed_lines_are_parsed text = each_parsed (spelled_lines text)

-- ---- the tokens of a declaration

-- an argument that is a new name
abbrev is_new_name : ArgumentKind → Bool
is_new_name argument_kind.Declared = true
is_new_name argument_kind.Local = true
is_new_name _ = false

-- the words are names, and these are their tokens
record AreNames (ws : List (List ℕ)) (words : List Token) : Type 0 where
  are : list_all is_name ws ≡ true
  same : words ≡ map (λ w. token.Name w) ws

one_name : (p : ArgumentKind) (w : List ℕ) (t : Token) → is_new_name p ≡ true → token_at p w ≡ Some t → (is_name w ≡ true) × (token.Name w ≡ t)
unfolding token_at
one_name argument_kind.Declared w t new h = cond_some (is_name w) (token.Name w) t h
one_name argument_kind.Local w t new h = cond_some (is_name w) (token.Name w) t h
one_name _ w t new h = absurd cc

all_names : (argument_kinds : List ArgumentKind) (ws : List (List ℕ)) (words : List Token) → list_all is_new_name argument_kinds ≡ true → tokens_at argument_kinds ws ≡ Some words → AreNames ws words
unfolding tokens_at
all_names [] [] words new h = record { are = refl; same = sym (same_Some [] words h) }
all_names (p ∷ argument_kinds) (w ∷ ws) words new h =
    let parts = and_parts (is_new_name p) (list_all is_new_name argument_kinds) new in
    let found : BothFrom (token_at p w) (tokens_at argument_kinds ws) words = both_from (token_at p w) (tokens_at argument_kinds ws) words h in
    let first = one_name p w found.first parts.0 found.one in
    let others = all_names argument_kinds ws found.others parts.1 found.rest in
    record {
      are = and_from (is_name w) (list_all is_name ws) first.0 others.are;
      same = found.whole ∙ ap (λ (t : Token). t ∷ found.others) (sym first.1) ∙ ap (λ (ts : List Token). token.Name w ∷ ts) others.same;
    }
all_names _ _ words new h = absurd cc

new_locals : (n : ℕ) → list_all is_new_name (replicate n argument_kind.Local) ≡ true
new_locals zero = refl
new_locals (suc n) = new_locals n

-- the tokens of a declaration of a global, a mutex, a condition variable or a once control
pub record DeclaresName (words : List Token) : Type 0 where
  pub name : List ℕ
  pub is : is_name name ≡ true
  pub same : words ≡ token.Name name ∷ []

-- the tokens of a declaration of a semaphore
pub record DeclaresSem (words : List Token) : Type 0 where
  pub name : List ℕ
  pub n : ℕ
  pub is : is_name name ≡ true
  pub fits : nat_le n 32767 ≡ true
  pub same : words ≡ token.Name name ∷ token.Number n ∷ []

-- the tokens of a `fn` line
pub record DeclaresFunction (words : List Token) : Type 0 where
  pub name : List ℕ
  pub parameter : List ℕ
  pub others : List (List ℕ)
  pub is : is_name name ≡ true
  pub are : list_all is_name (parameter ∷ others) ≡ true
  pub same : words ≡ token.Name name ∷ map (λ w. token.Name w) (parameter ∷ others)

-- the tokens of a declaration of a kind
abbrev pub Declares : SymbolKind → List Token → Type 0
Declares kind.Global words = DeclaresName words
Declares kind.Mutex words = DeclaresName words
Declares kind.Cond words = DeclaresName words
Declares kind.Sem words = DeclaresSem words
Declares kind.Once words = DeclaresName words
Declares kind.Function words = DeclaresFunction words

name_alone : (ws : List (List ℕ)) (words : List Token) → tokens_at (argument_kind.Declared ∷ []) ws ≡ Some words → DeclaresName words
name_alone (w ∷ []) words h =
    let names = all_names (argument_kind.Declared ∷ []) (w ∷ []) words refl h in
    record { name = w; is = (and_parts (is_name w) true names.are).0; same = names.same }
name_alone ws words h = absurd (omega (arith, (words_at_lengths (argument_kind.Declared ∷ []) ws words h).0))

name_and_count : (ws : List (List ℕ)) (words : List Token) → tokens_at (argument_kind.Declared ∷ argument_kind.Count ∷ []) ws ≡ Some words → DeclaresSem words
unfolding tokens_at token_at
name_and_count (w ∷ v ∷ []) words h =
    let found : BothFrom (token_at argument_kind.Declared w) (tokens_at (argument_kind.Count ∷ []) (v ∷ [])) words = both_from _ _ words h in
    let last : BothFrom (token_at argument_kind.Count v) (Some []) found.others = both_from _ _ found.others found.rest in
    let first = one_name argument_kind.Declared w found.first refl found.one in
    let n = bind_some (numeral v) (λ n. cond (nat_le n 32767) (Some (token.Number n)) None) last.first last.one in
    let count = cond_some (nat_le n.0 32767) (token.Number n.0) last.first n.2 in
    let after : found.others ≡ token.Number n.0 ∷ [] = last.whole ∙ ap (λ (t : Token). t ∷ last.others) (sym count.1) ∙ ap (λ (ts : List Token). token.Number n.0 ∷ ts) (sym (same_Some [] last.others last.rest)) in
    record { name = w; n = n.0; is = first.0; fits = count.0; same = found.whole ∙ ap (λ (t : Token). t ∷ found.others) (sym first.1) ∙ ap (λ (ts : List Token). token.Name w ∷ ts) after }
name_and_count ws words h = absurd (omega (arith, (words_at_lengths (argument_kind.Declared ∷ argument_kind.Count ∷ []) ws words h).0))

name_and_names : (n : ℕ) (ws : List (List ℕ)) (words : List Token) → tokens_at (fn_argument_kinds n) ws ≡ Some words → DeclaresFunction words
name_and_names n (w ∷ p ∷ ws) words h =
    let names = all_names (fn_argument_kinds n) (w ∷ p ∷ ws) words (new_locals (n - 2)) h in
    let parts = and_parts (is_name w) (list_all is_name (p ∷ ws)) names.are in
    record { name = w; parameter = p; others = ws; is = parts.0; are = parts.1; same = names.same }
name_and_names n ws words h = absurd (omega (arith, (words_at_lengths (fn_argument_kinds n) ws words h).0))

words_declare : (k : SymbolKind) (ws : List (List ℕ)) (words : List Token) → tokens_at ((declaration_syntax k).argument_kinds (length ws)) ws ≡ Some words → Declares k words
unfolding declaration_syntax
words_declare kind.Sem ws words h = name_and_count ws words h
words_declare kind.Function ws words h = name_and_names (length ws) ws words h
words_declare _ ws words h = name_alone ws words h

-- ---- the line kind of a declaration

same_kind : (k other : SymbolKind) → is_same k other ≡ true → other ≡ k
same_kind kind.Global kind.Global h = refl
same_kind kind.Mutex kind.Mutex h = refl
same_kind kind.Cond kind.Cond h = refl
same_kind kind.Sem kind.Sem h = refl
same_kind kind.Once kind.Once h = refl
same_kind kind.Function kind.Function h = refl
same_kind k other h = absurd cc

line_kind_declares : (k : SymbolKind) (f : LineKind) → declares_by k (syntax_of f).role ≡ true → f ≡ line_kind.Declares k
unfolding syntax_of
line_kind_declares k (line_kind.Declares other) h = ap (λ (o : SymbolKind). line_kind.Declares o) (same_kind k other (sym (ap (declares_by k) (role_of_kind other)) ∙ h))
line_kind_declares k f h = absurd cc

-- a parsed declaration of a kind has the tokens of such a declaration
pub line_declares : (k : SymbolKind) (line : ParsedLine) → IsParsed line → declares k line ≡ true → Declares k line.tokens
unfolding syntax_of
line_declares k line from h =
    let is : syntax_of line.line_kind ≡ declaration_syntax k = ap syntax_of (line_kind_declares k line.line_kind h) in
    words_declare k from.others line.tokens (sym (ap (λ s. tokens_at (s.argument_kinds (length from.others)) from.others) is) ∙ from.words)
