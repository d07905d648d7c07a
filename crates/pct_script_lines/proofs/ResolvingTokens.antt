-- Resolving the tokens of a statement, token by token.
use Rattle.pct_names.proofs.Names.{◌++◌, ◌-◌, ◌<◌, ◌>>=◌, [], ap, Argument, argument_kinds_in, ArgumentKind, arith, drop, false}
use Rattle.pct_names.proofs.Names.{is_declaration, is_statement, length, length-replicate, LineKind, List, min, None, not-true, Option}
use Rattle.pct_names.proofs.Names.{option_map, ParsedLine, refl, replicate, resolve, resolve_all, role_in, slice_get, slice_get_within}
use Rattle.pct_names.proofs.Names.{Some, suc, sym, SymbolKind, syntax_of, Token, true, ℕ, ◌∙◌, ◌∷◌, ◌≡◌, ◌≤◌}
use Rattle.std.proofs.Common.{append_assoc, append-nil}
use Rattle.std.proofs.lemmas.Bool.{true≢false}
use Rattle.std.proofs.lemmas.List.{length-append}
use Rattle.pct_model.specs.declared.line_kind.LineKind.TheVariants as line_kind
use Rattle.pct_model.specs.declared.line_kind.ArgumentKind.TheVariants as argument_kind
use Rattle.pct_grammar.proofs.SharedWords.{role_of_kind}
use Rattle.pct_script_lines.proofs.FaultyWords.{argument_kind_first, past_kinds}

-- what was resolved, and then what is left to resolve
abbrev pub onto : {A : Type 0} → List A → Option (List A) → Option (List A)
onto prefix read = option_map (λ others. prefix ++ others) read

-- one more item is resolved
pub regroup : {A : Type 0} (prefix : List A) (a : A) (read : Option (List A)) → onto prefix (option_map (λ others. a ∷ others) read) ≡ onto (prefix ++ a ∷ []) read
regroup prefix a None = refl
regroup prefix a (Some others) = ap (λ xs. Some xs) (sym (append_assoc prefix (a ∷ []) others))

-- ---- argument kinds

few_detached : (n : ℕ) (p : ArgumentKind) → length (replicate (min 1 (n - 4)) p) ≤ 1
few_detached n p = omega (arith, length-replicate (min 1 (n - 4)) p)

-- a statement has at most 5 argument kinds
few_kinds : (f : LineKind) (n : ℕ) → is_declaration (syntax_of f).role ≡ false → length ((syntax_of f).argument_kinds n) ≤ 5
unfolding syntax_of
few_kinds (line_kind.Declares k) n other = absurd (true≢false (sym (ap is_declaration (role_of_kind k)) ∙ other))
few_kinds line_kind.Create n other = omega (arith, few_detached n argument_kind.Detached)
few_kinds _ n other = omega arith

-- if there is an argument kind for one more argument, there are fewer than 5 arguments
pub room_left : (line : ParsedLine) (n : ℕ) (p : ArgumentKind) → is_statement line ≡ true → slice_get (argument_kinds_in line) n ≡ Some p → n < 5
room_left line n p is here =
    omega (arith, slice_get_within (argument_kinds_in line) n p here, few_kinds line.line_kind (length line.tokens) (not-true (is_declaration (role_in line)) is))

-- the argument kind of the next token
pub the_argument_kind : (line : ParsedLine) (words : List Token) (n m : ℕ) (o : Option ArgumentKind) → words ≡ line.tokens → n ≡ m → o ≡ slice_get ((syntax_of line.line_kind).argument_kinds (length words)) n → slice_get (argument_kinds_in line) m ≡ o
the_argument_kind line words n m o same at here =
    sym (ap (λ ws. slice_get ((syntax_of line.line_kind).argument_kinds (length ws)) m) same) ∙ sym (ap (λ k. slice_get ((syntax_of line.line_kind).argument_kinds (length words)) k) at) ∙ sym here

-- ---- tokens

-- an argument and those after it
abbrev with_others : Option Argument → Option (List Argument) → Option (List Argument)
with_others o read = o >>= λ first. option_map (λ others. first ∷ others) read

no_argument_kinds : (names : SymbolKind → List (List ℕ)) (locals : List (List ℕ)) (w : Token) (words : List Token) → resolve_all names locals [] (w ∷ words) ≡ None
unfolding resolve_all
no_argument_kinds names locals w words = refl

one_kind : (names : SymbolKind → List (List ℕ)) (locals : List (List ℕ)) (p : ArgumentKind) (argument_kinds : List ArgumentKind) (w : Token) (words : List Token)
    → resolve_all names locals (p ∷ argument_kinds) (w ∷ words) ≡ with_others (resolve names locals p w) (resolve_all names locals argument_kinds words)
unfolding resolve_all
one_kind names locals p argument_kinds w words = refl

no_words : (names : SymbolKind → List (List ℕ)) (locals : List (List ℕ)) (argument_kinds : List ArgumentKind) → resolve_all names locals argument_kinds [] ≡ Some []
unfolding resolve_all
no_words names locals argument_kinds = refl

module _ (names : SymbolKind → List (List ℕ)) (locals : List (List ℕ)) (argument_kinds : List ArgumentKind) where
  -- the arguments so far, and those of the tokens that are left
  abbrev pub replaced_from : List Argument → List Token → Option (List Argument)
  replaced_from prefix words = onto prefix (resolve_all names locals (drop (length prefix) argument_kinds) words)

  at_index : (prefix : List Argument) (p : ArgumentKind) (w : Token) (words rest : List Token) → slice_get argument_kinds (length prefix) ≡ Some p → rest ≡ w ∷ words
      → replaced_from prefix rest ≡ onto prefix (with_others (resolve names locals p w) (resolve_all names locals (drop (suc (length prefix)) argument_kinds) words))
  at_index prefix p w words rest here first =
      ap (λ ws. onto prefix (resolve_all names locals (drop (length prefix) argument_kinds) ws)) first
      ∙ ap (λ ps. onto prefix (resolve_all names locals ps (w ∷ words))) (argument_kind_first argument_kinds (length prefix) p here)
      ∙ ap (onto prefix) (one_kind names locals p (drop (suc (length prefix)) argument_kinds) w words)

  -- a token that resolves
  pub word_replaced : (prefix : List Argument) (p : ArgumentKind) (w : Token) (a : Argument) (words rest : List Token) (all : Option (List Argument)) → slice_get argument_kinds (length prefix) ≡ Some p
      → resolve names locals p w ≡ Some a → rest ≡ w ∷ words → replaced_from prefix rest ≡ all → replaced_from (prefix ++ a ∷ []) words ≡ all
  word_replaced prefix p w a words rest all here is first so_far =
      let more = λ (n : ℕ). resolve_all names locals (drop n argument_kinds) words in
      let n : length (prefix ++ a ∷ []) ≡ suc (length prefix) = omega (arith, length-append prefix (a ∷ [])) in
      ap (λ k. onto (prefix ++ a ∷ []) (more k)) n
      ∙ sym (regroup prefix a (more (suc (length prefix))))
      ∙ sym (ap (λ o. onto prefix (with_others o (more (suc (length prefix))))) is)
      ∙ sym (at_index prefix p w words rest here first) ∙ so_far

  -- a token that does not
  pub word_unknown : (prefix : List Argument) (p : ArgumentKind) (w : Token) (words rest : List Token) (all : Option (List Argument)) → slice_get argument_kinds (length prefix) ≡ Some p
      → resolve names locals p w ≡ None → rest ≡ w ∷ words → replaced_from prefix rest ≡ all → all ≡ None
  word_unknown prefix p w words rest all here is first so_far =
      sym so_far ∙ at_index prefix p w words rest here first
      ∙ ap (λ o. onto prefix (with_others o (resolve_all names locals (drop (suc (length prefix)) argument_kinds) words))) is

  -- a token past the last argument kind
  pub word_without_kind : (prefix : List Argument) (w : Token) (words rest : List Token) (all : Option (List Argument)) → slice_get argument_kinds (length prefix) ≡ None → rest ≡ w ∷ words
      → replaced_from prefix rest ≡ all → all ≡ None
  word_without_kind prefix w words rest all none first so_far =
      sym so_far ∙ ap (λ ws. onto prefix (resolve_all names locals (drop (length prefix) argument_kinds) ws)) first
      ∙ ap (λ ps. onto prefix (resolve_all names locals ps (w ∷ words))) (past_kinds argument_kinds (length prefix) none)
      ∙ ap (onto prefix) (no_argument_kinds names locals w words)

  -- after the last token
  pub words_end : (prefix : List Argument) (rest : List Token) (all : Option (List Argument)) → rest ≡ [] → replaced_from prefix rest ≡ all → Some prefix ≡ all
  words_end prefix rest all none so_far =
      sym (ap (λ xs. Some xs) (append-nil prefix)) ∙ sym (ap (onto prefix) (no_words names locals (drop (length prefix) argument_kinds)))
      ∙ sym (ap (λ ws. onto prefix (resolve_all names locals (drop (length prefix) argument_kinds) ws)) none) ∙ so_far
