-- The check of plain functions finds no fault if and only if the arguments that have to be plain functions are.
use Rattle.pct_names.proofs.Names.{◌&&◌, [], AllZip, ap, ap₂, AreContents, Argument, argument_kinds_in, ArgumentKind, arguments_of}
use Rattle.pct_names.proofs.Names.{asks_plain, Bool, cond, Contents, encode, encoded, false, first_that, Func, functions_in, index_among}
use Rattle.pct_names.proofs.Names.{is_none, is_plain, is_plain_at, is_plain_body, is_plain_function, is_plain_section, Line, LineKind, List}
use Rattle.pct_names.proofs.Names.{list_all, list_all-append, map, names_declared, names_in, names_of_kind, names_other, names_plain}
use Rattle.pct_names.proofs.Names.{names_plain_functions, None, not, not_plain, NotPlain, Option, option_map, option_map_or, plain_names}
use Rattle.pct_names.proofs.Names.{refl, resolve, resolve_all, resolve_name, role_in, role_of, same_Some, Section, slice_get, slice_get-map}
use Rattle.pct_names.proofs.Names.{Some, SpellsBody, Stmt, sym, syntax_of, Token, unwrap_or, ◌||◌, ℕ, ◌∙◌, ◌∷◌, ◌≡◌}
use mathlib.Core.Bool.{and-true}
use Rattle.pct_model.specs.declared.line_kind.SymbolKind.TheVariants as kind
use Rattle.pct_model.specs.declared.line_kind.ArgumentKind.TheVariants as argument_kind
use Rattle.pct_model.specs.declared.parsed_line.Argument.TheVariants as argument
use Rattle.pct_model.specs.declared.parsed_line.Token.TheVariants as token
use Rattle.pct_grammar.proofs.OptionFacts.{bind_some, map_some}
use Rattle.pct_grammar.proofs.FirstFaults.{not_not, first_that_none, first_in_none}
use Rattle.pct_grammar.proofs.Roles.{line_spells, zip_from_maps, maps_from_zip, all_from_zip}
use Rattle.pct_grammar.proofs.Declarations.{names_from}

-- ---- two lists, index by index

map_or_false : {A : Type 0} (p : A → Bool) (o : Option A) → option_map_or p o false ≡ unwrap_or (option_map p o) false
map_or_false p None = refl
map_or_false p (Some x) = refl

at_of_map : {A : Type 0} (p : A → Bool) (xs : List A) (i : ℕ) → option_map_or p (slice_get xs i) false ≡ unwrap_or (slice_get (map p xs) i) false
at_of_map p xs i = map_or_false p (slice_get xs i) ∙ ap (λ (o : Option Bool). unwrap_or o false) (sym (slice_get-map p xs i))

at_from_zip : {A B : Type 0} (R : A → B → Type 0) (p : A → Bool) (q : B → Bool) → ((x : A) (y : B) → R x y → p x ≡ q y) → (xs : List A) (ys : List B) → AllZip R xs ys
    → (i : ℕ) → option_map_or p (slice_get xs i) false ≡ option_map_or q (slice_get ys i) false
at_from_zip R p q same xs ys zip i =
    at_of_map p xs i ∙ ap (λ (ts : List Bool). unwrap_or (slice_get ts i) false) (maps_from_zip R p q same xs ys zip) ∙ sym (at_of_map q ys i)

-- ---- plain functions

module _ (lines : List Line) (c : Contents) (are : AreContents lines c) where
  plain_line : (locals : List (List ℕ)) (l : Line) (s : Stmt) → encoded c locals l.1 ≡ Some (encode s) → is_plain (role_in l.1) ≡ is_plain (role_of s)
  plain_line locals l s e = ap (λ (f : LineKind). is_plain (syntax_of f).role) (line_spells c locals l.1 s e).line_kind

  plain_section : (section : Section) (f : Func) → SpellsBody c section f → is_plain_section section ≡ is_plain_body f
  plain_section section f spells =
      all_from_zip (λ (l : Line) (s : Stmt). encoded c f.locals l.1 ≡ Some (encode s)) (λ (l : Line). is_plain (role_in l.1)) (λ (s : Stmt). is_plain (role_of s)) (plain_line f.locals) section.body f.body
      (zip_from_maps (λ (l : Line). encoded c f.locals l.1) (λ (s : Stmt). Some (encode s)) section.body f.body spells)

  -- whether a function is plain, by its name and by its index
  at_name : (w : List ℕ) (a : Argument) → option_map (λ i. argument.Item i) (index_among (names_of_kind c kind.Function) w) ≡ Some a → is_plain_function lines w ≡ is_plain_at c a
  unfolding is_plain_function
  at_name w a e =
      let found = map_some (λ (i : ℕ). argument.Item i) (index_among (names_of_kind c kind.Function) w) a e in
      let there : index_among (names_declared lines kind.Function) w ≡ Some found.0 = ap (λ (names : List (List ℕ)). index_among names w) (names_from lines c kind.Function (are.declared kind.Function)) ∙ found.1 in
      ap (λ (o : Option ℕ). option_map_or (λ (i : ℕ). option_map_or is_plain_section (slice_get (functions_in lines) i) false) o false) there
      ∙ at_from_zip (SpellsBody c) is_plain_section is_plain_body plain_section (functions_in lines) c.funcs are.bodies found.0
      ∙ ap (is_plain_at c) found.2

  at_index : (locals : List (List ℕ)) (p : ArgumentKind) (w : Token) (a : Argument) → resolve (names_of_kind c) locals p w ≡ Some a
      → list_all (is_plain_function lines) (cond (asks_plain p) (names_in (w ∷ [])) []) ≡ (not (asks_plain p) || is_plain_at c a)
  unfolding resolve resolve_name
  at_index locals argument_kind.PlainFunction (token.Name w) a e = and-true (is_plain_function lines w) ∙ at_name w a e
  at_index locals argument_kind.PlainFunction _ a e = ap (is_plain_at c) (same_Some _ a e)
  at_index locals argument_kind.OptionalPlainFunction (token.Name w) a e = and-true (is_plain_function lines w) ∙ at_name w a e
  at_index locals argument_kind.OptionalPlainFunction _ a e = ap (is_plain_at c) (same_Some _ a e)
  at_index locals _ w a e = refl

  plain_words : (locals : List (List ℕ)) (argument_kinds : List ArgumentKind) (words : List Token) (args : List Argument) → resolve_all (names_of_kind c) locals argument_kinds words ≡ Some args
      → list_all (is_plain_function lines) (plain_names argument_kinds words) ≡ names_plain c argument_kinds args
  unfolding resolve_all plain_names names_plain
  plain_words locals [] [] args e = refl
  plain_words locals [] (w ∷ words) args e = absurd cc
  plain_words locals (p ∷ argument_kinds) [] args e = ap (names_plain c (p ∷ argument_kinds)) (same_Some [] args e)
  plain_words locals (p ∷ argument_kinds) (w ∷ words) args e =
      let names = names_of_kind c in
      let first = bind_some (resolve names locals p w) (λ first. option_map (λ others. first ∷ others) (resolve_all names locals argument_kinds words)) args e in
      let others = map_some (λ others. first.0 ∷ others) (resolve_all names locals argument_kinds words) args first.2 in
      list_all-append (is_plain_function lines) (cond (asks_plain p) (names_in (w ∷ [])) []) (plain_names argument_kinds words)
      ∙ ap₂ (λ (x y : Bool). x && y) (at_index locals p w first.0 first.1) (plain_words locals argument_kinds words others.0 others.1)
      ∙ ap (names_plain c (p ∷ argument_kinds)) others.2

  plain_names_in : (locals : List (List ℕ)) (l : Line) (s : Stmt) → encoded c locals l.1 ≡ Some (encode s) → not (names_other lines l.1) ≡ names_plain_functions c s
  unfolding names_other
  plain_names_in locals l s e =
      let t = line_spells c locals l.1 s e in
      not_not (list_all (is_plain_function lines) (plain_names (argument_kinds_in l.1) l.1.tokens)) ∙ plain_words locals (argument_kinds_in l.1) l.1.tokens (arguments_of s) t.args
      ∙ ap (λ (argument_kinds : List ArgumentKind). names_plain c argument_kinds (arguments_of s)) t.argument_kinds

  names_plain_in : (section : Section) (f : Func) → SpellsBody c section f → is_none (first_that (names_other lines) section.body) ≡ list_all (names_plain_functions c) f.body
  names_plain_in section f spells =
      first_that_none (names_other lines) section.body
      ∙ all_from_zip (λ (l : Line) (s : Stmt). encoded c f.locals l.1 ≡ Some (encode s)) (λ (l : Line). not (names_other lines l.1)) (names_plain_functions c) (plain_names_in f.locals) section.body f.body
      (zip_from_maps (λ (l : Line). encoded c f.locals l.1) (λ (s : Stmt). Some (encode s)) section.body f.body spells)

-- the arguments that have to be plain functions are plain if and only if the check finds no fault
pub plain_law : (lines : List Line) (c : Contents) → AreContents lines c → is_none (not_plain lines) ≡ list_all (λ f. list_all (names_plain_functions c) f.body) c.funcs
unfolding not_plain
plain_law lines c are =
    let check = λ (section : Section). first_that (names_other lines) section.body in
    first_in_none NotPlain check lines
    ∙ all_from_zip (SpellsBody c) (λ section. is_none (check section)) (λ (f : Func). list_all (names_plain_functions c) f.body) (names_plain_in lines c are) (functions_in lines) c.funcs are.bodies
