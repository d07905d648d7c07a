-- A script that lines spell has a text.
use Rattle.pct_names.proofs.Names.{◌&&◌, [], AllZip, and_from, ap, AreContents, argument_kinds_in, Bool, Contents, encode, encoded}
use Rattle.pct_names.proofs.Names.{EncodedStmt, Func, functions_in, has_first_word, has_line, has_lines, has_text, have_words, is_empty}
use Rattle.pct_names.proofs.Names.{is_name, is_statement, length, Line, List, list_all, map, names_in, names_of_kind, not, ParsedLine, refl}
use Rattle.pct_names.proofs.Names.{resolve_all, Section, Some, Stmt, sym, SymbolKind, syntax_of, true, ℕ, ◌∙◌, ◌∷◌, ◌≡◌}
use Rattle.pct_model.specs.declared.line_kind.SymbolKind.TheVariants as kind
use Rattle.pct_model.specs.declared.parsed_line.Token.TheVariants as token
use Rattle.pct_grammar.proofs.SharedWords.{IsParsed, EachParsed}
use Rattle.pct_grammar.proofs.OptionFacts.{map_some}
use Rattle.pct_grammar.proofs.EncodeDecode.{has_first}
use Rattle.pct_grammar.proofs.ParsedFromWords.{DeclaresFunction, line_declares}
use Rattle.pct_grammar.proofs.Declarations.{names_from, sems_from, names_are_names, is_sem, sems_are_sems, function_words, all_names_in}
use Rattle.pct_grammar.proofs.EncodedFunctions.{EachStatement, EachSection, FunctionParsed, functions_parsed, WroteAll, functions_resolve, line_has_words}

-- ---- statements

-- a statement that a line spells has a line
abbrev resolved_has_line : Contents → List (List ℕ) → EncodedStmt → Bool
resolved_has_line c locals t = has_first_word c locals t.0 && have_words c locals ((syntax_of t.0).argument_kinds (length t.1)) t.1

line_has : (c : Contents) (locals : List (List ℕ)) (line : ParsedLine) (s : Stmt) → IsParsed line → is_statement line ≡ true → encoded c locals line ≡ Some (encode s) → has_line c locals s ≡ true
unfolding has_line
line_has c locals line s from is h =
    let o = resolve_all (names_of_kind c) locals (argument_kinds_in line) line.tokens in
    let at = map_some {B = EncodedStmt} (λ arguments. (line.line_kind, arguments)) o (encode s) h in
    ap (resolved_has_line c locals) (sym at.2)
    ∙ and_from (has_first_word c locals line.line_kind) (have_words c locals ((syntax_of line.line_kind).argument_kinds (length at.0)) at.0)
    (has_first c locals from.first line.line_kind from.line_kind) (line_has_words c locals line at.0 from is at.1)

body_has : (c : Contents) (locals : List (List ℕ)) (body : List Line) (stmts : List Stmt) → EachStatement body → map (λ l. encoded c locals l.1) body ≡ map (λ s. Some (encode s)) stmts
    → list_all (has_line c locals) stmts ≡ true
body_has c locals body [] from h = refl
body_has c locals [] (s ∷ stmts) from h = absurd cc
body_has c locals (l ∷ body) (s ∷ stmts) from h =
    let first : encoded c locals l.1 ≡ Some (encode s) = cc in
    let others : map (λ (m : Line). encoded c locals m.1) body ≡ map (λ (t : Stmt). Some (encode t)) stmts = cc in
    and_from (has_line c locals s) (list_all (has_line c locals) stmts) (line_has c locals l.1 s from.0 from.1 first) (body_has c locals body stmts from.2 others)

-- ---- functions

function_has : (c : Contents) (section : Section) (f : Func) → FunctionParsed section → WroteAll c section f → has_lines c f ≡ true
unfolding has_lines
function_has c section f from resolves_to =
    let is : DeclaresFunction section.header.1.tokens = line_declares kind.Function section.header.1 from.header from.is in
    let locals = is.parameter ∷ is.others in
    let words : function_words is.name locals ≡ function_words f.name f.locals = sym is.same ∙ resolves_to.words in
    let name : is.name ≡ f.name = cc in
    let parsed : map (λ (w : List ℕ). token.Name w) locals ≡ map (λ (w : List ℕ). token.Name w) f.locals = cc in
    let same : locals ≡ f.locals = sym (all_names_in locals) ∙ ap names_in parsed ∙ all_names_in f.locals in
    let a : is_name f.name ≡ true = sym (ap is_name name) ∙ is.is in
    let b : not (is_empty f.locals) ≡ true = sym (ap (λ (names : List (List ℕ)). not (is_empty names)) same) in
    let d : list_all is_name f.locals ≡ true = sym (ap (list_all is_name) same) ∙ is.are in
    let e : list_all (has_line c f.locals) f.body ≡ true = body_has c f.locals section.body f.body from.body resolves_to.body in
    let ab : (is_name f.name && not (is_empty f.locals)) ≡ true = and_from (is_name f.name) (not (is_empty f.locals)) a b in
    let abd : (is_name f.name && not (is_empty f.locals) && list_all is_name f.locals) ≡ true = and_from (is_name f.name && not (is_empty f.locals)) (list_all is_name f.locals) ab d in
    and_from (is_name f.name && not (is_empty f.locals) && list_all is_name f.locals) (list_all (has_line c f.locals) f.body) abd e

functions_have : (c : Contents) (sections : List Section) (funcs : List Func) → EachSection FunctionParsed sections → AllZip (WroteAll c) sections funcs → list_all (has_lines c) funcs ≡ true
functions_have c sections [] from tell = refl
functions_have c [] (f ∷ funcs) from tell = absurd tell
functions_have c (section ∷ sections) (f ∷ funcs) from tell =
    and_from (has_lines c f) (list_all (has_lines c) funcs) (function_has c section f from.0 tell.0) (functions_have c sections funcs from.1 tell.1)

-- ---- scripts

-- the contents that parsed lines spell have a text
pub has_text_law : (lines : List Line) (c : Contents) → EachParsed lines → AreContents lines c → has_text c ≡ true
unfolding has_text
has_text_law lines c from are =
    let names : (k : SymbolKind) → list_all is_name (names_of_kind c k) ≡ true = λ k. sym (ap (list_all is_name) (names_from lines c k (are.declared k))) ∙ names_are_names k lines from in
    let sems : list_all is_sem c.sems ≡ true = sym (ap (list_all is_sem) (sems_from lines c (are.declared kind.Sem))) ∙ sems_are_sems lines from in
    let funcs : list_all (has_lines c) c.funcs ≡ true = functions_have c (functions_in lines) c.funcs (functions_parsed lines from) (functions_resolve lines c are) in
    let a = list_all is_name c.globals in
    let b = list_all is_name c.mutexes in
    let d = list_all is_name c.conds in
    let e = list_all is_sem c.sems in
    let f = list_all is_name c.onces in
    let before = and_from (a && b && d) e (and_from (a && b) d (and_from a b (names kind.Global) (names kind.Mutex)) (names kind.Cond)) sems in
    and_from (a && b && d && e && f) (list_all (has_lines c) c.funcs) (and_from (a && b && d && e) f before (names kind.Once)) funcs
