-- All names of lines are declared if and only if the lines resolve to a script.
use Rattle.pct_names.proofs.Names.{◌&&◌, [], AllZip, ap, are_in_functions, AreContents, Argument, argument_kinds_in, Bool, cond, Contents}
use Rattle.pct_names.proofs.Names.{declarations, declaring, drop, encode, encoded, EncodedStmt, false, find, first_of, Func, functions_in}
use Rattle.pct_names.proofs.Names.{is_none, is_some, is_statement, Line, List, locals_of, map, names_declared, names_in, names_of_kind, not}
use Rattle.pct_names.proofs.Names.{Option, option_map, ParsedLine, refl, resolve_all, same_Some, Section, SemDecl, Some, SpellsBody, Stmt}
use Rattle.pct_names.proofs.Names.{subst, sym, SymbolKind, Token, true, unknown_in, unknown_name, uses_unknown, ℕ, ◌∙◌, ◌∷◌, ◌≡◌}
use Rattle.std.proofs.Math.Path.{fun_ext}
use Rattle.pct_model.specs.declared.line_kind.SymbolKind.TheVariants as kind
use Rattle.pct_grammar.specs.Resolving.{decode, resolve_statement, resolve_body, first_name, resolve_function, resolve_functions, sems_in, resolve_contents}
use Rattle.pct_grammar.proofs.SharedWords.{IsParsed, EachParsed}
use Rattle.pct_grammar.proofs.OptionFacts.{mapped_some, mapped_none, or_none, and_some, some_not_none, BothFrom, both_from, both_some, map_some}
use Rattle.pct_grammar.proofs.EncodeDecode.{statement_back, encoded_back}
use Rattle.pct_grammar.proofs.Declarations.{names_from, sems_from, all_names_in, parsed_again, each_declares, parsed_names, parsed_sems, parsed_functions}
use Rattle.pct_grammar.proofs.EncodedFunctions.{EachStatement, EachSection, FunctionParsed, functions_parsed, WroteAll, words_of_function, words_of_headers, functions_resolve, no_declaration, line_has_words}

-- ---- known names resolve

found_none : {A : Type 0} (test : A → Bool) (a : A) (o : Option A) (t : Bool) → test a ≡ t → is_none (cond t (Some a) o) ≡ (not t && is_none o)
found_none test a o true e = refl
found_none test a o false e = refl

line_known : (names : SymbolKind → List (List ℕ)) (locals : List (List ℕ)) (line : ParsedLine) → not (uses_unknown names locals line) ≡ is_some (resolve_statement names locals line)
unfolding uses_unknown resolve_statement
line_known names locals line =
    let o = resolve_all names locals (argument_kinds_in line) line.tokens in
    some_not_none o ∙ sym (mapped_some (decode line.line_kind) o)

body_known : (names : SymbolKind → List (List ℕ)) (locals : List (List ℕ)) (body : List Line) → is_none (find (λ l. uses_unknown names locals l.1) body) ≡ is_some (resolve_body names locals body)
unfolding resolve_body
body_known names locals [] = refl
body_known names locals (l ∷ body) =
    let more = find (λ (m : Line). uses_unknown names locals m.1) body in
    found_none (λ (m : Line). uses_unknown names locals m.1) l more (uses_unknown names locals l.1) refl
    ∙ ap (λ t. t && is_none more) (line_known names locals l.1)
    ∙ ap (λ t. is_some (resolve_statement names locals l.1) && t) (body_known names locals body)
    ∙ sym (and_some (λ (s : Stmt) (others : List Stmt). s ∷ others) (resolve_statement names locals l.1) (resolve_body names locals body))

function_known : (names : SymbolKind → List (List ℕ)) (section : Section) → is_none (unknown_in names section) ≡ is_some (resolve_function names section)
unfolding resolve_function
function_known names section =
    let locals = locals_of section.header.1 in
    mapped_none (λ (l : Line). l.0) (find (λ (l : Line). uses_unknown names locals l.1) section.body)
    ∙ body_known names locals section.body
    ∙ sym (mapped_some {B = Func} (λ body. record { name = first_name section.header.1.tokens; locals = locals; body = body }) (resolve_body names locals section.body))

functions_known : (names : SymbolKind → List (List ℕ)) (sections : List Section) → is_none (first_of (map (unknown_in names) sections)) ≡ is_some (resolve_functions names sections)
unfolding resolve_functions
functions_known names [] = refl
functions_known names (section ∷ sections) =
    or_none (unknown_in names section) (first_of (map (unknown_in names) sections))
    ∙ ap (λ t. t && is_none (first_of (map (unknown_in names) sections))) (function_known names section)
    ∙ ap (λ t. is_some (resolve_function names section) && t) (functions_known names sections)
    ∙ sym (and_some (λ (f : Func) (others : List Func). f ∷ others) (resolve_function names section) (resolve_functions names sections))

-- no name is unknown if and only if the lines resolve to contents
pub unknown_law : (lines : List Line) → is_none (unknown_name lines) ≡ is_some (resolve_contents lines)
unfolding unknown_name resolve_contents
unknown_law lines =
    mapped_none _ (first_of (map (unknown_in (names_declared lines)) (functions_in lines)))
    ∙ functions_known (names_declared lines) (functions_in lines)
    ∙ sym (mapped_some _ (resolve_functions (names_declared lines) (functions_in lines)))

-- ---- what is resolved is spelled

line_resolved : (c : Contents) (locals : List (List ℕ)) (line : ParsedLine) (s : Stmt) → IsParsed line → is_statement line ≡ true → resolve_statement (names_of_kind c) locals line ≡ Some s
    → encoded c locals line ≡ Some (encode s)
unfolding resolve_statement
line_resolved c locals line s from is h =
    let o = resolve_all (names_of_kind c) locals (argument_kinds_in line) line.tokens in
    let at = map_some (decode line.line_kind) o s h in
    let back : encode (decode line.line_kind at.0) ≡ (line.line_kind, at.0) =
    statement_back c locals line.line_kind at.0 (no_declaration line is) (line_has_words c locals line at.0 from is at.1)
    in ap (λ (p : Option (List Argument)). option_map {U = EncodedStmt} (λ arguments. (line.line_kind, arguments)) p) at.1 ∙ ap (λ (t : EncodedStmt). Some t) (sym back ∙ ap encode at.2)

body_resolved : (c : Contents) (locals : List (List ℕ)) (body : List Line) (stmts : List Stmt) → EachStatement body → resolve_body (names_of_kind c) locals body ≡ Some stmts
    → map (λ l. encoded c locals l.1) body ≡ map (λ s. Some (encode s)) stmts
unfolding resolve_body
body_resolved c locals [] stmts from h =
    let none : [] ≡ stmts = cc in
    ap (map (λ (s : Stmt). Some (encode s))) none
body_resolved c locals (l ∷ body) stmts from h =
    let o = resolve_statement (names_of_kind c) locals l.1 in
    let at : BothFrom o (resolve_body (names_of_kind c) locals body) stmts = both_from o (resolve_body (names_of_kind c) locals body) stmts h in
    ap (λ (t : Option EncodedStmt). t ∷ map (λ (m : Line). encoded c locals m.1) body) (line_resolved c locals l.1 at.first from.0 from.1 at.one)
    ∙ ap (λ more. Some (encode at.first) ∷ more) (body_resolved c locals body at.others from.2 at.rest)
    ∙ sym (ap (map (λ (s : Stmt). Some (encode s))) at.whole)

-- the function of a section with these statements
abbrev function_of : Section → List Stmt → Func
function_of section body = record { name = first_name section.header.1.tokens; locals = locals_of section.header.1; body = body }

function_resolved : (c : Contents) (section : Section) (f : Func) → EachStatement section.body → resolve_function (names_of_kind c) section ≡ Some f → SpellsBody c section f
unfolding resolve_function
function_resolved c section f from h =
    let o = resolve_body (names_of_kind c) (locals_of section.header.1) section.body in
    let at = map_some (function_of section) o f h in
    subst (SpellsBody c section) at.2 (body_resolved c (locals_of section.header.1) section.body at.0 from at.1)

functions_resolved : (c : Contents) (sections : List Section) (funcs : List Func) → EachSection FunctionParsed sections → resolve_functions (names_of_kind c) sections ≡ Some funcs → AllZip (SpellsBody c) sections funcs
unfolding resolve_functions
functions_resolved c [] funcs from h =
    let none : [] ≡ funcs = cc in
    subst (AllZip (SpellsBody c) []) none tt
functions_resolved c (section ∷ sections) funcs from h =
    let o = resolve_function (names_of_kind c) section in
    let at : BothFrom o (resolve_functions (names_of_kind c) sections) funcs = both_from o (resolve_functions (names_of_kind c) sections) funcs h in
    subst (AllZip (SpellsBody c) (section ∷ sections)) (sym at.whole) (function_resolved c section at.first from.0.body at.one, functions_resolved c sections at.others from.1 at.rest)

-- ---- what is resolved is declared

header_read : (names : SymbolKind → List (List ℕ)) (section : Section) (f : Func) → resolve_function names section ≡ Some f → parsed_again section.header.1.tokens ≡ words_of_function f
unfolding resolve_function
header_read names section f h =
    let o = resolve_body names (locals_of section.header.1) section.body in
    let at = map_some (function_of section) o f h in
    ap words_of_function at.2

headers_read : (names : SymbolKind → List (List ℕ)) (sections : List Section) (funcs : List Func) → resolve_functions names sections ≡ Some funcs → map (λ section. parsed_again section.header.1.tokens) sections ≡ map words_of_function funcs
unfolding resolve_functions
headers_read names [] funcs h =
    let none : [] ≡ funcs = cc in
    ap (map words_of_function) none
headers_read names (section ∷ sections) funcs h =
    let at : BothFrom (resolve_function names section) (resolve_functions names sections) funcs = both_from (resolve_function names section) (resolve_functions names sections) funcs h in
    ap (λ ws. ws ∷ map (λ (p : Section). parsed_again p.header.1.tokens) sections) (header_read names section at.first at.one)
    ∙ ap (λ more. words_of_function at.first ∷ more) (headers_read names sections at.others at.rest)
    ∙ sym (ap (map words_of_function) at.whole)

-- the contents with these functions
abbrev contents_with : List Line → List Func → Contents
contents_with lines funcs = record { globals = names_declared lines kind.Global; mutexes = names_declared lines kind.Mutex; conds = names_declared lines kind.Cond; sems = sems_in lines; onces = names_declared lines kind.Once; funcs = funcs }

all_declared : (lines : List Line) (funcs : List Func) → EachParsed lines → resolve_functions (names_declared lines) (functions_in lines) ≡ Some funcs → (k : SymbolKind)
    → map (λ l. l.1.tokens) (declaring k lines) ≡ declarations (contents_with lines funcs) k
unfolding declarations sems_in
all_declared lines funcs from h kind.Sem = parsed_sems (declaring kind.Sem lines) (each_declares kind.Sem lines from)
all_declared lines funcs from h kind.Function =
    parsed_functions (declaring kind.Function lines) (each_declares kind.Function lines from) ∙ sym (words_of_headers parsed_again lines) ∙ headers_read (names_declared lines) (functions_in lines) funcs h
all_declared lines funcs from h k = parsed_names (declaring k lines) (each_declares k lines from)

contents_from : (lines : List Line) (funcs : List Func) → EachParsed lines → are_in_functions lines ≡ true → resolve_functions (names_declared lines) (functions_in lines) ≡ Some funcs
    → AreContents lines (contents_with lines funcs)
contents_from lines funcs from inside h =
    let c = contents_with lines funcs in
    let declared = all_declared lines funcs from h in
    let names : names_declared lines ≡ names_of_kind c = fun_ext (λ k. names_from lines c k (declared k)) in
    let again : resolve_functions (names_of_kind c) (functions_in lines) ≡ Some funcs = sym (ap (λ (n : SymbolKind → List (List ℕ)). resolve_functions n (functions_in lines)) names) ∙ h in
    record { declared = declared; bodies = functions_resolved c (functions_in lines) funcs (functions_parsed lines from) again; in_functions = inside }

-- lines spell the contents that they resolve to
pub contents_are : (lines : List Line) (c : Contents) → EachParsed lines → are_in_functions lines ≡ true → resolve_contents lines ≡ Some c → AreContents lines c
unfolding resolve_contents
contents_are lines c from inside h =
    let at = map_some (contents_with lines) (resolve_functions (names_declared lines) (functions_in lines)) c h in
    subst (AreContents lines) at.2 (contents_from lines at.0 from inside at.1)

-- ---- what is spelled is resolved

line_read : (c : Contents) (locals : List (List ℕ)) (line : ParsedLine) (s : Stmt) → encoded c locals line ≡ Some (encode s) → resolve_statement (names_of_kind c) locals line ≡ Some s
unfolding resolve_statement
line_read c locals line s h =
    let o = resolve_all (names_of_kind c) locals (argument_kinds_in line) line.tokens in
    let at = map_some {B = EncodedStmt} (λ arguments. (line.line_kind, arguments)) o (encode s) h in
    ap (option_map (decode line.line_kind)) at.1 ∙ ap (λ (t : EncodedStmt). Some (decode t.0 t.1)) at.2 ∙ ap (λ (t : Stmt). Some t) (encoded_back s)

body_read : (c : Contents) (locals : List (List ℕ)) (body : List Line) (stmts : List Stmt) → map (λ l. encoded c locals l.1) body ≡ map (λ s. Some (encode s)) stmts
    → resolve_body (names_of_kind c) locals body ≡ Some stmts
unfolding resolve_body
body_read c locals [] [] h = refl
body_read c locals (l ∷ body) (s ∷ stmts) h =
    let first : encoded c locals l.1 ≡ Some (encode s) = cc in
    let others : map (λ (m : Line). encoded c locals m.1) body ≡ map (λ (t : Stmt). Some (encode t)) stmts = cc in
    both_some _ _ s stmts (line_read c locals l.1 s first) (body_read c locals body stmts others)
body_read c locals _ _ h = absurd cc

-- a function from the tokens of its `fn` line and the lines after it
abbrev function_from : (SymbolKind → List (List ℕ)) → List Line → List Token → Option Func
function_from names body words =
    option_map {U = Func} (λ stmts. record { name = first_name words; locals = drop 1 (names_in words); body = stmts }) (resolve_body names (drop 1 (names_in words)) body)

function_read : (c : Contents) (section : Section) (f : Func) → WroteAll c section f → resolve_function (names_of_kind c) section ≡ Some f
unfolding resolve_function
function_read c section f spells =
    let names = names_of_kind c in
    ap (function_from names section.body) spells.words
    ∙ ap (λ (ls : List (List ℕ)). option_map {U = Func} (λ stmts. record { name = f.name; locals = ls; body = stmts }) (resolve_body names ls section.body)) (all_names_in f.locals)
    ∙ ap (option_map (λ (stmts : List Stmt). record f { body = stmts })) (body_read c f.locals section.body f.body spells.body)

functions_read : (c : Contents) (sections : List Section) (funcs : List Func) → AllZip (WroteAll c) sections funcs → resolve_functions (names_of_kind c) sections ≡ Some funcs
unfolding resolve_functions
functions_read c [] [] tell = refl
functions_read c (section ∷ sections) (f ∷ funcs) tell = both_some _ _ f funcs (function_read c section f tell.0) (functions_read c sections funcs tell.1)
functions_read c _ _ tell = absurd tell

-- lines resolve to the contents that they spell
pub contents_read : (lines : List Line) (c : Contents) → AreContents lines c → resolve_contents lines ≡ Some c
unfolding resolve_contents
contents_read lines c are =
    let names : names_declared lines ≡ names_of_kind c = fun_ext (λ k. names_from lines c k (are.declared k)) in
    let found : resolve_functions (names_declared lines) (functions_in lines) ≡ Some c.funcs =
    ap (λ (n : SymbolKind → List (List ℕ)). resolve_functions n (functions_in lines)) names ∙ functions_read c (functions_in lines) c.funcs (functions_resolve lines c are) in
    ap (option_map (contents_with lines)) found
    ∙ ap (λ (n : SymbolKind → List (List ℕ)). Some (record c { globals = n kind.Global; mutexes = n kind.Mutex; conds = n kind.Cond; sems = sems_in lines; onces = n kind.Once })) names
    ∙ ap (λ (sems : List SemDecl). Some (record c { sems = sems })) (sems_from lines c (are.declared kind.Sem))

-- no name is unknown in lines that spell contents
pub known_law : (lines : List Line) (c : Contents) → AreContents lines c → is_none (unknown_name lines) ≡ true
known_law lines c are = unknown_law lines ∙ ap is_some (contents_read lines c are)

-- lines spell the contents of at most one script
pub one_law : (lines : List Line) (c d : Contents) → AreContents lines c → AreContents lines d → c ≡ d
one_law lines c d are also = same_Some c d (sym (contents_read lines c are) ∙ contents_read lines d also)
