-- The canonical text of a script spells it.
use Rattle.pct_names.proofs.Names.{◌&&◌, ◌++◌, [], and_from, and_parts, ap, AreContents, Bool, canon, cond, Contents, contents_of, decimal}
use Rattle.pct_names.proofs.Names.{declaration_line, declarations, encode, encoded, EncodedStmt, enumerate_from, flat_map, flat_map-cons}
use Rattle.pct_names.proofs.Names.{Func, function_lines, has_line, has_lines, has_text, is_empty, is_function, is_name, is_same}
use Rattle.pct_names.proofs.Names.{is_statement, Line, List, list_all, list_all-append, map, map-append, nat_le, Option, parsed_words}
use Rattle.pct_names.proofs.Names.{ParsedLine, refl, Script, script_lines, Section, sections_of, SemDecl, Some, Spells, SpellsContents}
use Rattle.pct_names.proofs.Names.{split_sections, statement_words, Stmt, subst, sym, SymbolKind, text_of, Token, true, ◌||◌, ℕ, ◌∙◌, ◌∷◌}
use Rattle.pct_names.proofs.Names.{◌≡◌}
use Rattle.std.proofs.Common.{append_assoc, leb-true}
use Rattle.std.proofs.lemmas.List.{append-nil}
use Rattle.pct_model.specs.declared.line_kind.SymbolKind.TheVariants as kind
use Rattle.pct_model.specs.declared.parsed_line.Token.TheVariants as token
use Rattle.pct_model.proofs.StaticFacts.{HasText, kinds_are_names, lines_of_function, passes_all, text_parts}
use Rattle.pct_grammar.proofs.SharedWords.{NameLists}
use Rattle.pct_grammar.proofs.CanonLines.{is_line, LineParses, parsed_lines_again, each_parses_again}
use Rattle.pct_grammar.proofs.CanonLineParsing.{declared_line, ParsesAs, is_plain_kind, name_parses, sem_parses, function_parses, statement_parses}
use Rattle.pct_grammar.proofs.CanonSections.{words_declared, none_of, nothing_before, declared_numbered, both_declare, statements_declare, kinds_declare, declares_first, StatementsThen, nothing_after, kinds_after, function_after}

-- ---- lines that parse

-- lines and their parsed lines
pub record ParseAll (lines : List (List (List ℕ))) (all : List ParsedLine) : Type 0 where
  pub are : list_all is_line lines ≡ true
  pub parse_all : LineParses lines all

one_more : (words : List (List ℕ)) (line : ParsedLine) (lines : List (List (List ℕ))) (all : List ParsedLine) → ParsesAs words line → ParseAll lines all → ParseAll (words ∷ lines) (line ∷ all)
one_more words line lines all first others =
    record {
      are = and_from (is_line words) (list_all is_line lines) first.are others.are;
      parse_all = ap (λ (o : Option ParsedLine). o ∷ map parsed_words lines) first.parsed ∙ ap (λ (os : List (Option ParsedLine)). Some line ∷ os) others.parse_all;
    }

both : (lines more : List (List (List ℕ))) (all rest : List ParsedLine) → ParseAll lines all → ParseAll more rest → ParseAll (lines ++ more) (all ++ rest)
both lines more all rest first others =
    record {
      are = list_all-append is_line lines more ∙ and_from (list_all is_line lines) (list_all is_line more) first.are others.are;
      parse_all = map-append parsed_words lines more ∙ ap (λ (os : List (Option ParsedLine)). os ++ map parsed_words more) first.parse_all
          ∙ ap (λ (os : List (Option ParsedLine)). map (λ (line : ParsedLine). Some line) all ++ os) others.parse_all ∙ sym (map-append (λ (line : ParsedLine). Some line) all rest);
    }

group_parses : {X : Type 0} (k : SymbolKind) (texts : X → List (List ℕ)) (words : X → List Token) (ok : X → Bool)
    → ((x : X) → ok x ≡ true → ParsesAs (declaration_line k (texts x)) (declared_line k (words x))) → (xs : List X) → list_all ok xs ≡ true
    → ParseAll (map (λ x. declaration_line k (texts x)) xs) (map (declared_line k) (map words xs))
group_parses k texts words ok each [] all = record { are = refl; parse_all = refl }
group_parses k texts words ok each (x ∷ xs) all =
    let sections = and_parts (ok x) (list_all ok xs) all in
    one_more (declaration_line k (texts x)) (declared_line k (words x)) (map (λ y. declaration_line k (texts y)) xs) (map (declared_line k) (map words xs))
    (each x sections.0) (group_parses k texts words ok each xs sections.1)

-- ---- functions

-- the parsed lines of a function's statements
record Body (c : Contents) (locals : List (List ℕ)) (body : List Stmt) : Type 0 where
  all : List ParsedLine
  line_parses : ParseAll (map (statement_words c locals) body) all
  resolves_to : map (encoded c locals) all ≡ map (λ s. Some (encode s)) body
  statements : list_all is_statement all ≡ true

body_parses : (c : Contents) (locals : List (List ℕ)) (body : List Stmt) → NameLists c locals → list_all (has_line c locals) body ≡ true → Body c locals body
body_parses c locals [] names have = record { all = []; line_parses = record { are = refl; parse_all = refl }; resolves_to = refl; statements = refl }
body_parses c locals (s ∷ body) names have =
    let sections = and_parts (has_line c locals s) (list_all (has_line c locals) body) have in
    let first = statement_parses c locals s names sections.0 in
    let others = body_parses c locals body names sections.1 in
    record {
      all = first.line ∷ others.all;
      line_parses = one_more (statement_words c locals s) first.line (map (statement_words c locals) body) others.all first.line_parses others.line_parses;
      resolves_to = ap (λ (o : Option EncodedStmt). o ∷ map (encoded c locals) others.all) first.resolves_to ∙ ap (λ (os : List (Option EncodedStmt)). Some (encode s) ∷ os) others.resolves_to;
      statements = and_from (is_statement first.line) (list_all is_statement others.all) first.no_declaration others.statements;
    }

-- the tokens of `fn` lines
abbrev outlines_of : List Func → List (List Token)
outlines_of funcs = map (λ f. token.Name f.name ∷ map (λ name. token.Name name) f.locals) funcs

-- the parsed lines of functions
record Functions (c : Contents) (funcs : List Func) : Type 0 where
  all : List ParsedLine
  line_parses : ParseAll (flat_map (function_lines c) funcs) all
  after : (n : ℕ) → StatementsThen c (split_sections (enumerate_from n all)) [] funcs
  declared : (k : SymbolKind) → words_declared k all ≡ cond (is_same k kind.Function) (outlines_of funcs) []

functions_parse : (c : Contents) (funcs : List Func) → HasText c → list_all (has_lines c) funcs ≡ true → Functions c funcs
unfolding function_lines
functions_parse c [] p have = record { all = []; line_parses = record { are = refl; parse_all = refl }; after = nothing_after c; declared = λ k. none_of (is_same k kind.Function) }
functions_parse c (f ∷ funcs) p have =
    let sections = and_parts (has_lines c f) (list_all (has_lines c) funcs) have in
    let own = lines_of_function c f sections.0 in
    let words = token.Name f.name ∷ map (λ (name : List ℕ). token.Name name) f.locals in
    let body = body_parses c f.locals f.body (record { kinds = λ k. kinds_are_names c k p; own = own.locals }) own.body in
    let others = functions_parse c funcs p sections.1 in
    let all = declared_line kind.Function words ∷ body.all ++ others.all in
    let header = function_parses f.name f.locals own.name own.some own.locals in
    let first : ParseAll (function_lines c f) (declared_line kind.Function words ∷ body.all) =
    one_more (declaration_line kind.Function (f.name ∷ f.locals)) (declared_line kind.Function words) (map (statement_words c f.locals) f.body) body.all header body.line_parses
    in
    record {
      all = all;
      line_parses = subst (λ (lines : List (List (List ℕ))). ParseAll lines all) (sym (flat_map-cons (function_lines c) f funcs))
          (both (function_lines c f) (flat_map (function_lines c) funcs) (declared_line kind.Function words ∷ body.all) others.all first others.line_parses);
      after = λ n. function_after c f funcs words body.all others.all n body.statements body.resolves_to others.after;
      declared = λ k. declares_first k kind.Function words (outlines_of funcs) (body.all ++ others.all)
          (both_declare k body.all others.all ∙ ap (λ ws. ws ++ words_declared k others.all) (statements_declare k body.all body.statements) ∙ others.declared k);
    }

-- ---- the theorem

-- the parsed lines of the declarations before the functions, and those of the functions
abbrev with_declarations : Contents → List ParsedLine → List ParsedLine
with_declarations c functions =
    map (declared_line kind.Global) (declarations c kind.Global) ++ (map (declared_line kind.Mutex) (declarations c kind.Mutex)
    ++ (map (declared_line kind.Cond) (declarations c kind.Cond) ++ (map (declared_line kind.Sem) (declarations c kind.Sem)
    ++ (map (declared_line kind.Once) (declarations c kind.Once) ++ functions))))

regrouped : {A : Type 0} (u v w x y z : List A) → ((((u ++ v) ++ w) ++ x) ++ y) ++ z ≡ u ++ (v ++ (w ++ (x ++ (y ++ z))))
regrouped u v w x y z = simp append_assoc

names_parse : (k : SymbolKind) (names : List (List ℕ)) → is_plain_kind k ≡ true → list_all is_name names ≡ true
    → ParseAll (map (λ (name : List ℕ). declaration_line k (name ∷ [])) names) (map (declared_line k) (map (λ (name : List ℕ). token.Name name ∷ []) names))
names_parse k names plain all = group_parses k (λ (name : List ℕ). name ∷ []) (λ (name : List ℕ). token.Name name ∷ []) is_name (λ name ok. name_parses k name plain ok) names all

all_parses : (c : Contents) → HasText c → (functions : List ParsedLine) → ParseAll (flat_map (function_lines c) c.funcs) functions → ParseAll (script_lines c) (with_declarations c functions)
unfolding script_lines declarations
all_parses c p functions line_parses =
    let resolve_name : SymbolKind → List (List ℕ) → List (List (List ℕ)) = λ k names. map (λ (name : List ℕ). declaration_line k (name ∷ [])) names in
    let parsed : SymbolKind → List (List ℕ) → List ParsedLine = λ k names. map (declared_line k) (map (λ (name : List ℕ). token.Name name ∷ []) names) in
    let sem_lines = map (λ (s : SemDecl). declaration_line kind.Sem (s.name ∷ decimal s.count ∷ [])) c.sems in
    let sems_said = map (declared_line kind.Sem) (map (λ (s : SemDecl). token.Name s.name ∷ token.Number s.count ∷ []) c.sems) in
    let function_text = flat_map (function_lines c) c.funcs in
    let of_sems : ParseAll sem_lines sems_said =
    group_parses kind.Sem (λ (s : SemDecl). s.name ∷ decimal s.count ∷ []) (λ (s : SemDecl). token.Name s.name ∷ token.Number s.count ∷ []) (λ (s : SemDecl). is_name s.name && nat_le s.count 32767)
    (λ s ok. let sections = and_parts (is_name s.name) (nat_le s.count 32767) ok in sem_parses s.name s.count sections.0 (leb-true s.count 32767 sections.1)) c.sems p.sems
    in
    let from_onces = both (resolve_name kind.Once c.onces) function_text (parsed kind.Once c.onces) functions (names_parse kind.Once c.onces refl p.onces) line_parses in
    let from_sems = both sem_lines _ sems_said _ of_sems from_onces in
    let from_conds = both (resolve_name kind.Cond c.conds) _ (parsed kind.Cond c.conds) _ (names_parse kind.Cond c.conds refl p.conds) from_sems in
    let from_mutexes = both (resolve_name kind.Mutex c.mutexes) _ (parsed kind.Mutex c.mutexes) _ (names_parse kind.Mutex c.mutexes refl p.mutexes) from_conds in
    let from_globals = both (resolve_name kind.Global c.globals) _ (parsed kind.Global c.globals) _ (names_parse kind.Global c.globals refl p.globals) from_mutexes in
    subst (λ (lines : List (List (List ℕ))). ParseAll lines (with_declarations c functions))
    (sym (regrouped (resolve_name kind.Global c.globals) (resolve_name kind.Mutex c.mutexes) (resolve_name kind.Cond c.conds) sem_lines (resolve_name kind.Once c.onces) function_text)) from_globals

-- what the declarations of one kind declare of another
abbrev of_kind : Contents → SymbolKind → SymbolKind → List (List Token)
of_kind c k other = cond (is_same k other) (declarations c other) []

one_kind : (c : Contents) (k other : SymbolKind) (rest : List ParsedLine) (words : List (List Token)) → words_declared k rest ≡ words
    → words_declared k (map (declared_line other) (declarations c other) ++ rest) ≡ of_kind c k other ++ words
one_kind c k other rest words e =
    both_declare k (map (declared_line other) (declarations c other)) rest ∙ ap (λ ws. ws ++ words_declared k rest) (kinds_declare k other (declarations c other)) ∙ ap (λ ws. of_kind c k other ++ ws) e

in_turn : (c : Contents) (functions : List ParsedLine) (k : SymbolKind) → words_declared k (with_declarations c functions)
    ≡ of_kind c k kind.Global ++ (of_kind c k kind.Mutex ++ (of_kind c k kind.Cond ++ (of_kind c k kind.Sem ++ (of_kind c k kind.Once ++ words_declared k functions))))
in_turn c functions k =
    one_kind c k kind.Global _ _ (one_kind c k kind.Mutex _ _ (one_kind c k kind.Cond _ _ (one_kind c k kind.Sem _ _ (one_kind c k kind.Once functions _ refl))))

declared_all : (c : Contents) (functions : List ParsedLine) → ((k : SymbolKind) → words_declared k functions ≡ cond (is_same k kind.Function) (outlines_of c.funcs) [])
    → (k : SymbolKind) → words_declared k (with_declarations c functions) ≡ declarations c k
unfolding declarations
declared_all c functions parsed kind.Function = in_turn c functions kind.Function ∙ parsed kind.Function
declared_all c functions parsed k = in_turn c functions k ∙ ap (λ ws. declarations c k ++ ws) (parsed k) ∙ append-nil (declarations c k)

after_all : (c : Contents) (functions : List ParsedLine) → ((n : ℕ) → StatementsThen c (split_sections (enumerate_from n functions)) [] c.funcs) → (n : ℕ) → StatementsThen c (split_sections (enumerate_from n (with_declarations c functions))) [] c.funcs
after_all c functions after n =
    let onces = map (declared_line kind.Once) (declarations c kind.Once) ++ functions in
    let sems = map (declared_line kind.Sem) (declarations c kind.Sem) ++ onces in
    let conds = map (declared_line kind.Cond) (declarations c kind.Cond) ++ sems in
    let mutexes = map (declared_line kind.Mutex) (declarations c kind.Mutex) ++ conds in
    kinds_after c c.funcs kind.Global (declarations c kind.Global) mutexes n refl (λ n1.
    kinds_after c c.funcs kind.Mutex (declarations c kind.Mutex) conds n1 refl (λ n2.
    kinds_after c c.funcs kind.Cond (declarations c kind.Cond) sems n2 refl (λ n3.
    kinds_after c c.funcs kind.Sem (declarations c kind.Sem) onces n3 refl (λ n4.
    kinds_after c c.funcs kind.Once (declarations c kind.Once) functions n4 refl after))))

are_contents : (c : Contents) (functions : List ParsedLine) → ((k : SymbolKind) → words_declared k functions ≡ cond (is_same k kind.Function) (outlines_of c.funcs) [])
    → ((n : ℕ) → StatementsThen c (split_sections (enumerate_from n functions)) [] c.funcs) → AreContents (enumerate_from 1 (with_declarations c functions)) c
are_contents c functions declared after =
    let all = with_declarations c functions in
    let sections = after_all c functions after 1 in
    record {
      declared = λ k. declared_numbered k 1 all ∙ declared_all c functions declared k;
      bodies = sections.bodies;
      in_functions = and_from (is_empty (split_sections (enumerate_from 1 all)).preamble) (list_all (λ (section : Section). is_function section || is_empty section.body) (sections_of (enumerate_from 1 all)))
          (nothing_before (split_sections (enumerate_from 1 all)).preamble sections.prefix) sections.within;
    }

-- each line of a canonical text parses
pub script_lines_parse : (c : Contents) → has_text c ≡ true → (all : List ParsedLine) × ParseAll (script_lines c) all
script_lines_parse c h =
    let p = text_parts c h in
    let functions = functions_parse c c.funcs p p.funcs in
    (with_declarations c functions.all, all_parses c p functions.all functions.line_parses)

spells_contents : (c : Contents) → has_text c ≡ true → SpellsContents (text_of (script_lines c)) c
spells_contents c h =
    let p = text_parts c h in
    let functions = functions_parse c c.funcs p p.funcs in
    let all = with_declarations c functions.all in
    let line_parses = all_parses c p functions.all functions.line_parses in
    record {
      each_says = each_parses_again (script_lines c) all line_parses.are line_parses.parse_all;
      are_contents = subst (λ (lines : List Line). AreContents lines c) (sym (parsed_lines_again (script_lines c) all line_parses.are line_parses.parse_all)) (are_contents c functions.all functions.declared functions.after);
    }

-- the canonical text of a script spells it
pub canon_spells : (script : Script) → Spells (canon script) script
canon_spells script = spells_contents (contents_of script) (passes_all (contents_of script) script.passes_checks).text
