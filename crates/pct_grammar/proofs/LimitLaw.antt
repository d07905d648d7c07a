-- The check of limits on lines, and the limits of the script that they spell.
use Rattle.pct_names.proofs.Names.{◌&&◌, ◌+◌, [], AllZip, and_parts, ap, AreContents, arith, Bool, cond, Contents, count_by, declarations}
use Rattle.pct_names.proofs.Names.{declares, declaring, encode, encoded, exceeds, exceeds_limit, false, filter, first_wrong, Func}
use Rattle.pct_names.proofs.Names.{functions_in, has_many_locals, is_empty, is_function, is_none, is_statement, is_within, keeps_limits}
use Rattle.pct_names.proofs.Names.{length, length-map, Line, List, list_all, locals_of, lt-leb, map, most, names_of_kind, nat_le, nat_lt}
use Rattle.pct_names.proofs.Names.{none_wrong, not, ParsedLine, refl, Section, Sections, sections_of, SemDecl, Some, SpellsBody}
use Rattle.pct_names.proofs.Names.{split_sections, statement_lines, Stmt, sum_by, sum_by-cons, sym, SymbolKind, Token, too_many, TooMany}
use Rattle.pct_names.proofs.Names.{true, ◌||◌, ℕ, ◌∙◌, ◌∷◌, ◌≡◌, ◌≤◌}
use Rattle.std.proofs.Common.{leb-true, le-leb}
use Rattle.std.proofs.lemmas.Bool.{leb-false, ltb-true, ltb-false}
use Rattle.pct_model.specs.declared.line_kind.SymbolKind.TheVariants as kind
use Rattle.pct_model.specs.declared.parsed_line.Token.TheVariants as token
use Rattle.pct_grammar.proofs.SectionSplits.{prefix_if}
use Rattle.pct_grammar.proofs.FirstFaults.{swap, line_none, first_wrong_none}
use Rattle.pct_grammar.proofs.Declared.{locals_pass}

-- ---- rules

or_step : (a b x y : Bool) → (not (a || b) && (x && y)) ≡ ((not a && x) && (not b && y))
or_step true b x y = refl
or_step false b x y = swap (not b) x y

-- no line breaks one of two rules if and only if no line breaks the first and none the second
pub none_or : {A : Type 0} (r s : List A → A → Bool) (before items : List A) → none_wrong (λ earlier a. r earlier a || s earlier a) before items ≡ (none_wrong r before items && none_wrong s before items)
unfolding none_wrong
none_or r s before [] = refl
none_or r s before (a ∷ items) =
    ap (λ (t : Bool). not (r before a || s before a) && t) (none_or r s (a ∷ before) items)
    ∙ or_step (r before a) (s before a) (none_wrong r (a ∷ before) items) (none_wrong s (a ∷ before) items)

-- a rule that does not depend on earlier lines
pub none_by_test : {A : Type 0} (test : A → Bool) (before items : List A) → none_wrong (λ earlier a. test a) before items ≡ list_all (λ a. not (test a)) items
unfolding none_wrong
none_by_test test before [] = refl
none_by_test test before (a ∷ items) = ap (λ (t : Bool). not (test a) && t) (none_by_test test (a ∷ before) items)

-- ---- counts

counted : {A : Type 0} (test : A → Bool) (a : A) (xs : List A) (t : Bool) → test a ≡ t → count_by test (a ∷ xs) ≡ cond t 1 0 + count_by test xs
counted test a xs t e = sum_by-cons (λ x. cond (test x) 1 0) a xs ∙ ap (λ (s : Bool). cond s 1 0 + count_by test xs) e

passes_step : (test : ParsedLine → Bool) (n : ℕ) (before : List ParsedLine) (a : ParsedLine) (items : List ParsedLine) (t u : Bool) → test a ≡ t → nat_le n (count_by test before) ≡ u → count_by test before ≤ n
    → (count_by test (a ∷ before) ≤ n → none_wrong (exceeds test n) (a ∷ before) items ≡ nat_le (count_by test (a ∷ before) + count_by test items) n)
    → (not (t && u) && none_wrong (exceeds test n) (a ∷ before) items) ≡ nat_le (count_by test before + count_by test (a ∷ items)) n
passes_step test n before a items false u e full few more =
    let own = counted test a before false e in
    let after = counted test a items false e in
    more (omega (arith, own)) ∙ ap (λ m. nat_le m n) (omega (arith, own, after))
passes_step test n before a items true true e full few more =
    sym (lt-leb (count_by test before + count_by test (a ∷ items)) n (omega (arith, counted test a items true e, leb-true n (count_by test before) full)))
passes_step test n before a items true false e full few more =
    let own = counted test a before true e in
    let after = counted test a items true e in
    more (omega (arith, own, leb-false n (count_by test before) full)) ∙ ap (λ m. nat_le m n) (omega (arith, own, after))

none_passes_after : (test : ParsedLine → Bool) (n : ℕ) (before items : List ParsedLine) → count_by test before ≤ n → none_wrong (exceeds test n) before items ≡ nat_le (count_by test before + count_by test items) n
unfolding none_wrong
none_passes_after test n before [] few =
    let still : count_by test before + count_by test [] ≤ n = omega arith in
    sym (le-leb (count_by test before + count_by test []) n still)
none_passes_after test n before (a ∷ items) few =
    passes_step test n before a items (test a) (nat_le n (count_by test before)) refl refl few (none_passes_after test n (a ∷ before) items)

-- no line is one too many if and only if there are not too many lines
none_passes : (test : ParsedLine → Bool) (n : ℕ) (items : List ParsedLine) → none_wrong (exceeds test n) [] items ≡ nat_le (count_by test items) n
none_passes test n items =
    let none : count_by test [] ≤ n = omega arith in
    let same : count_by test [] + count_by test items ≡ count_by test items = omega arith in
    none_passes_after test n [] items none ∙ ap (λ m. nat_le m n) same

one_counted : {A : Type 0} (t : Bool) (n : ℕ) (x : A) (xs : List A) → n ≡ length xs → cond t 1 0 + n ≡ length (cond t (x ∷ xs) xs)
one_counted true n x xs e = omega (arith, e)
one_counted false n x xs e = omega (arith, e)

-- the values that pass a test are counted by the items with such values
pub count_by-map : {A B : Type 0} (test : B → Bool) (f : A → B) (xs : List A) → count_by test (map f xs) ≡ length (filter (λ x. test (f x)) xs)
count_by-map test f [] = refl
count_by-map test f (x ∷ xs) =
    counted test (f x) (map f xs) (test (f x)) refl
    ∙ one_counted (test (f x)) (count_by test (map f xs)) x (filter (λ y. test (f y)) xs) (count_by-map test f xs)

-- ---- declarations

abbrev parsed_each : List Line → List ParsedLine
parsed_each lines = map (λ (l : Line). l.1) lines

declared_length : (c : Contents) (k : SymbolKind) → length (declarations c k) ≡ length (names_of_kind c k)
unfolding declarations
declared_length c kind.Sem = length-map c.sems (λ (s : SemDecl). token.Name s.name ∷ token.Number s.count ∷ []) ∙ sym (length-map c.sems (λ (s : SemDecl). s.name))
declared_length c kind.Function = length-map c.funcs (λ (f : Func). token.Name f.name ∷ map (λ (name : List ℕ). token.Name name) f.locals) ∙ sym (length-map c.funcs (λ (f : Func). f.name))
declared_length c k = length-map (names_of_kind c k) (λ (name : List ℕ). token.Name name ∷ [])

kind_within : (lines : List Line) (c : Contents) → AreContents lines c → (k : SymbolKind) → none_wrong (exceeds (declares k) (most k)) [] (parsed_each lines) ≡ is_within c k
kind_within lines c are k =
    none_passes (declares k) (most k) (parsed_each lines)
    ∙ ap (λ n. nat_le n (most k))
    (count_by-map (declares k) (λ (l : Line). l.1) lines ∙ sym (length-map (declaring k lines) (λ (l : Line). l.1.tokens)) ∙ ap (λ (ws : List (List Token)). length ws) (are.declared k) ∙ declared_length c k)

-- ---- statements

abbrev body_length : Section → ℕ
body_length section = length section.body

statements_step : (l : Line) (p : Sections) (t : Bool) (n : ℕ) → n ≡ length p.preamble + sum_by body_length p.sections → cond t 1 0 + n ≡ length (prefix_if t l p).preamble + sum_by body_length (prefix_if t l p).sections
statements_step l p true n e = omega (arith, e)
statements_step l p false n e = omega (arith, e, sum_by-cons body_length (record { header = l; body = p.preamble }) p.sections)

-- the statements of lines are those before the first section and those of the sections
statements_split : (lines : List Line) → count_by is_statement (parsed_each lines) ≡ length (split_sections lines).preamble + sum_by body_length (sections_of lines)
unfolding split_sections
statements_split [] = refl
statements_split (l ∷ lines) =
    counted is_statement l.1 (parsed_each lines) (is_statement l.1) refl
    ∙ statements_step l (split_sections lines) (is_statement l.1) (count_by is_statement (parsed_each lines)) (statements_split lines)

none_there : {A : Type 0} (xs : List A) → is_empty xs ≡ true → length xs ≡ 0
none_there [] e = refl
none_there (x ∷ xs) e = absurd cc

with_section : (section : Section) (all kept : List Section) (t : Bool) → (t || is_empty section.body) ≡ true → sum_by body_length all ≡ sum_by body_length kept → sum_by body_length (section ∷ all) ≡ sum_by body_length (cond t (section ∷ kept) kept)
with_section section all kept true h e = omega (arith, e, sum_by-cons body_length section all, sum_by-cons body_length section kept)
with_section section all kept false h e = omega (arith, e, sum_by-cons body_length section all, none_there section.body h)

-- if the other sections are empty, the statements are those of functions
in_functions : (sections : List Section) → list_all (λ section. is_function section || is_empty section.body) sections ≡ true → sum_by body_length sections ≡ sum_by body_length (filter is_function sections)
in_functions [] wholes = refl
in_functions (section ∷ sections) wholes =
    let w = and_parts (is_function section || is_empty section.body) (list_all (λ (p : Section). is_function p || is_empty p.body) sections) wholes in
    with_section section sections (filter is_function sections) (is_function section) w.0 (in_functions sections w.1)

bodies_count : (c : Contents) (sections : List Section) (funcs : List Func) → AllZip (SpellsBody c) sections funcs → sum_by body_length sections ≡ statement_lines funcs
bodies_count c [] [] zip = refl
bodies_count c (section ∷ sections) (f ∷ funcs) zip =
    let same : length section.body ≡ length f.body = sym (length-map section.body (λ (l : Line). encoded c f.locals l.1)) ∙ ap length zip.0 ∙ length-map f.body (λ (s : Stmt). Some (encode s)) in
    sum_by-cons body_length section sections ∙ ap (λ n. n + sum_by body_length sections) same ∙ ap (λ n. length f.body + n) (bodies_count c sections funcs zip.1)
    ∙ sym (sum_by-cons (λ (g : Func). length g.body) f funcs)
bodies_count c _ _ zip = absurd zip

statements_count : (lines : List Line) (c : Contents) → AreContents lines c → count_by is_statement (parsed_each lines) ≡ statement_lines c.funcs
statements_count lines c are =
    let h = and_parts (is_empty (split_sections lines).preamble) (list_all (λ (section : Section). is_function section || is_empty section.body) (sections_of lines)) are.in_functions in
    omega (arith, statements_split lines, none_there (split_sections lines).preamble h.0, in_functions (sections_of lines) h.1, bodies_count c (functions_in lines) c.funcs are.bodies)

-- ---- locals

at_most : (n : ℕ) (t : Bool) → nat_lt 8 n ≡ t → not t ≡ nat_le n 8
at_most n true e = sym (lt-leb n 8 (ltb-true 8 n e))
at_most n false e = sym (le-leb n 8 (ltb-false 8 n e))

locals_within : (lines : List Line) (c : Contents) → AreContents lines c → none_wrong (λ before line. has_many_locals line) [] (parsed_each lines) ≡ list_all (λ (f : Func). nat_le (length f.locals) 8) c.funcs
locals_within lines c are =
    none_by_test has_many_locals [] (parsed_each lines)
    ∙ locals_pass (λ names. nat_le (length names) 8) (λ line. nat_lt 8 (length (locals_of line))) lines c
    (λ line. at_most (length (locals_of line)) (nat_lt 8 (length (locals_of line))) refl) (are.declared kind.Function)

-- ---- all limits

abbrev Rule : Type 0
Rule = List ParsedLine → ParsedLine → Bool

abbrev by_kind : SymbolKind → Rule
by_kind k = exceeds (declares k) (most k)

abbrev either : Rule → Rule → Rule
either r s = λ before line. r before line || s before line

abbrev kinds : Rule
kinds = either (either (either (either (either (by_kind kind.Global) (by_kind kind.Mutex)) (by_kind kind.Cond)) (by_kind kind.Sem)) (by_kind kind.Once)) (by_kind kind.Function)

none_either : (r s : Rule) (items : List ParsedLine) (t u : Bool) → none_wrong r [] items ≡ t → none_wrong s [] items ≡ u → none_wrong (either r s) [] items ≡ (t && u)
none_either r s items t u e f = none_or r s [] items ∙ ap (λ (b : Bool). b && none_wrong s [] items) e ∙ ap (λ (b : Bool). t && b) f

kinds_within : (lines : List Line) (c : Contents) → AreContents lines c
    → none_wrong kinds [] (parsed_each lines)
    ≡ (is_within c kind.Global && is_within c kind.Mutex && is_within c kind.Cond && is_within c kind.Sem && is_within c kind.Once && is_within c kind.Function)
kinds_within lines c are =
    let within = kind_within lines c are in
    let all = parsed_each lines in
    none_either _ _ all _ _
    (none_either _ _ all _ _
    (none_either _ _ all _ _
    (none_either _ _ all _ _ (none_either (by_kind kind.Global) (by_kind kind.Mutex) all _ _ (within kind.Global) (within kind.Mutex)) (within kind.Cond))
    (within kind.Sem))
    (within kind.Once))
    (within kind.Function)

-- the check finds no fault if and only if the script keeps the limits
pub limits_law : (lines : List Line) (c : Contents) → AreContents lines c → is_none (too_many lines) ≡ keeps_limits c
unfolding too_many exceeds_limit keeps_limits
limits_law lines c are =
    let all = parsed_each lines in
    let within_all =
    is_within c kind.Global && is_within c kind.Mutex && is_within c kind.Cond && is_within c kind.Sem && is_within c kind.Once && is_within c kind.Function
    in
    let short = nat_le (statement_lines c.funcs) 2000 in
    let statements : none_wrong (exceeds is_statement 2000) [] all ≡ short = none_passes is_statement 2000 all ∙ ap (λ n. nat_le n 2000) (statements_count lines c are) in
    line_none TooMany (first_wrong exceeds_limit [] lines) ∙ first_wrong_none exceeds_limit [] lines
    ∙ none_either (either kinds (exceeds is_statement 2000)) (λ before line. has_many_locals line) all (within_all && short) (list_all (λ (f : Func). nat_le (length f.locals) 8) c.funcs)
    (none_either kinds (exceeds is_statement 2000) all within_all short (kinds_within lines c are) statements) (locals_within lines c are)
