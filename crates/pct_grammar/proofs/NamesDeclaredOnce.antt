-- The check of names finds no fault if and only if each name is declared once.
use Rattle.pct_names.proofs.Names.{◌&&◌, ◌+◌, ◌++◌, [], all_different, all_names, and_from, and_parts, ap, ap₂, AreContents, arith, Bool}
use Rattle.pct_names.proofs.Names.{bytes_eq, cond, Contents, declared_by, declares, declares_again, declares_by, declaring, false}
use Rattle.pct_names.proofs.Names.{first_wrong, flat_map, has_each_name_once, headers, is_declaration, is_none, Line, List, list_all}
use Rattle.pct_names.proofs.Names.{list_any, locals_of, map, name_twice, names_declared, names_in, names_of, names_of_kind, NameTwice}
use Rattle.pct_names.proofs.Names.{nat_lt, none_wrong, not, not-true, not_from_false, ParsedLine, refl, Role, role_in, Section, sections_of}
use Rattle.pct_names.proofs.Names.{sym, SymbolKind, take, true, ◌||◌, ℕ, ◌∙◌, ◌∷◌, ◌≡◌, ◌≤◌}
use Rattle.std.proofs.Common.{lt-ltb}
use Rattle.std.proofs.lemmas.Bool.{ltb-false}
use Rattle.pct_model.specs.declared.line_kind.SymbolKind.TheVariants as kind
use Rattle.pct_model.specs.declared.role.Role.TheVariants as role
use Rattle.pct_model.proofs.Bytes.{same_bytes, bytes_eq-refl}
use Rattle.pct_grammar.proofs.FirstFaults.{and_assoc, not_not, line_none, first_wrong_none}
use Rattle.pct_grammar.proofs.SectionSplits.{all_statements, is_section, are_sections, outlines_of, declaring_headers}
use Rattle.pct_grammar.proofs.LimitLaw.{none_or, none_by_test}
use Rattle.pct_grammar.proofs.Declarations.{names_from}
use Rattle.pct_grammar.proofs.Declared.{locals_pass}

-- ---- tests

same_tests : (a b : Bool) → (a ≡ true → b ≡ true) → (b ≡ true → a ≡ true) → a ≡ b
same_tests true b f g = sym (f refl)
same_tests false true f g = g refl
same_tests false false f g = refl

-- ---- how often a name is among names

abbrev times : List ℕ → List (List ℕ) → ℕ
times w [] = 0
times w (name ∷ names) = cond (bytes_eq w name) 1 0 + times w names

times-append : (w : List ℕ) (xs ys : List (List ℕ)) → times w (xs ++ ys) ≡ times w xs + times w ys
times-append w [] ys = omega arith
times-append w (x ∷ xs) ys =
    let others = times-append w xs ys in
    omega arith

-- each name is there at most once
abbrev Once : List (List ℕ) → Type 0
Once names = (w : List ℕ) → times w names ≤ 1

any_step : (w : List ℕ) (xs : List (List ℕ)) (t : Bool) → list_any (bytes_eq w) xs ≡ nat_lt 0 (times w xs) → (t || list_any (bytes_eq w) xs) ≡ nat_lt 0 (cond t 1 0 + times w xs)
any_step w xs true e = sym (lt-ltb 0 (1 + times w xs) (omega arith))
any_step w xs false e = let same : times w xs ≡ 0 + times w xs = omega arith in e ∙ ap (nat_lt 0) same

-- a name is among names if it is there more than 0 times
any_times : (w : List ℕ) (xs : List (List ℕ)) → list_any (bytes_eq w) xs ≡ nat_lt 0 (times w xs)
any_times w [] = refl
any_times w (x ∷ xs) = any_step w xs (bytes_eq w x) (any_times w xs)

absent : (w : List ℕ) (xs : List (List ℕ)) → list_any (bytes_eq w) xs ≡ false → times w xs ≡ 0
absent w xs e = omega (arith, ltb-false 0 (times w xs) (sym (any_times w xs) ∙ e))

-- a first name that is not among the others
once_more_step : (w x : List ℕ) (xs : List (List ℕ)) (t : Bool) → bytes_eq w x ≡ t → times x xs ≡ 0 → times w xs ≤ 1 → cond t 1 0 + times w xs ≤ 1
once_more_step w x xs true e none few = let here : times w xs ≡ times x xs = ap (λ (v : List ℕ). times v xs) (same_bytes w x e) in omega arith
once_more_step w x xs false e none few = omega arith

once_more : (x : List ℕ) (xs : List (List ℕ)) → times x xs ≡ 0 → Once xs → Once (x ∷ xs)
once_more x xs none few = λ w. once_more_step w x xs (bytes_eq w x) refl none (few w)

first_times : (x : List ℕ) (xs : List (List ℕ)) → times x (x ∷ xs) ≡ 1 + times x xs
first_times x xs = ap (λ (t : Bool). cond t 1 0 + times x xs) (bytes_eq-refl x)

once_of_different : (xs : List (List ℕ)) → all_different xs ≡ true → Once xs
unfolding all_different
once_of_different [] e = λ w. omega arith
once_of_different (x ∷ xs) e =
    let both = and_parts (not (list_any (bytes_eq x) xs)) (all_different xs) e in
    once_more x xs (absent x xs (not-true (list_any (bytes_eq x) xs) both.0)) (once_of_different xs both.1)

different_of_once : (xs : List (List ℕ)) → Once xs → all_different xs ≡ true
unfolding all_different
different_of_once [] few = refl
different_of_once (x ∷ xs) few =
    let none : times x xs ≡ 0 = omega (arith, few x, first_times x xs) in
    and_from (not (list_any (bytes_eq x) xs)) (all_different xs) (not_from_false (list_any (bytes_eq x) xs) (any_times x xs ∙ ap (nat_lt 0) none)) (different_of_once xs (λ w. let one = few w in omega arith))

different_alike : (xs ys : List (List ℕ)) → ((w : List ℕ) → times w xs ≡ times w ys) → all_different xs ≡ true → all_different ys ≡ true
different_alike xs ys same e = different_of_once ys (λ w. omega (arith, same w, once_of_different xs e w))

same_different : (xs ys : List (List ℕ)) → ((w : List ℕ) → times w xs ≡ times w ys) → all_different xs ≡ all_different ys
same_different xs ys same = same_tests (all_different xs) (all_different ys) (different_alike xs ys same) (different_alike ys xs (λ w. sym (same w)))

-- ---- declarations in the order of the text

abbrev declared_in : List ParsedLine → List (List ℕ)
declared_in lines = flat_map declared_by lines

-- a name of the line is declared before it
abbrev declares_known : List ParsedLine → ParsedLine → Bool
declares_known before line = list_any (λ name. list_any (bytes_eq name) (declared_in before)) (declared_by line)

-- these lines in reverse, and others after them
abbrev reversed : List ParsedLine → List ParsedLine → List ParsedLine
reversed [] before = before
reversed (s ∷ items) before = reversed items (s ∷ before)

swapped : (a b : Bool) → (not a && b) ≡ (b && not (a || false))
swapped true true = refl
swapped false true = refl
swapped _ _ = refl

first_different : (names before : List (List ℕ)) → all_different (take 1 names ++ before) ≡ (all_different before && not (list_any (λ name. list_any (bytes_eq name) before) (take 1 names)))
unfolding all_different
first_different [] before = swapped false (all_different before)
first_different (x ∷ names) before = swapped (list_any (bytes_eq x) before) (all_different before)

different_reversed : (items before : List ParsedLine) → (all_different (declared_in before) && none_wrong declares_known before items) ≡ all_different (declared_in (reversed items before))
unfolding none_wrong
different_reversed [] before = sym (swapped false (all_different (declared_in before)))
different_reversed (s ∷ items) before =
    and_assoc (all_different (declared_in before)) (not (declares_known before s)) (none_wrong declares_known (s ∷ before) items)
    ∙ ap (λ (t : Bool). t && none_wrong declares_known (s ∷ before) items) (sym (first_different (names_in s.tokens) (declared_in before))) ∙ different_reversed items (s ∷ before)

times_reversed : (w : List ℕ) (items before : List ParsedLine) → times w (declared_in (reversed items before)) ≡ times w (declared_in items) + times w (declared_in before)
times_reversed w [] before = omega arith
times_reversed w (s ∷ items) before = omega (arith, times_reversed w items (s ∷ before), times-append w (declared_by s) (declared_in before), times-append w (declared_by s) (declared_in items))

-- no name is declared again if and only if the names are different, in any order
declares_again_law : (items : List ParsedLine) (names : List (List ℕ)) → ((w : List ℕ) → times w (declared_in items) ≡ times w names) → none_wrong declares_known [] items ≡ all_different names
unfolding all_different
declares_again_law items names same =
    different_reversed items [] ∙ same_different (declared_in (reversed items [])) names (λ w. omega (arith, times_reversed w items [], same w))

-- ---- the order of the kinds

-- how often a name is declared of a kind
abbrev times_of : List ℕ → List Line → SymbolKind → ℕ
times_of w lines k = times w (names_declared lines k)

abbrev times_in_kinds : (SymbolKind → ℕ) → ℕ
times_in_kinds n = n kind.Global + n kind.Mutex + n kind.Cond + n kind.Sem + n kind.Once + n kind.Function

abbrev declared_of : List Line → List (List ℕ)
declared_of lines = flat_map (λ (l : Line). declared_by l.1) lines

-- a first declaration is of one kind
kinds_step : (w : List ℕ) (l : Line) (lines : List Line) (r : Role) → is_declaration r ≡ true → times w (declared_of lines) ≡ times_in_kinds (times_of w lines)
    → times w (declared_by l.1 ++ declared_of lines) ≡ times_in_kinds (λ k. times w (declared_of (cond (declares_by k r) (l ∷ declaring k lines) (declaring k lines))))
kinds_step w l lines (role.Declares kind.Global) is e = omega (arith, times-append w (declared_by l.1) (declared_of lines), times-append w (declared_by l.1) (names_declared lines kind.Global))
kinds_step w l lines (role.Declares k) is e = omega (arith, times-append w (declared_by l.1) (declared_of lines), times-append w (declared_by l.1) (names_declared lines k))
kinds_step w l lines _ is e = absurd cc

in_kinds : (w : List ℕ) (sections : List Section) → list_all is_section sections ≡ true
    → times w (declared_of (outlines_of sections)) ≡ times_in_kinds (times_of w (outlines_of sections))
in_kinds w [] are = refl
in_kinds w (section ∷ sections) are =
    let h = and_parts (is_section section) (list_all is_section sections) are in
    let this = and_parts (is_declaration (role_in section.header.1)) (all_statements section.body) h.0 in
    kinds_step w section.header (outlines_of sections) (role_in section.header.1) this.0 (in_kinds w sections h.1)

declared_in_headers : (lines : List Line) → declared_in (map (λ l. l.1) lines) ≡ declared_of lines
declared_in_headers [] = refl
declared_in_headers (l ∷ lines) = ap (λ (names : List (List ℕ)). declared_by l.1 ++ names) (declared_in_headers lines)

-- a name is declared as often as it is among the names of all kinds
in_all_names : (w : List ℕ) (c : Contents) → times w (all_names c) ≡ times_in_kinds (λ k. times w (names_of_kind c k))
in_all_names w c =
    let a = c.globals in
    let b = c.mutexes in
    let d = c.conds in
    let e = map (λ s. s.name) c.sems in
    let f = c.onces in
    let g = names_of c.funcs in
    omega (arith, times-append w (a ++ b ++ d ++ e ++ f) g, times-append w (a ++ b ++ d ++ e) f, times-append w (a ++ b ++ d) e, times-append w (a ++ b) d, times-append w a b)

same_times : (lines : List Line) (c : Contents) → AreContents lines c → (w : List ℕ) → times w (declared_in (map (λ l. l.1) (headers lines))) ≡ times w (all_names c)
same_times lines c are w =
    let each : (k : SymbolKind) → times_of w (headers lines) k ≡ times w (names_of_kind c k) =
    λ k. ap (λ (ls : List Line). times w (declared_of ls)) (declaring_headers k lines) ∙ ap (times w) (names_from lines c k (are.declared k)) in
    let kinds : times_in_kinds (times_of w (headers lines)) ≡ times_in_kinds (λ k. times w (names_of_kind c k)) =
    omega (arith, each kind.Global, each kind.Mutex, each kind.Cond, each kind.Sem, each kind.Once, each kind.Function) in
    ap (times w) (declared_in_headers (headers lines)) ∙ in_kinds w (sections_of lines) (are_sections lines).sections_are ∙ kinds ∙ sym (in_all_names w c)

-- ---- locals

-- a `fn` line with a local twice
abbrev has_local_twice : ParsedLine → Bool
has_local_twice line = declares kind.Function line && not (all_different (locals_of line))

-- ---- the theorem

-- each name is declared once if and only if the check finds no fault
pub once_law : (lines : List Line) (c : Contents) → AreContents lines c → is_none (name_twice lines) ≡ has_each_name_once c
unfolding name_twice has_each_name_once declares_again
once_law lines c are =
    let items = map (λ (l : Line). l.1) (headers lines) in
    line_none NameTwice (first_wrong declares_again [] (headers lines)) ∙ first_wrong_none declares_again [] (headers lines)
    ∙ none_or declares_known (λ before line. has_local_twice line) [] items
    ∙ ap₂ (λ (x y : Bool). x && y) (declares_again_law items (all_names c) (same_times lines c are))
    (none_by_test has_local_twice [] items
    ∙ locals_pass all_different (λ line. not (all_different (locals_of line))) (headers lines) c (λ line. not_not (all_different (locals_of line)))
    (ap (map (λ (l : Line). l.1.tokens)) (declaring_headers kind.Function lines) ∙ are.declared kind.Function))
