-- The greatest size of a script's canonical text.
use Rattle.pct_names.proofs.Names.{◌&&◌, ◌*◌, ◌+◌, ◌++◌, [], and_parts, ap, Argument, argument_kinds_of, argument_texts, ArgumentKind}
use Rattle.pct_names.proofs.Names.{arguments_of, arith, canon, Contents, contents_of, decimal, declaration_line, encode, false, flat_map}
use Rattle.pct_names.proofs.Names.{flat_map-cons, Func, function_lines, is_empty, length, length-map, List, list_all, map, nat_le, not}
use Rattle.pct_names.proofs.Names.{Script, script_lines, SemDecl, statement_lines, statement_words, Stmt, sum_by-cons, SymbolKind}
use Rattle.pct_names.proofs.Names.{text_of, true, ℕ, ◌∙◌, ◌∷◌, ◌≡◌, ◌≤◌}
use Rattle.std.proofs.Common.{leb-true}
use Rattle.pct_model.specs.declared.line_kind.SymbolKind.TheVariants as kind
use Rattle.pct_model.specs.declared.statement.Stmt.TheVariants as statement
use Rattle.pct_model.proofs.StaticFacts.{limits_kept, few_functions}
use Rattle.pct_grammar.proofs.SharedWords.{is_printable, is_word}
use Rattle.pct_grammar.proofs.CanonLines.{is_line, words_of_line}
use Rattle.pct_schedule_laws.proofs.FirstMarker.{text_of-size}
use Rattle.pct_schedule_laws.proofs.ScriptLines.{lines_of_script}
use Rattle.pct_schedule_laws.proofs.Sizes.{words_size, line_size}

-- ---- bytes

-- a word has at most 31 bytes
word_size : (w : List ℕ) → is_word w ≡ true → length w ≤ 31
word_size w is = leb-true (length w) 31 (and_parts (not (is_empty w) && list_all is_printable w) (nat_le (length w) 31) is).1

all_words_size : (words : List (List ℕ)) → list_all is_word words ≡ true → words_size words ≤ 32 * length words + 1
unfolding words_size
all_words_size [] all = omega arith
all_words_size (w ∷ words) all =
    let parts = and_parts (is_word w) (list_all is_word words) all in
    omega (arith, word_size w parts.0, all_words_size words parts.1)

-- the number of words on lines, and one more for each line
abbrev count : List (List (List ℕ)) → ℕ
count [] = 0
count (words ∷ lines) = length words + 1 + count lines

lines_size : (lines : List (List (List ℕ))) → list_all is_line lines ≡ true → length (text_of lines) ≤ 32 * count lines
lines_size [] all = omega arith
lines_size (words ∷ lines) all =
    let parts = and_parts (is_line words) (list_all is_line lines) all in
    omega (arith, text_of-size words lines, line_size words, all_words_size words (words_of_line words parts.0), lines_size lines parts.1)

-- ---- words

count_both : (one other : List (List (List ℕ))) → count (one ++ other) ≡ count one + count other
count_both [] other = omega arith
count_both (words ∷ one) other = omega (arith, count_both one other)

-- lines of at most n words
count_few : {X : Type 0} (n : ℕ) (line : X → List (List ℕ)) → ((x : X) → length (line x) ≤ n) → (xs : List X) → count (map line xs) ≤ (n + 1) * length xs
count_few n line few [] = omega arith
count_few n line few (x ∷ xs) = omega (arith, few x, count_few n line few xs)

few_texts : (c : Contents) (locals : List (List ℕ)) (argument_kinds : List ArgumentKind) (arguments : List Argument) → length (argument_texts c locals argument_kinds arguments) ≤ length arguments
unfolding argument_texts
few_texts c locals [] arguments = omega arith
few_texts c locals (p ∷ argument_kinds) [] = omega arith
few_texts c locals (p ∷ argument_kinds) (a ∷ arguments) = omega (arith, few_texts c locals argument_kinds arguments)

-- a statement has at most 5 words after its first
few_arguments : (s : Stmt) → length (arguments_of s) ≤ 5
unfolding encode
few_arguments (statement.Create result id f v true) = omega arith
few_arguments (statement.Create result id f v false) = omega arith
few_arguments _ = omega arith

few_words : (c : Contents) (locals : List (List ℕ)) (s : Stmt) → length (statement_words c locals s) ≤ 6
unfolding statement_words
few_words c locals s = omega (arith, few_texts c locals (argument_kinds_of s) (arguments_of s), few_arguments s)

count_functions : (c : Contents) (fs : List Func) → list_all (λ f. nat_le (length f.locals) 8) fs ≡ true → count (flat_map (function_lines c) fs) ≤ 11 * length fs + 7 * statement_lines fs
unfolding function_lines
count_functions c [] few = omega arith
count_functions c (f ∷ fs) few =
    let short = and_parts (nat_le (length f.locals) 8) (list_all (λ (g : Func). nat_le (length g.locals) 8) fs) few in
    let lines : Func → List (List (List ℕ)) = function_lines c in
    let whole : count (flat_map lines (f ∷ fs)) ≡ count (lines f) + count (flat_map lines fs) = ap count (flat_map-cons lines f fs) ∙ count_both (lines f) (flat_map lines fs) in
    let total : statement_lines (f ∷ fs) ≡ length f.body + statement_lines fs = sum_by-cons (λ (g : Func). length g.body) f fs in
    omega (arith, whole, total, leb-true (length f.locals) 8 short.0, count_few 6 (statement_words c f.locals) (few_words c f.locals) f.body, count_functions c fs short.1)

-- the canonical text of a script has at most 500,000 bytes
pub canon_size : (script : Script) → length (canon script) ≤ 500000
unfolding script_lines
canon_size script =
    let c = contents_of script in
    let limits = limits_kept c script.passes_checks in
    let name_line : SymbolKind → List ℕ → List (List ℕ) = λ k name. declaration_line k (name ∷ []) in
    let sem_line : SemDecl → List (List ℕ) = λ s. declaration_line kind.Sem (s.name ∷ decimal s.count ∷ []) in
    let globals = map (name_line kind.Global) c.globals in
    let mutexes = map (name_line kind.Mutex) c.mutexes in
    let conds = map (name_line kind.Cond) c.conds in
    let sems = map sem_line c.sems in
    let onces = map (name_line kind.Once) c.onces in
    let few_globals : length c.globals ≤ 32 = limits.kinds kind.Global in
    let few_mutexes : length c.mutexes ≤ 32 = limits.kinds kind.Mutex in
    let few_conds : length c.conds ≤ 32 = limits.kinds kind.Cond in
    let few_sems : length (map (λ (s : SemDecl). s.name) c.sems) ≤ 32 = limits.kinds kind.Sem in
    let few_onces : length c.onces ≤ 32 = limits.kinds kind.Once in
    let declared : count (globals ++ mutexes ++ conds ++ sems ++ onces) ≡ count globals + count mutexes + count conds + count sems + count onces =
    omega (arith, count_both (globals ++ mutexes ++ conds ++ sems) onces, count_both (globals ++ mutexes ++ conds) sems, count_both (globals ++ mutexes) conds, count_both globals mutexes) in
    omega (arith, lines_size (script_lines c) (lines_of_script script).1.are, count_both (globals ++ mutexes ++ conds ++ sems ++ onces) (flat_map (function_lines c) c.funcs), declared, few_globals, few_mutexes, few_conds, few_sems, few_onces, length-map c.sems (λ (s : SemDecl). s.name), few_functions c script.passes_checks, limits.statements, count_few 2 (name_line kind.Global) (λ name. omega arith) c.globals, count_few 2 (name_line kind.Mutex) (λ name. omega arith) c.mutexes, count_few 2 (name_line kind.Cond) (λ name. omega arith) c.conds, count_few 3 sem_line (λ s. omega arith) c.sems, count_few 2 (name_line kind.Once) (λ name. omega arith) c.onces, count_functions c c.funcs limits.locals)
