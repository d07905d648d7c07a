-- The function `main` and the locals of functions: in the lines, and in the script that they spell.
use Rattle.pct_names.proofs.Names.{◌&&◌, [], ap, ap₂, AreContents, Bool, bytes_eq, cond, Contents, declarations, declares, declaring, drop}
use Rattle.pct_names.proofs.Names.{false, Fault, Func, has_main, is_none, keyword_text, Line, List, list_all, list_all-map, list_any}
use Rattle.pct_names.proofs.Names.{locals_of, map, names_declared, names_in, no_main, NoMain, None, not, ParsedLine, refl, Some, sym, Token}
use Rattle.pct_names.proofs.Names.{true, ℕ, ◌∙◌, ◌∷◌, ◌≡◌}
use Rattle.pct_model.specs.declared.line_kind.SymbolKind.TheVariants as kind
use Rattle.pct_model.specs.declared.keyword.Keyword.TheVariants as keyword
use Rattle.pct_grammar.proofs.Declarations.{all_names_in, names_from}
use Rattle.pct_grammar.proofs.EncodedFunctions.{words_of_function}

-- ---- main

none_if : (t : Bool) (fault : Fault) → is_none (cond t None (Some fault)) ≡ t
none_if true fault = refl
none_if false fault = refl

-- a function has the name `main` if and only if the check of `main` finds no fault
pub main_law : (lines : List Line) (c : Contents) → AreContents lines c → is_none (no_main lines) ≡ has_main c
unfolding no_main
main_law lines c are =
    none_if (list_any (bytes_eq (keyword_text keyword.Main)) (names_declared lines kind.Function)) (1, NoMain)
    ∙ ap (list_any (bytes_eq (keyword_text keyword.Main))) (names_from lines c kind.Function (are.declared kind.Function))

-- ---- locals

kept_step : (good : ParsedLine → Bool) (l : Line) (others : List Line) (d b rest : Bool) → not b ≡ good l.1 → rest ≡ list_all (λ m. good m.1) others
    → (not (d && b) && rest) ≡ list_all (λ m. good m.1) (cond d (l ∷ others) others)
kept_step good l others true b rest same e = ap₂ (λ (x y : Bool). x && y) same e
kept_step good l others false b rest same e = e

of_functions : (good bad : ParsedLine → Bool) → ((line : ParsedLine) → not (bad line) ≡ good line) → (lines : List Line)
    → list_all (λ line. not (declares kind.Function line && bad line)) (map (λ l. l.1) lines) ≡ list_all (λ l. good l.1) (declaring kind.Function lines)
of_functions good bad same [] = refl
of_functions good bad same (l ∷ lines) =
    let rest = list_all (λ line. not (declares kind.Function line && bad line)) (map (λ (l : Line). l.1) lines) in
    kept_step good l (declaring kind.Function lines) (declares kind.Function l.1) (bad l.1) rest (same l.1) (of_functions good bad same lines)

of_words : (test : List (List ℕ) → Bool) (funcs : List Func)
    → list_all (λ ws. test (drop 1 (names_in ws))) (map words_of_function funcs) ≡ list_all (λ f. test f.locals) funcs
of_words test [] = refl
of_words test (f ∷ funcs) = ap₂ (λ (x y : Bool). x && y) (ap test (all_names_in f.locals)) (of_words test funcs)

-- no `fn` line has locals that fail a test if and only if the locals of each function pass it
pub locals_pass : (test : List (List ℕ) → Bool) (bad : ParsedLine → Bool) (lines : List Line) (c : Contents)
    → ((line : ParsedLine) → not (bad line) ≡ test (locals_of line))
    → map (λ l. l.1.tokens) (declaring kind.Function lines) ≡ declarations c kind.Function
    → list_all (λ line. not (declares kind.Function line && bad line)) (map (λ l. l.1) lines) ≡ list_all (λ f. test f.locals) c.funcs
unfolding declarations
locals_pass test bad lines c same are =
    let passes = λ (ws : List Token). test (drop 1 (names_in ws)) in
    of_functions (λ line. test (locals_of line)) bad same lines
    ∙ sym (list_all-map passes (λ (l : Line). l.1.tokens) (declaring kind.Function lines)) ∙ ap (list_all passes) are ∙ of_words test c.funcs
