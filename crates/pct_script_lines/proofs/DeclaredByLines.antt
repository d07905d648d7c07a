-- What lines declare, line by line.
use Rattle.pct_names.proofs.Names.{◌++◌, [], ap, arith, Bool, cond, declared_by, declares, declaring, false, filter-append, filter_map}
use Rattle.pct_names.proofs.Names.{filter_map-append, flat_map, length, Line, List, names_declared, names_in, refl, SemDecl, sym}
use Rattle.pct_names.proofs.Names.{SymbolKind, take, true, ℕ, ◌∙◌, ◌∷◌, ◌≡◌, ◌≤◌}
use Rattle.std.proofs.Common.{append_assoc, append-nil}
use Rattle.std.proofs.lemmas.List.{length-append}
use Rattle.std.proofs.lemmas.List.Concat.{flat_map-append}
use Rattle.pct_model.specs.declared.line_kind.SymbolKind.TheVariants as kind
use Rattle.pct_grammar.specs.Resolving.{sem_in, sems_in}

-- ---- names

-- the names of a first line and of the others
one_more_declared : (l : Line) (lines : List Line) (k : SymbolKind) → names_declared (l ∷ lines) k ≡ names_declared (l ∷ []) k ++ names_declared lines k
one_more_declared l lines k =
    ap (flat_map (λ (m : Line). declared_by m.1)) (filter-append (λ (m : Line). declares k m.1) (l ∷ []) lines)
    ∙ flat_map-append (λ (m : Line). declared_by m.1) (declaring k (l ∷ [])) (declaring k lines)

one_at_most : (names : List (List ℕ)) → length (take 1 names) ≤ 1
one_at_most [] = omega arith
one_at_most (name ∷ names) = omega arith

few_of_one : (l : Line) (k : SymbolKind) (t : Bool) → declares k l.1 ≡ t → length (flat_map (λ (m : Line). declared_by m.1) (cond t (l ∷ []) [])) ≤ 1
few_of_one l k true e = omega (arith, one_at_most (names_in l.1.tokens), ap length (append-nil (declared_by l.1)))
few_of_one l k false e = omega arith

-- lines declare no more names than there are lines
pub few_declared : (lines : List Line) (k : SymbolKind) → length (names_declared lines k) ≤ length lines
few_declared [] k = omega arith
few_declared (l ∷ lines) k =
    omega (arith, few_declared lines k, few_of_one l k (declares k l.1) refl, ap length (one_more_declared l lines k), length-append (names_declared (l ∷ []) k) (names_declared lines k))

-- ---- semaphores

one_more_sem : (l : Line) (lines : List Line) → sems_in (l ∷ lines) ≡ sems_in (l ∷ []) ++ sems_in lines
unfolding sems_in
one_more_sem l lines =
    ap (filter_map (λ (m : Line). sem_in m.1.tokens)) (filter-append (λ (m : Line). declares kind.Sem m.1) (l ∷ []) lines)
    ∙ filter_map-append (λ (m : Line). sem_in m.1.tokens) (declaring kind.Sem (l ∷ [])) (declaring kind.Sem lines)

no_sems : sems_in [] ≡ []
unfolding sems_in
no_sems = refl

-- the semaphores with one more line
pub sems_go_on : (prefix after : List SemDecl) (l : Line) (lines rest : List Line) (all : List SemDecl) → rest ≡ l ∷ lines → after ≡ prefix ++ sems_in (l ∷ [])
    → prefix ++ sems_in rest ≡ all → after ++ sems_in lines ≡ all
sems_go_on prefix after l lines rest all first kept so_far =
    ap (λ xs. xs ++ sems_in lines) kept
    ∙ append_assoc prefix (sems_in (l ∷ [])) (sems_in lines)
    ∙ ap (λ xs. prefix ++ xs) (sym (one_more_sem l lines))
    ∙ ap (λ (ls : List Line). prefix ++ sems_in ls) (sym first) ∙ so_far

-- after the last line, the semaphores so far are all
pub sems_end : (prefix : List SemDecl) (rest : List Line) (all : List SemDecl) → rest ≡ [] → prefix ++ sems_in rest ≡ all → prefix ≡ all
sems_end prefix rest all none so_far = sym (append-nil prefix) ∙ ap (λ xs. prefix ++ xs) (sym no_sems) ∙ ap (λ (ls : List Line). prefix ++ sems_in ls) (sym none) ∙ so_far
