-- The first declaration of a name that is declared before, found line by line.
use Rattle.pct_names.proofs.Names.{◌&&◌, ◌+◌, ◌++◌, [], all_different, ap, arith, Bool, bytes_eq, cond, declared_by, declares}
use Rattle.pct_names.proofs.Names.{declares_again, drop, false, fault_at_line, filter, first_wrong, flat_map, flat_map-cons, is_declaration}
use Rattle.pct_names.proofs.Names.{length, Line, List, list_any, list_any-append, locals_of, name_twice, NameTwice, None, not, Option}
use Rattle.pct_names.proofs.Names.{ParsedLine, refl, role_in, Some, suc, sym, take, true, zero, ◌||◌, ℕ, ◌∙◌, ◌∷◌, ◌≡◌}
use Rattle.pct_model.specs.declared.line_kind.SymbolKind.TheVariants as kind
use Rattle.pct_script_lines.specs.DeclaredBefore.{declares_name, declare_name, declares_twice, is_wrong, first_twice}
use Rattle.pct_grammar.proofs.SectionSplits.{headers_are}

-- ---- the rule of the check

-- the earlier declarations, the nearest first, declare the names that the earlier lines declare
abbrev AreDeclared : List ParsedLine → List Line → Type 0
AreDeclared before prefix = (name : List ℕ) → list_any (bytes_eq name) (flat_map declared_by before) ≡ declare_name prefix name

any_same : (f g : List ℕ → Bool) → ((name : List ℕ) → f name ≡ g name) → (names : List (List ℕ)) → list_any f names ≡ list_any g names
any_same f g same [] = refl
any_same f g same (name ∷ names) = ap (λ (t : Bool). t || list_any f names) (same name) ∙ ap (λ (t : Bool). g name || t) (any_same f g same names)

rule_same : (before : List ParsedLine) (prefix : List Line) (line : ParsedLine) → AreDeclared before prefix → declares_again before line ≡ declares_twice prefix line
unfolding declares_again
rule_same before prefix line same =
    ap (λ (t : Bool). t || declares kind.Function line && not (all_different (locals_of line)))
    (any_same (λ (name : List ℕ). list_any (bytes_eq name) (flat_map declared_by before)) (declare_name prefix) same (declared_by line))

swapped : (t a b f : Bool) → t ≡ true → b ≡ f → (a || b) ≡ (f || (t && a || false))
swapped true true true f e same = ap (λ (x : Bool). x || true) same
swapped true true false f e same = ap (λ (x : Bool). x || true) same
swapped true false true f e same = ap (λ (x : Bool). x || false) same
swapped true false false f e same = ap (λ (x : Bool). x || false) same
swapped false a b f e same = absurd cc

left_out : (t a b f : Bool) → t ≡ false → b ≡ f → b ≡ (f || (t && a || false))
left_out false a true f e same = ap (λ (x : Bool). x || false) same
left_out false a false f e same = ap (λ (x : Bool). x || false) same
left_out true a b f e same = absurd cc

one_more : (name : List ℕ) (prefix : List Line) (l : Line) → declare_name (prefix ++ l ∷ []) name ≡ (declare_name prefix name || (declares_name name l.1 || false))
one_more name prefix l = list_any-append (λ (m : Line). declares_name name m.1) prefix (l ∷ [])

declared : (before : List ParsedLine) (prefix : List Line) (l : Line) → is_declaration (role_in l.1) ≡ true → AreDeclared before prefix → AreDeclared (l.1 ∷ before) (prefix ++ l ∷ [])
declared before prefix l e same = λ (name : List ℕ).
    ap (list_any (bytes_eq name)) (flat_map-cons declared_by l.1 before)
    ∙ list_any-append (bytes_eq name) (declared_by l.1) (flat_map declared_by before)
    ∙ swapped (is_declaration (role_in l.1)) (list_any (bytes_eq name) (declared_by l.1)) (list_any (bytes_eq name) (flat_map declared_by before)) (declare_name prefix name) e (same name)
    ∙ sym (one_more name prefix l)

not_declared : (before : List ParsedLine) (prefix : List Line) (l : Line) → is_declaration (role_in l.1) ≡ false → AreDeclared before prefix → AreDeclared before (prefix ++ l ∷ [])
not_declared before prefix l e same = λ (name : List ℕ).
    left_out (is_declaration (role_in l.1)) (list_any (bytes_eq name) (declared_by l.1)) (list_any (bytes_eq name) (flat_map declared_by before)) (declare_name prefix name) e (same name)
    ∙ sym (one_more name prefix l)

step : (before : List ParsedLine) (prefix : List Line) (l : Line) (heads_behind : List Line) (o : Option ℕ) (t : Bool) → is_declaration (role_in l.1) ≡ t → AreDeclared before prefix
    → ((b : List ParsedLine) → AreDeclared b (prefix ++ l ∷ []) → first_wrong declares_again b heads_behind ≡ o)
    → first_wrong declares_again before (cond t (l ∷ heads_behind) heads_behind) ≡ cond (t && declares_twice prefix l.1) (Some l.0) o
unfolding first_wrong
step before prefix l heads_behind o true e same after =
    ap (λ (t : Bool). cond t (Some l.0) (first_wrong declares_again (l.1 ∷ before) heads_behind)) (rule_same before prefix l.1 same)
    ∙ ap (λ (p : Option ℕ). cond (declares_twice prefix l.1) (Some l.0) p) (after (l.1 ∷ before) (declared before prefix l e same))
step before prefix l heads_behind o false e same after = after before (not_declared before prefix l e same)

walk : (lines : List Line) (before : List ParsedLine) (prefix : List Line) → AreDeclared before prefix
    → first_wrong declares_again before (filter (λ (l : Line). is_declaration (role_in l.1)) lines) ≡ first_twice prefix lines
unfolding first_wrong first_twice
walk [] before prefix same = refl
walk (l ∷ lines) before prefix same =
    step before prefix l (filter (λ (m : Line). is_declaration (role_in m.1)) lines) (first_twice (prefix ++ l ∷ []) lines) (is_declaration (role_in l.1)) refl same
    (λ (b : List ParsedLine) (more : AreDeclared b (prefix ++ l ∷ [])). walk lines b (prefix ++ l ∷ []) more)

-- the check finds the first such declaration
pub twice_is : (lines : List Line) → fault_at_line NameTwice (first_twice [] lines) ≡ name_twice lines
unfolding name_twice
twice_is lines =
    sym (ap (λ (ls : List Line). fault_at_line NameTwice (first_wrong declares_again [] ls)) (headers_are lines)
    ∙ ap (fault_at_line NameTwice) (walk lines [] [] (λ (name : List ℕ). refl)))

-- ---- line by line

take_suc : (lines : List Line) (at : ℕ) (l : Line) (after : List Line) → drop at lines ≡ l ∷ after → take (suc at) lines ≡ take at lines ++ l ∷ []
take_suc [] zero l after e = absurd cc
take_suc [] (suc at) l after e = absurd cc
take_suc (m ∷ lines) zero l after e = let first : m ≡ l = cc in ap (λ (x : Line). x ∷ []) first
take_suc (m ∷ lines) (suc at) l after e = ap (λ (xs : List Line). m ∷ xs) (take_suc lines at l after e)

dropped : (lines : List Line) (at : ℕ) (l : Line) (after : List Line) → drop at lines ≡ l ∷ after → drop (suc at) lines ≡ after
dropped [] zero l after e = absurd cc
dropped [] (suc at) l after e = absurd cc
dropped (m ∷ lines) zero l after e = cc
dropped (m ∷ lines) (suc at) l after e = dropped lines at l after e

-- one more earlier line
pub take_next : (lines : List Line) (at : ℕ) (l : Line) (after : List Line) → drop at lines ≡ l ∷ after → take (at + 1) lines ≡ take at lines ++ l ∷ []
take_next lines at l after e =
    let next : at + 1 ≡ suc at = omega arith in
    ap (λ n. take n lines) next ∙ take_suc lines at l after e

-- one fewer line left
pub drop_next : (lines : List Line) (at : ℕ) (l : Line) (after : List Line) → drop at lines ≡ l ∷ after → drop (at + 1) lines ≡ after
drop_next lines at l after e =
    let next : at + 1 ≡ suc at = omega arith in
    ap (λ n. drop n lines) next ∙ dropped lines at l after e

-- a line that declares such a name
pub first_here : (prefix : List Line) (l : Line) (after : List Line) → is_wrong prefix l.1 ≡ true → first_twice prefix (l ∷ after) ≡ Some l.0
unfolding first_twice
first_here prefix l after wrong = ap (λ (t : Bool). cond t (Some l.0) (first_twice (prefix ++ l ∷ []) after)) wrong

-- a line that does not
pub first_after : (prefix : List Line) (l : Line) (after : List Line) → is_wrong prefix l.1 ≡ false → first_twice prefix (l ∷ after) ≡ first_twice (prefix ++ l ∷ []) after
unfolding first_twice
first_after prefix l after right = ap (λ (t : Bool). cond t (Some l.0) (first_twice (prefix ++ l ∷ []) after)) right

-- after the last line
pub first_none : (prefix lines : List Line) → length lines ≡ 0 → first_twice prefix lines ≡ None
unfolding first_twice
first_none prefix [] none = refl
first_none prefix (l ∷ lines) none = absurd (omega arith)
