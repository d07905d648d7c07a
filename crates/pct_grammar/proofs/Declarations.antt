-- The tokens of the declarations of each kind, and the names that a script declares.
use Rattle.pct_names.proofs.Names.{◌&&◌, ◌++◌, [], and_from, ap, Bool, cond, cons_option, Contents, declarations, declared_by, declares}
use Rattle.pct_names.proofs.Names.{declaring, drop, false, filter_map, flat_map, flat_map-map, flat_map_single, Func, is_name, Line, List}
use Rattle.pct_names.proofs.Names.{list_all, list_all-append, map, names_declared, names_in, names_of_kind, nat_le, refl, SemDecl, sym}
use Rattle.pct_names.proofs.Names.{SymbolKind, take, Token, true, ℕ, ◌∙◌, ◌∷◌, ◌≡◌}
use Rattle.pct_model.specs.declared.line_kind.SymbolKind.TheVariants as kind
use Rattle.pct_model.specs.declared.parsed_line.Token.TheVariants as token
use Rattle.pct_grammar.specs.Resolving.{first_name, sem_in, sems_in}
use Rattle.pct_grammar.proofs.SharedWords.{IsParsed, EachParsed}
use Rattle.pct_grammar.proofs.ParsedFromWords.{DeclaresName, DeclaresSem, DeclaresFunction, Declares, line_declares}

-- ---- the tokens of a script's declarations

-- the tokens that declare a name, a semaphore, a function
abbrev pub name_words : List ℕ → List Token
name_words name = token.Name name ∷ []

abbrev pub sem_words : SemDecl → List Token
sem_words s = token.Name s.name ∷ token.Number s.count ∷ []

abbrev pub function_words : List ℕ → List (List ℕ) → List Token
function_words name locals = token.Name name ∷ map (λ w. token.Name w) locals

-- the name that tokens declare
abbrev first_of_words : List Token → List (List ℕ)
first_of_words words = take 1 (names_in words)

-- the names among tokens that are all names
pub all_names_in : (names : List (List ℕ)) → names_in (map (λ name. token.Name name) names) ≡ names
all_names_in [] = refl
all_names_in (name ∷ names) = ap (λ more. name ∷ more) (all_names_in names)

names_of_words : (names : List (List ℕ)) → flat_map first_of_words (map name_words names) ≡ names
names_of_words [] = refl
names_of_words (name ∷ names) = ap (λ more. name ∷ more) (names_of_words names)

names_parsed : (c : Contents) (k : SymbolKind) → flat_map first_of_words (declarations c k) ≡ names_of_kind c k
unfolding declarations
names_parsed c kind.Sem = flat_map-map first_of_words sem_words c.sems ∙ flat_map_single (λ (s : SemDecl). s.name) c.sems
names_parsed c kind.Function =
    flat_map-map first_of_words (λ (f : Func). function_words f.name f.locals) c.funcs ∙ flat_map_single (λ (f : Func). f.name) c.funcs
names_parsed c k = names_of_words (names_of_kind c k)

-- lines with these tokens declare these names
pub names_from : (lines : List Line) (c : Contents) (k : SymbolKind) → map (λ l. l.1.tokens) (declaring k lines) ≡ declarations c k → names_declared lines k ≡ names_of_kind c k
names_from lines c k e = sym (flat_map-map first_of_words (λ (l : Line). l.1.tokens) (declaring k lines)) ∙ ap (flat_map first_of_words) e ∙ names_parsed c k

-- the semaphores that tokens declare
sems_of_words : (sems : List SemDecl) → filter_map sem_in (map sem_words sems) ≡ sems
sems_of_words [] = refl
sems_of_words (s ∷ sems) = ap (λ more. s ∷ more) (sems_of_words sems)

sems_of_lines : (ls : List Line) → filter_map (λ l. sem_in l.1.tokens) ls ≡ filter_map sem_in (map (λ l. l.1.tokens) ls)
sems_of_lines [] = refl
sems_of_lines (l ∷ ls) = ap (λ more. cons_option (sem_in l.1.tokens) more) (sems_of_lines ls)

-- lines with these tokens declare these semaphores
pub sems_from : (lines : List Line) (c : Contents) → map (λ l. l.1.tokens) (declaring kind.Sem lines) ≡ declarations c kind.Sem → sems_in lines ≡ c.sems
unfolding declarations sems_in
sems_from lines c e = sems_of_lines (declaring kind.Sem lines) ∙ ap (filter_map sem_in) e ∙ sems_of_words c.sems

-- ---- lines that declare something

-- the tokens of each line satisfy a property
abbrev pub EachIs : (List Token → Type 0) → List Line → Type 0
EachIs Is [] = Unit {0}
EachIs Is (l ∷ lines) = Is l.1.tokens × EachIs Is lines

one_declares : (k : SymbolKind) (l : Line) (lines : List Line) (t : Bool) → declares k l.1 ≡ t → IsParsed l.1 → EachIs (Declares k) lines → EachIs (Declares k) (cond t (l ∷ lines) lines)
one_declares k l lines true e from others = (line_declares k l.1 from e, others)
one_declares k l lines false e from others = others

-- each declaration of a kind has the tokens of such a declaration
pub each_declares : (k : SymbolKind) (lines : List Line) → EachParsed lines → EachIs (Declares k) (declaring k lines)
each_declares k [] from = tt
each_declares k (l ∷ lines) from = one_declares k l (declaring k lines) (declares k l.1) refl from.0 (each_declares k lines from.1)

-- ---- the tokens of what is declared

-- the lines have the tokens of the names that they declare
pub parsed_names : (ls : List Line) → EachIs DeclaresName ls → map (λ l. l.1.tokens) ls ≡ map name_words (flat_map (λ l. declared_by l.1) ls)
parsed_names [] is = refl
parsed_names (l ∷ ls) is =
    ap (λ (ws : List Token). ws ∷ map (λ (m : Line). m.1.tokens) ls) is.0.same
    ∙ ap (λ more. name_words is.0.name ∷ more) (parsed_names ls is.1)
    ∙ sym (ap (λ ws. map name_words (first_of_words ws ++ flat_map (λ (m : Line). declared_by m.1) ls)) is.0.same)

-- the lines have the tokens of the semaphores that they declare
pub parsed_sems : (ls : List Line) → EachIs DeclaresSem ls → map (λ l. l.1.tokens) ls ≡ map sem_words (filter_map (λ l. sem_in l.1.tokens) ls)
parsed_sems [] is = refl
parsed_sems (l ∷ ls) is =
    ap (λ (ws : List Token). ws ∷ map (λ (m : Line). m.1.tokens) ls) is.0.same
    ∙ ap (λ more. (token.Name is.0.name ∷ token.Number is.0.n ∷ []) ∷ more) (parsed_sems ls is.1)
    ∙ sym (ap (λ ws. map sem_words (cons_option (sem_in ws) (filter_map (λ (m : Line). sem_in m.1.tokens) ls))) is.0.same)

-- the tokens of a `fn` line
abbrev pub parsed_again : List Token → List Token
parsed_again words = function_words (first_name words) (drop 1 (names_in words))

same_again : (words : List Token) → DeclaresFunction words → words ≡ parsed_again words
same_again words is =
    let locals = is.parameter ∷ is.others in
    is.same ∙ ap (λ names. function_words is.name names) (sym (all_names_in locals)) ∙ sym (ap parsed_again is.same)

-- the lines have the tokens of the names and locals that they declare
pub parsed_functions : (ls : List Line) → EachIs DeclaresFunction ls → map (λ l. l.1.tokens) ls ≡ map (λ l. parsed_again l.1.tokens) ls
parsed_functions [] is = refl
parsed_functions (l ∷ ls) is =
    ap (λ (ws : List Token). ws ∷ map (λ (m : Line). m.1.tokens) ls) (same_again l.1.tokens is.0) ∙ ap (λ more. parsed_again l.1.tokens ∷ more) (parsed_functions ls is.1)

-- ---- declared names are names

declared_name : (k : SymbolKind) (words : List Token) → Declares k words → list_all is_name (first_of_words words) ≡ true
declared_name kind.Global words is = ap (λ ws. list_all is_name (first_of_words ws)) is.same ∙ and_from (is_name is.name) true is.is refl
declared_name _ words is = ap (λ ws. list_all is_name (first_of_words ws)) is.same ∙ and_from (is_name is.name) true is.is refl

each_name : (k : SymbolKind) (ls : List Line) → EachIs (Declares k) ls → list_all is_name (flat_map (λ l. declared_by l.1) ls) ≡ true
each_name k [] is = refl
each_name k (l ∷ ls) is =
    let others = flat_map (λ (m : Line). declared_by m.1) ls in
    list_all-append is_name (declared_by l.1) others
    ∙ and_from (list_all is_name (declared_by l.1)) (list_all is_name others) (declared_name k l.1.tokens is.0) (each_name k ls is.1)

-- the declared names of each kind are names
pub names_are_names : (k : SymbolKind) (lines : List Line) → EachParsed lines → list_all is_name (names_declared lines k) ≡ true
names_are_names k lines from = each_name k (declaring k lines) (each_declares k lines from)

-- a semaphore with a name and a count in range
abbrev pub is_sem : SemDecl → Bool
is_sem s = is_name s.name && nat_le s.count 32767

each_sem : (ls : List Line) → EachIs DeclaresSem ls → list_all is_sem (filter_map (λ l. sem_in l.1.tokens) ls) ≡ true
each_sem [] is = refl
each_sem (l ∷ ls) is =
    ap (λ ws. list_all is_sem (cons_option (sem_in ws) (filter_map (λ (m : Line). sem_in m.1.tokens) ls))) is.0.same
    ∙ and_from (is_name is.0.name && nat_le is.0.n 32767) (list_all is_sem (filter_map (λ (m : Line). sem_in m.1.tokens) ls)) (and_from (is_name is.0.name) (nat_le is.0.n 32767) is.0.is is.0.fits) (each_sem ls is.1)

-- the declared semaphores have names and counts in range
pub sems_are_sems : (lines : List Line) → EachParsed lines → list_all is_sem (sems_in lines) ≡ true
unfolding sems_in
sems_are_sems lines from = each_sem (declaring kind.Sem lines) (each_declares kind.Sem lines from)
