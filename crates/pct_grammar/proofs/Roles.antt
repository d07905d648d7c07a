-- The roles of a function's lines are the roles of its statements, and so a return between a push and its pop is in the lines if
-- and only if it is in the script that they spell.
use Rattle.pct_names.proofs.Names.{[], AllZip, ap, ap₂, AreContents, Argument, argument_kinds_in, argument_kinds_of, ArgumentKind}
use Rattle.pct_names.proofs.Names.{arguments_of, Bool, Contents, encode, encoded, first_wrong, Func, functions_in, is_in_push, is_none}
use Rattle.pct_names.proofs.Names.{length, Line, line_kind_of_statement, LineKind, List, list_all, list_all-map, map, names_of_kind}
use Rattle.pct_names.proofs.Names.{none_wrong, Numbered, Option, ParsedLine, refl, resolve_all, return_in_push, ReturnInPush}
use Rattle.pct_names.proofs.Names.{returns_outside_pushes, Role, role_in, role_of, roles, Section, Some, SpellsBody, Stmt, sym, syntax_of}
use Rattle.pct_names.proofs.Names.{ℕ, ◌∙◌, ◌∷◌, ◌≡◌}
use Rattle.pct_grammar.proofs.FirstFaults.{first_wrong_none, first_in_none}
use Rattle.pct_grammar.proofs.TokensResolve.{replaced_lengths}
use Rattle.pct_grammar.proofs.OptionFacts.{map_some}

-- ---- two lists, index by index

-- equal images, index by index
pub zip_from_maps : {A B C : Type 0} (f : A → C) (g : B → C) (xs : List A) (ys : List B) → map f xs ≡ map g ys → AllZip (λ x y. f x ≡ g y) xs ys
zip_from_maps f g [] [] e = tt
zip_from_maps f g (x ∷ xs) (y ∷ ys) e =
    let first : f x ≡ g y = cc in
    let others : map f xs ≡ map g ys = cc in
    (first, zip_from_maps f g xs ys others)
zip_from_maps f g _ _ e = absurd cc

-- images are equal if they are so index by index
pub maps_from_zip : {A B C : Type 0} (R : A → B → Type 0) (p : A → C) (q : B → C) → ((x : A) (y : B) → R x y → p x ≡ q y) → (xs : List A) (ys : List B) → AllZip R xs ys → map p xs ≡ map q ys
maps_from_zip R p q same [] [] zip = refl
maps_from_zip R p q same (x ∷ xs) (y ∷ ys) zip = ap₂ (λ z zs. z ∷ zs) (same x y zip.0) (maps_from_zip R p q same xs ys zip.1)
maps_from_zip R p q same _ _ zip = absurd zip

-- tests of all items agree if they agree index by index
pub all_from_zip : {A B : Type 0} (R : A → B → Type 0) (p : A → Bool) (q : B → Bool) → ((x : A) (y : B) → R x y → p x ≡ q y) → (xs : List A) (ys : List B) → AllZip R xs ys → list_all p xs ≡ list_all q ys
all_from_zip R p q same xs ys zip =
    sym (list_all-map (λ t. t) p xs) ∙ ap (list_all (λ t. t)) (maps_from_zip R p q same xs ys zip) ∙ list_all-map (λ t. t) q ys

-- ---- what a line spells

-- the line is of the statement's kind, with its arguments at the same positions
pub record SpellsOne (c : Contents) (locals : List (List ℕ)) (line : ParsedLine) (s : Stmt) : Type 0 where
  pub line_kind : line.line_kind ≡ line_kind_of_statement s
  pub args : resolve_all (names_of_kind c) locals (argument_kinds_in line) line.tokens ≡ Some (arguments_of s)
  pub argument_kinds : argument_kinds_in line ≡ argument_kinds_of s

pub line_spells : (c : Contents) (locals : List (List ℕ)) (line : ParsedLine) (s : Stmt) → encoded c locals line ≡ Some (encode s) → SpellsOne c locals line s
line_spells c locals line s e =
    let all = resolve_all (names_of_kind c) locals (argument_kinds_in line) line.tokens in
    let found = map_some (λ args. (line.line_kind, args)) all (encode s) e in
    let line_kind : line.line_kind ≡ line_kind_of_statement s = ap (λ (t : LineKind × List Argument). t.0) found.2 in
    let args : all ≡ Some (arguments_of s) = found.1 ∙ ap (λ (t : LineKind × List Argument). Some t.1) found.2 in
    let many : length line.tokens ≡ length (arguments_of s) = sym (replaced_lengths (names_of_kind c) locals (argument_kinds_in line) line.tokens (arguments_of s) args) in
    record { line_kind = line_kind; args = args; argument_kinds = ap₂ (λ (f : LineKind) (n : ℕ). (syntax_of f).argument_kinds n) line_kind many }

-- the roles of lines without their numbers
pub without_numbers : (lines : List Line) → map (λ (l : Numbered Role). l.1) (roles lines) ≡ map (λ (l : Line). role_in l.1) lines
without_numbers [] = refl
without_numbers (l ∷ lines) = ap (λ (rs : List Role). role_in l.1 ∷ rs) (without_numbers lines)

-- ---- the lines of a function

-- the roles of a function's lines are those of its statements
pub roles_same : (c : Contents) (section : Section) (f : Func) → SpellsBody c section f → map (λ l. role_in l.1) section.body ≡ map role_of f.body
roles_same c section f e =
    maps_from_zip (λ (l : Line) (s : Stmt). encoded c f.locals l.1 ≡ Some (encode s)) (λ (l : Line). role_in l.1) role_of
    (λ l s h. ap (λ (k : LineKind). (syntax_of k).role) (line_spells c f.locals l.1 s h).line_kind) section.body f.body
    (zip_from_maps (λ (l : Line). encoded c f.locals l.1) (λ (s : Stmt). Some (encode s)) section.body f.body e)

-- ---- returns

one_function : (c : Contents) (section : Section) (f : Func) → SpellsBody c section f → is_none (first_wrong is_in_push [] (roles section.body)) ≡ returns_outside_pushes f
one_function c section f e =
    first_wrong_none is_in_push [] (roles section.body) ∙ ap (λ (rs : List Role). none_wrong is_in_push [] rs) (without_numbers section.body ∙ roles_same c section f e)

-- the check finds no fault if and only if no function has such a return
pub returns_law : (lines : List Line) (c : Contents) → AreContents lines c → is_none (return_in_push lines) ≡ list_all returns_outside_pushes c.funcs
unfolding return_in_push
returns_law lines c are =
    first_in_none ReturnInPush (λ (section : Section). first_wrong is_in_push [] (roles section.body)) lines
    ∙ all_from_zip (SpellsBody c) (λ (section : Section). is_none (first_wrong is_in_push [] (roles section.body))) returns_outside_pushes (one_function c)
    (functions_in lines) c.funcs are.bodies
