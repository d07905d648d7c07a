-- The bytes of a script's lines, in the order in which they are written.
use Rattle.pct_names.proofs.Names.{◌+◌, ◌++◌, ◌<◌, [], ap, Argument, argument_text, argument_texts, ArgumentKind, arith, Contents, decimal}
use Rattle.pct_names.proofs.Names.{declaration_line, drop, drop-cons, drop_all, flat_map, flat_map-cons, flat_map-map, Func, function_lines}
use Rattle.pct_names.proofs.Names.{get_or, get_or_from_slice_get, inl, inr, join_with_byte, length, line_text, List, map, None, refl}
use Rattle.pct_names.proofs.Names.{script_lines, SemDecl, slice_get, slice_get_cases, slice_get_within, Some, statement_words, suc, sym}
use Rattle.pct_names.proofs.Names.{SymbolKind, text_of, ℕ, ◌∙◌, ◌∷◌, ◌≡◌, ◌≤◌, ◌⊎◌}
use Rattle.std.proofs.Common.{append_assoc}
use Rattle.std.proofs.lemmas.List.{append-nil}
use Rattle.std.proofs.lemmas.Grind.{flat_map-append}
use Rattle.pct_model.specs.declared.line_kind.SymbolKind.TheVariants as kind
use Rattle.pct_printer.specs.Printing.{spaced, names_text, declarations_text, arguments_text, body_text, functions_text}

-- words separated by spaces are the first word, and the others, each after a space
pub joined : (w : List ℕ) (words : List (List ℕ)) → join_with_byte 32 (w ∷ words) ≡ w ++ spaced words
joined w [] = sym (append-nil w)
joined w (next ∷ words) = ap (λ rest. w ++ (32 ∷ rest)) (joined next words) ∙ ap (λ rest. w ++ rest) (sym (flat_map-cons (λ (x : List ℕ). 32 ∷ x) next words))

-- a line is its first word, the others, each after a space, and LF
pub line_is : (w : List ℕ) (words : List (List ℕ)) → line_text (w ∷ words) ≡ (w ++ spaced words) ++ 10 ∷ []
line_is w words = ap (λ line. line ++ 10 ∷ []) (joined w words)

-- a line of two words and others
pub line_of_two : (w next : List ℕ) (words : List (List ℕ)) → line_text (w ∷ next ∷ words) ≡ ((w ++ 32 ∷ next) ++ spaced words) ++ 10 ∷ []
line_of_two w next words =
    line_is w (next ∷ words)
    ∙ ap (λ line. line ++ 10 ∷ []) (ap (λ rest. w ++ rest) (flat_map-cons (λ (x : List ℕ). 32 ∷ x) next words) ∙ sym (append_assoc w (32 ∷ next) (spaced words)))

-- the argument kind at an index, and those after it
argument_kind_first : (argument_kinds : List ArgumentKind) (at : ℕ) (p : ArgumentKind) → slice_get argument_kinds at ≡ Some p → drop at argument_kinds ≡ p ∷ drop (suc at) argument_kinds
argument_kind_first argument_kinds at p here =
    drop-cons argument_kinds at p (slice_get_within argument_kinds at p here) ∙ ap (λ q. q ∷ drop (suc at) argument_kinds) (get_or_from_slice_get argument_kinds at p p here)

past : (argument_kinds : List ArgumentKind) (at : ℕ) → slice_get argument_kinds at ≡ None
    → ((p : ArgumentKind) × (at < length argument_kinds) × (slice_get argument_kinds at ≡ Some p) × (get_or argument_kinds at p ≡ p)) ⊎ ((length argument_kinds ≤ at) × (slice_get argument_kinds at ≡ None)) → drop at argument_kinds ≡ []
past argument_kinds at none (inl h) = absurd (cc)
past argument_kinds at none (inr h) = drop_all at argument_kinds h.0

-- past the last argument kind there is none
past_kinds : (argument_kinds : List ArgumentKind) (at : ℕ) → slice_get argument_kinds at ≡ None → drop at argument_kinds ≡ []
past_kinds argument_kinds at none = past argument_kinds at none (slice_get_cases argument_kinds at).1

-- an argument and the others
pub argument_next : (c : Contents) (locals : List (List ℕ)) (argument_kinds : List ArgumentKind) (at : ℕ) (p : ArgumentKind) (a : Argument) (rest arguments : List Argument) → Some p ≡ slice_get argument_kinds at → rest ≡ a ∷ arguments
    → (32 ∷ argument_text c locals p a) ++ arguments_text c locals (drop (at + 1) argument_kinds) arguments ≡ arguments_text c locals (drop at argument_kinds) rest
unfolding argument_texts
argument_next c locals argument_kinds at p a rest arguments here prefix =
    let next : at + 1 ≡ suc at = omega arith in
    ap (λ n. (32 ∷ argument_text c locals p a) ++ arguments_text c locals (drop n argument_kinds) arguments) next
    ∙ sym (flat_map-cons (λ (w : List ℕ). 32 ∷ w) (argument_text c locals p a) (argument_texts c locals (drop (suc at) argument_kinds) arguments))
    ∙ sym (ap (λ ps. arguments_text c locals ps (a ∷ arguments)) (argument_kind_first argument_kinds at p (sym here)))
    ∙ sym (ap (λ others. arguments_text c locals (drop at argument_kinds) others) prefix)

-- arguments past the last argument kind
pub no_more_kinds : (c : Contents) (locals : List (List ℕ)) (argument_kinds : List ArgumentKind) (at : ℕ) (rest : List Argument) → None ≡ slice_get argument_kinds at → [] ≡ arguments_text c locals (drop at argument_kinds) rest
unfolding argument_texts
no_more_kinds c locals argument_kinds at rest none = sym (ap (λ ps. arguments_text c locals ps rest) (past_kinds argument_kinds at (sym none)))

no_words : (c : Contents) (locals : List (List ℕ)) (argument_kinds : List ArgumentKind) → argument_texts c locals argument_kinds [] ≡ []
unfolding argument_texts
no_words c locals [] = refl
no_words c locals (p ∷ argument_kinds) = refl

-- no arguments
pub no_more_arguments : (c : Contents) (locals : List (List ℕ)) (argument_kinds : List ArgumentKind) (rest : List Argument) → length rest ≡ 0 → [] ≡ arguments_text c locals argument_kinds rest
no_more_arguments c locals argument_kinds [] none = sym (ap spaced (no_words c locals argument_kinds))
no_more_arguments c locals argument_kinds (a ∷ rest) none = absurd (omega arith)

-- a function is its `fn` line and its statements
pub function_is : (c : Contents) (f : Func) → text_of (function_lines c f) ≡ line_text (declaration_line kind.Function (f.name ∷ f.locals)) ++ body_text c f.locals f.body
unfolding function_lines
function_is c f =
    let header = declaration_line kind.Function (f.name ∷ f.locals) in
    flat_map-cons line_text header (map (statement_words c f.locals) f.body) ∙ ap (λ rest. line_text header ++ rest) (flat_map-map line_text (statement_words c f.locals) f.body)

onto : (lines more : List (List (List ℕ))) (a b : List ℕ) → text_of lines ≡ a → text_of more ≡ b → text_of (lines ++ more) ≡ a ++ b
onto lines more a b e f = flat_map-append line_text lines more ∙ ap (λ text. text ++ text_of more) e ∙ ap (λ text. a ++ text) f

functions_are : (c : Contents) (funcs : List Func) → text_of (flat_map (function_lines c) funcs) ≡ functions_text c funcs
functions_are c [] = refl
functions_are c (f ∷ funcs) =
    ap text_of (flat_map-cons (function_lines c) f funcs) ∙ flat_map-append line_text (function_lines c f) (flat_map (function_lines c) funcs)
    ∙ ap (λ rest. text_of (function_lines c f) ++ rest) (functions_are c funcs) ∙ sym (flat_map-cons (λ (g : Func). text_of (function_lines c g)) f funcs)

-- a script is the declarations of each kind, one kind after the other
pub script_is : (c : Contents) → text_of (script_lines c) ≡ declarations_text c ++ functions_text c c.funcs
unfolding script_lines
script_is c =
    let names : SymbolKind → List (List ℕ) → List (List (List ℕ)) = λ k declared. map (λ (name : List ℕ). declaration_line k (name ∷ [])) declared in
    let globals = names kind.Global c.globals in
    let mutexes = names kind.Mutex c.mutexes in
    let conds = names kind.Cond c.conds in
    let sems = map (λ (s : SemDecl). declaration_line kind.Sem (s.name ∷ decimal s.count ∷ [])) c.sems in
    let onces = names kind.Once c.onces in
    let are : (k : SymbolKind) (declared : List (List ℕ)) → text_of (names k declared) ≡ names_text k declared =
    λ k declared. flat_map-map line_text (λ (name : List ℕ). declaration_line k (name ∷ [])) declared in
    onto ((((globals ++ mutexes) ++ conds) ++ sems) ++ onces) (flat_map (function_lines c) c.funcs) _ _
    (onto (((globals ++ mutexes) ++ conds) ++ sems) onces _ _
    (onto ((globals ++ mutexes) ++ conds) sems _ _
    (onto (globals ++ mutexes) conds _ _ (onto globals mutexes _ _ (are kind.Global c.globals) (are kind.Mutex c.mutexes)) (are kind.Cond c.conds))
    (flat_map-map line_text (λ (s : SemDecl). declaration_line kind.Sem (s.name ∷ decimal s.count ∷ [])) c.sems))
    (are kind.Once c.onces))
    (functions_are c c.funcs)
