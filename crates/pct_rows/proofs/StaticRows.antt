-- Contents that no text spells, and tables of line kinds.
use Rattle.pct_names.proofs.Names.{◌++◌, [], Bool, bytes_eq, codes, Contents, declaration_syntax, false, filter, Func, is_plain, is_some}
use Rattle.pct_names.proofs.Names.{is_static, length, line_kinds, List, list_any, map, point_of, point_statement, points, position_or_len}
use Rattle.pct_names.proofs.Names.{range_with_len, refl, replicate, Stmt, syntax_of, true, ℕ, ◌∷◌, ◌≡◌}
use Rattle.pct_model.specs.declared.line_kind.LineKind.TheVariants as line_kind
use Rattle.pct_model.specs.declared.statement.Dest.TheVariants as destination
use Rattle.pct_model.specs.declared.statement.Operand.TheVariants as operand
use Rattle.pct_model.specs.declared.statement.Stmt.TheVariants as statement
use Rattle.pct_rows.proofs.OnLiterals.{checks_on_literals}

abbrev function : List ℕ → List (List ℕ) → List Stmt → Func
function name locals body = record { name = name; locals = locals; body = body }

-- a script with these globals, and `main` with these statements and its closing `end`
abbrev with_globals : List (List ℕ) → List Stmt → Contents
with_globals globals body = record { globals = globals; mutexes = []; conds = []; sems = []; onces = []; funcs = function (codes "main") (codes "x" ∷ []) (body ++ statement.End ∷ []) ∷ [] }

abbrev is_static_main : List Stmt → Bool
is_static_main body = is_static (with_globals (codes "g" ∷ []) body)

-- ---- contents that no text spells

-- indexes are within range, and numbers have 32 bits
positions : (map is_static_main ((statement.Emit (operand.Global 0) ∷ []) ∷ (statement.Emit (operand.Num 4294967295) ∷ []) ∷ []) ≡ true ∷ true ∷ []) × (map is_static_main ((statement.Emit (operand.Global 1) ∷ []) ∷ (statement.Emit (operand.Local 1) ∷ []) ∷ (statement.Emit (operand.Num 4294967296) ∷ []) ∷ (statement.Do 1 (operand.Num 0) ∷ []) ∷ (statement.Lock 0 ∷ []) ∷ (statement.CallOnce 0 0 ∷ []) ∷ []) ≡ replicate 6 false)
unfolding checks_on_literals
positions = (refl, refl)

-- an argument is one that a word of its kind can be, and a point has no statement of its own
argument_kinds : (map is_static_main ((statement.SelfId destination.Drop ∷ []) ∷ (statement.PointCall 0 ∷ []) ∷ (statement.PointCall 57 ∷ []) ∷ []) ≡ true ∷ true ∷ true ∷ []) × (map is_static_main ((statement.Set destination.Drop (operand.Num 0) ∷ []) ∷ (statement.PointCall 20 ∷ []) ∷ (statement.PointCall 23 ∷ []) ∷ (statement.PointCall 58 ∷ []) ∷ []) ≡ replicate 4 false)
unfolding checks_on_literals
argument_kinds = (refl, refl)

-- a local hides a global of the same name, so no word refers to the global
hidden : map (λ v. is_static (with_globals (codes "x" ∷ []) (statement.Emit v ∷ []))) (operand.Local 0 ∷ operand.Global 0 ∷ []) ≡ true ∷ false ∷ []
unfolding checks_on_literals
hidden = refl

-- a function has a parameter, and its last statement is its closing `end`
functions : map (λ f. is_static (record { globals = []; mutexes = []; conds = []; sems = []; onces = []; funcs = f ∷ [] })) (function (codes "main") (codes "x" ∷ []) (statement.End ∷ []) ∷ function (codes "main") [] (statement.End ∷ []) ∷ function (codes "main") (codes "x" ∷ []) [] ∷ function (codes "main") (codes "x" ∷ []) (statement.End ∷ statement.Nop ∷ []) ∷ []) ≡ true ∷ false ∷ false ∷ false ∷ []
unfolding checks_on_literals
functions = refl

-- ---- tables of line kinds

-- each line kind with a keyword of its own is the first with this keyword, so no two kinds have the same keyword
words_differ : map (λ f. position_or_len (λ g. bytes_eq (syntax_of g).keyword (syntax_of f).keyword) line_kinds) line_kinds ≡ range_with_len 0 (length line_kinds)
unfolding declaration_syntax syntax_of line_kinds
words_differ = refl

-- no generic point has such a keyword as its name
no_point_has_it : list_any (λ f. is_some (point_statement (syntax_of f).keyword)) line_kinds ≡ false
unfolding points point_of declaration_syntax syntax_of point_statement line_kinds
no_point_has_it = refl

-- the kinds of lines that are allowed in a plain function
plain_kinds : filter (λ f. is_plain (syntax_of f).role) line_kinds ≡ line_kind.Emit ∷ line_kind.Set ∷ line_kind.Add ∷ line_kind.If ∷ line_kind.Else ∷ line_kind.End ∷ line_kind.Return ∷ line_kind.Lock ∷ line_kind.Unlock ∷ []
unfolding declaration_syntax syntax_of line_kinds
plain_kinds = refl
