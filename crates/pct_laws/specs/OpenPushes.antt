-- The pushes around a statement of a function: pthread_cleanup_push and pthread_cleanup_pop pair in the same lexical scope (XSH
-- pthread_cleanup_push), so the text of a function decides which of its handlers are open at a pc.
use Rattle.std.specs.Prelude.{ℕ, List, [], ◌∷◌, take}
use Rattle.pct_model.specs.declared.statement.Stmt.{Stmt}
use Rattle.pct_model.specs.declared.statement.Stmt.TheVariants as statement
use Rattle.pct_model.specs.Actions.{without_first}

-- the functions of the pushes that are open after some statements, if these were open before them, newest first
abbrev pub pushes_after : List Stmt → List ℕ → List ℕ
pushes_after [] opened = opened
pushes_after (statement.Push f v ∷ rest) opened = pushes_after rest (f ∷ opened)
pushes_after (statement.Pop v ∷ rest) opened = pushes_after rest (without_first opened)
pushes_after (s ∷ rest) opened = pushes_after rest opened

-- the functions of the pushes of a body that stand before a pc and whose pops do not, newest first
abbrev pub open_pushes : List Stmt → ℕ → List ℕ
open_pushes body pc = pushes_after (take pc body) []
