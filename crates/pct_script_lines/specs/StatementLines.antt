-- The numbers of the lines of a script's statements, and the theorems on them.
use Rattle.std.specs.Prelude.{◌≡◌, ℕ, List, map, Option, Some, is_some, IsSomeAnd, Contains, slice_get, option_and_then}
use Rattle.std.specs.List.{concat}
use Rattle.std.specs.List.Sorted.{IsStrictlyIncreasing}
use Rattle.pct_model.specs.declared.frame.Frame.{Frame}
use Rattle.pct_model.specs.declared.script.Func.{Func}
use Rattle.pct_model.specs.declared.script.Script.{Script}
use Rattle.pct_model.specs.declared.statement.Stmt.{Stmt}
use Rattle.pct_model.specs.Sections.{Line, functions_in, parsed_lines}
use Rattle.pct_model.specs.Spells.{Spells, contents_of, encoded}
use Rattle.pct_model.specs.Statements.{encode}
use Rattle.pct_model.specs.World.{statement_at}

-- the numbers of lines
abbrev pub numbers_in : List Line → List ℕ
numbers_in lines = map (λ l. l.0) lines

-- the numbers of the lines of each function among these lines: one number for each statement
abbrev pub function_lines : List Line → List (List ℕ)
function_lines lines = map (λ section. numbers_in section.body) (functions_in lines)

-- the numbers of the lines of a text's statements: one list for each function, one number for each statement
unfoldable pub statement_lines : List ℕ → List (List ℕ)
statement_lines text = function_lines (parsed_lines text)

-- the number of the line of the statement at a program counter of a function
abbrev pub line_at : List (List ℕ) → ℕ → ℕ → Option ℕ
line_at lines func pc = option_and_then (λ numbers. slice_get numbers pc) (slice_get lines func)

-- ---- the theorems

-- the line of the text with this number spells the statement, in a function with these locals
pub record SpellsStatement (text : List ℕ) (script : Script) (locals : List (List ℕ)) (statement : Stmt) (number : ℕ) : Type 0 where
  pub line : Line
  pub among : Contains (parsed_lines text) line
  pub numbered : line.0 ≡ number
  pub spelled : encoded (contents_of script) locals line.1 ≡ Some (encode statement)

-- each statement of the script that a text spells has a line, and this line of the text spells it
abbrev pub LinesSpellStatements : Type 0
LinesSpellStatements =
    (text : List ℕ) (script : Script) → Spells text script → (func pc : ℕ) (f : Func) (s : Stmt) → slice_get script.funcs func ≡ Some f → slice_get f.body pc ≡ Some s
    → IsSomeAnd (line_at (statement_lines text) func pc) (SpellsStatement text script f.locals s)

-- there is a line exactly where the script has a statement
abbrev pub LinesAreOfStatements : Type 0
LinesAreOfStatements =
    (text : List ℕ) (script : Script) → Spells text script → (frame : Frame) → is_some (line_at (statement_lines text) frame.func frame.pc) ≡ is_some (statement_at script frame)

-- the lines are in the order of the text: each number, of all functions in order, is below the next
abbrev pub LinesAscend : Type 0
LinesAscend = (text : List ℕ) → IsStrictlyIncreasing (concat (statement_lines text))
