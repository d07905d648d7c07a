-- The scripts of the two worked examples, and the reports of their runs.
use Rattle.pct_names.proofs.Names.{◌++◌, [], alt_words, Bool, codes, default_config, digits, end_line, entry_line, event_line, event_words}
use Rattle.pct_names.proofs.Names.{Func, header_line, is_static, IsTrue, List, name_at, Phase, refl, replicate, report, report_lines}
use Rattle.pct_names.proofs.Names.{schedule_lines, Script, Some, Status, Stmt, stop_words, thread_text, title_line, verdict_line}
use Rattle.pct_names.proofs.Names.{verdict_words, ℕ, ◌∷◌, ◌≡◌}
use Rattle.pct_model.specs.declared.state.Status.TheVariants as status
use Rattle.pct_model.specs.declared.statement.Operand.TheVariants as operand
use Rattle.pct_model.specs.declared.statement.Stmt.TheVariants as statement
use Rattle.pct_rows.specs.Examples.{smallest_report, cleanup_report, first_goes}
use Rattle.pct_rows.proofs.OnLiterals.{checks_on_literals, runs_on_literals}

-- ---- abbreviations

-- a script of these functions is well-formed
abbrev pub are_static : List Func → Bool
are_static funcs = is_static (record { globals = []; mutexes = []; conds = []; sems = []; onces = []; funcs = funcs })

-- a function with the parameter `x`, these statements and its closing `end`
abbrev pub function : List ℕ → List Stmt → Func
function name body = record { name = name; locals = codes "x" ∷ []; body = body ++ statement.End ∷ [] }

-- the status of a thread in a phase of a fork, with a next registration, their number, and an answer
abbrev pub forking : Phase → (next length answer : ℕ) → Status
forking phase next length answer = status.Forking (record { phase = phase; next = next; length = length; answer = answer })

abbrev returns_0 : Stmt
returns_0 = statement.Return (operand.Num 0)

-- ---- a script that returns at once

abbrev smallest_funcs : List Func
smallest_funcs = function (codes "main") (returns_0 ∷ []) ∷ []

pub smallest_passes : IsTrue (are_static smallest_funcs)
unfolding checks_on_literals
smallest_passes = refl

abbrev pub smallest : Script
smallest = record { globals = []; mutexes = []; conds = []; sems = []; onces = []; funcs = smallest_funcs; passes_checks = smallest_passes }

-- the report of its run
pub smallest_reported : report smallest default_config (replicate 2 first_goes) ≡ Some smallest_report
unfolding runs_on_literals digits name_at stop_words event_words thread_text event_line alt_words entry_line header_line end_line schedule_lines verdict_words verdict_line title_line report_lines report
smallest_reported = refl

-- ---- a cleanup handler that a pop calls

-- the handler emits its argument
abbrev cleanup_funcs : List Func
cleanup_funcs =
    function (codes "h") (statement.Emit (operand.Local 0) ∷ [])
    ∷ function (codes "main") (statement.Push 0 (operand.Num 1) ∷ statement.Emit (operand.Num 5) ∷ statement.Pop (operand.Num 1) ∷ returns_0 ∷ [])
    ∷ []

pub cleanup_passes : IsTrue (are_static cleanup_funcs)
unfolding checks_on_literals
cleanup_passes = refl

abbrev pub cleanup : Script
cleanup = record { globals = []; mutexes = []; conds = []; sems = []; onces = []; funcs = cleanup_funcs; passes_checks = cleanup_passes }

-- the report of its run
pub cleanup_reported : report cleanup default_config (replicate 7 first_goes) ≡ Some cleanup_report
unfolding runs_on_literals digits name_at stop_words event_words thread_text event_line alt_words entry_line header_line end_line schedule_lines verdict_words verdict_line title_line report_lines report
cleanup_reported = refl
