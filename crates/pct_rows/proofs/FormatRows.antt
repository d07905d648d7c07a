-- The formats of texts: of scripts, by their statements and declarations, and lines of schedules of each format.
use Rattle.pct_names.proofs.Names.{[], codes, Contents, digits, entry_in, entry_of, false, format_of, has_choice, header_of, is_none}
use Rattle.pct_names.proofs.Names.{is_static, IsTrue, keyword_text, List, map, None, number_of, refl, replicate, Script, SemDecl, Some}
use Rattle.pct_names.proofs.Names.{Stmt, true, ◌++◌, ◌∷◌, ◌≡◌}
use Rattle.pct_model.specs.declared.schedule.Alt.TheVariants as alt
use Rattle.pct_model.specs.declared.schedule.Format.TheVariants as format
use Rattle.pct_model.specs.declared.statement.Dest.TheVariants as destination
use Rattle.pct_model.specs.declared.statement.Operand.TheVariants as operand
use Rattle.pct_model.specs.declared.statement.Stmt.TheVariants as statement
use Rattle.pct_rows.proofs.ExampleScripts.{function, smallest}
use Rattle.pct_rows.proofs.OnLiterals.{checks_on_literals}

-- ---- scripts

-- a script with a mutex, a condition variable and a semaphore, and with one statement in a function that `main` does not call
abbrev semaphores : List SemDecl
semaphores = record { name = codes "s"; count = 0 } ∷ []

abbrev with_statement : Stmt → Contents
with_statement s = record {
  globals = [];
  mutexes = codes "m" ∷ [];
  conds = codes "c" ∷ [];
  sems = semaphores;
  onces = [];
  funcs = function (codes "f") (s ∷ []) ∷ function (codes "main") (statement.Return (operand.Num 0) ∷ []) ∷ [];
}

abbrev script_of : (s : Stmt) → IsTrue (is_static (with_statement s)) → Script
script_of s passes = record {
  globals = [];
  mutexes = codes "m" ∷ [];
  conds = codes "c" ∷ [];
  sems = semaphores;
  onces = [];
  funcs = (with_statement s).funcs;
  passes_checks = passes;
}

timed_wait_passes : IsTrue (is_static (with_statement (statement.CondTimedWait destination.Drop 0 0)))
unfolding checks_on_literals
timed_wait_passes = refl

timed_sem_wait_passes : IsTrue (is_static (with_statement (statement.SemTimedWait destination.Drop 0)))
unfolding checks_on_literals
timed_sem_wait_passes = refl

wait_passes : IsTrue (is_static (with_statement (statement.CondWait 0 0)))
unfolding checks_on_literals
wait_passes = refl

-- a script with a once control, which no statement names
declares_once_passes : IsTrue (is_static (record { globals = []; mutexes = []; conds = []; sems = []; onces = codes "o" ∷ []; funcs = smallest.funcs }))
unfolding checks_on_literals
declares_once_passes = refl

abbrev declares_once : Script
declares_once = record { globals = []; mutexes = []; conds = []; sems = []; onces = codes "o" ∷ []; funcs = smallest.funcs; passes_checks = declares_once_passes }

-- a script with a wait with a time has texts of format 2, whatever calls it, and so has one with a once control; each other one has texts
-- of format 1
formats_of_scripts : map format_of (script_of (statement.CondTimedWait destination.Drop 0 0) timed_wait_passes ∷ script_of (statement.SemTimedWait destination.Drop 0) timed_sem_wait_passes ∷ script_of (statement.CondWait 0 0) wait_passes ∷ smallest ∷ declares_once ∷ []) ≡ format.Two ∷ format.Two ∷ format.One ∷ format.One ∷ format.Two ∷ []
unfolding format_of
formats_of_scripts = refl

-- ---- schedules

-- headers of both formats, and of none
headers : map header_of (codes "schedule 1 100 4 64" ∷ codes "schedule 2 100 4 64" ∷ []) ≡ Some (record { budget = 100; passes = 4; slots = 64; format = format.One }) ∷ Some (record { budget = 100; passes = 4; slots = 64; format = format.Two }) ∷ []
unfolding keyword_text digits number_of header_of
headers = refl

no_headers : map (λ line. is_none (header_of line)) (codes "schedule 0 100 4 64" ∷ codes "schedule 3 100 4 64" ∷ codes "schedule 02 100 4 64" ∷ codes "schedule 100 4 64" ∷ codes "schedule 2 100 4" ∷ codes "schedule 2 0 4 64" ∷ []) ≡ replicate 6 true
unfolding keyword_text digits number_of header_of
no_headers = refl

-- `expire` is an entry in format 2 alone, and has no number
expiries : map (λ line. entry_in format.Two line) (codes "1 1 2 expire" ∷ codes "1 1 2 expire 0" ∷ []) ≡ Some (record { worker = 1; pid = 1; tid = 2; alt = alt.Expire }) ∷ None ∷ []
unfolding keyword_text digits number_of entry_of
expiries = refl

none_in_format_1 : entry_in format.One (codes "1 1 2 expire") ≡ None
unfolding keyword_text digits number_of entry_of
none_in_format_1 = refl

-- each other choice is one in both
both_formats : map (has_choice format.One) (alt.Go ∷ alt.Act 0 ∷ alt.New 2 ∷ alt.Pick 2 ∷ alt.Dtor 2 ∷ alt.Expire ∷ []) ++ map (has_choice format.Two) (alt.Go ∷ alt.Expire ∷ []) ≡ replicate 5 true ++ false ∷ replicate 2 true
both_formats = refl
