-- The declarations of a generated script, by its numbers of threads and of rounds.
use Rattle.std.specs.Prelude.{ℕ, ◌+◌, ◌/◌, ◌%◌, false, if◌then◌else◌, List, [], ◌∷◌, ◌++◌, map, Some, codes, nat_lt}
use Rattle.std.specs.List.{range_with_len}
use Rattle.pct_model.specs.declared.script.Func.{Func}
use Rattle.pct_model.specs.declared.statement.Stmt.{Stmt}
use Rattle.pct_model.specs.declared.statement.Stmt.TheVariants as statement
use Rattle.pct_model.specs.declared.statement.Operand.TheVariants as operand
use Rattle.pct_model.specs.declared.statement.Dest.TheVariants as dest
use Rattle.pct_model.specs.Contents.{Contents}
use Rattle.pct_vectors.specs.declared.calls.Call.{Call}
use Rattle.pct_vectors.specs.declared.calls.Call.TheVariants as call

-- the name of the global for the id of a thread: `t` and its number, which has at most two digits
unfoldable pub thread_name : ℕ → List ℕ
thread_name i = if nat_lt i 10 then 116 ∷ (48 + i) ∷ [] else 116 ∷ (48 + i / 10) ∷ (48 + i % 10) ∷ []

-- the names of the globals
abbrev pub global_names : ℕ → List (List ℕ)
global_names threads = codes "key" ∷ codes "total" ∷ codes "work" ∷ map thread_name (range_with_len 1 threads)

-- the call that main makes for a thread
abbrev pub statement_of : Call → ℕ → Stmt
statement_of call.Create i = statement.Create dest.Drop (dest.Global (2 + i)) 2 (operand.Num i) false
statement_of call.Cancel i = statement.CancelThread (operand.Global (2 + i))
statement_of call.Join i = statement.Join (operand.Global (2 + i)) dest.Drop

-- the calls that main makes for each thread
abbrev pub calls : Call → ℕ → List Stmt
calls c threads = map (statement_of c) (range_with_len 1 threads)

-- ---- functions

abbrev pub unlock_function : Func
unlock_function = record { name = codes "unlock"; locals = codes "x" ∷ []; body = statement.Unlock 0 ∷ statement.End ∷ [] }

abbrev pub bye_function : Func
bye_function = record {
  name = codes "bye";
  locals = codes "x" ∷ [];
  body = statement.Lock 0 ∷ statement.Add (dest.Global 1) (operand.Local 0) ∷ statement.Unlock 0 ∷ statement.End ∷ [];
}

abbrev pub worker_function : Func
worker_function = record {
  name = codes "worker";
  locals = codes "x" ∷ [];
  body =
      statement.SetSpecific (operand.Global 0) (operand.Local 0)
      ∷ statement.While (operand.Num 1)
      ∷ statement.Lock 0
      ∷ statement.Push 0 (operand.Num 0)
      ∷ statement.CondWait 0 0
      ∷ statement.Add (dest.Global 2) (operand.Num 1)
      ∷ statement.Pop (operand.Num 1)
      ∷ statement.End
      ∷ statement.End
      ∷ [];
}

-- main sets the number of rounds that are left
abbrev pub set_rounds : ℕ → Stmt
set_rounds rounds = statement.Set (dest.Local 1) (operand.Num rounds)

-- the rounds of main
abbrev pub rounds_body : List Stmt
rounds_body =
    statement.While (operand.Local 1)
    ∷ statement.Lock 0
    ∷ statement.Signal 0
    ∷ statement.Unlock 0
    ∷ statement.Add (dest.Local 1) (operand.Num 4294967295)
    ∷ statement.End
    ∷ []

-- the end of main
abbrev pub end_body : List Stmt
end_body = statement.Emit (operand.Global 1) ∷ statement.Return (operand.Num 0) ∷ statement.End ∷ []

-- the statements of main
abbrev pub main_body : ℕ → ℕ → List Stmt
main_body threads rounds =
    (statement.KeyCreate dest.Drop (dest.Global 0) (Some 1) ∷ [])
    ++ calls call.Create threads
    ++ (set_rounds rounds ∷ rounds_body)
    ++ calls call.Cancel threads
    ++ calls call.Join threads
    ++ end_body

abbrev pub main_function : ℕ → ℕ → Func
main_function threads rounds = record { name = codes "main"; locals = codes "x" ∷ codes "n" ∷ []; body = main_body threads rounds }

-- the functions
abbrev pub generated_functions : ℕ → ℕ → List Func
generated_functions threads rounds = unlock_function ∷ bye_function ∷ worker_function ∷ main_function threads rounds ∷ []

-- ---- the script

-- the declarations of the script
abbrev pub generated_contents : ℕ → ℕ → Contents
generated_contents threads rounds = record {
  globals = global_names threads;
  mutexes = codes "m" ∷ [];
  conds = codes "c" ∷ [];
  sems = [];
  onces = [];
  funcs = generated_functions threads rounds;
}
