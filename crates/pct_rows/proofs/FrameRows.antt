-- The law of frames: made steps that keep it, and made steps that do not. Each step that does not differs from one that does in one thing, and
-- has the name of the sentence that it breaks.
use Rattle.pct_names.proofs.Names.{[], ap, arith, Bool, codes, false, false≢true, first_process, Frame, FrameKind, Func, has_no_frame}
use Rattle.pct_names.proofs.Names.{is_static, IsTrue, length, List, map, new_frame, new_thread, None, none-some, Option, refl, Script}
use Rattle.pct_names.proofs.Names.{slice_index, Some, Status, Stmt, sym, Thread, true, What, ℕ, ◌∷◌, ◌≡◌}
use Rattle.pct_model.specs.declared.event.What.TheVariants as what
use Rattle.pct_model.specs.declared.state.FrameKind.TheVariants as kind
use Rattle.pct_model.specs.declared.state.Phase.TheVariants as phase
use Rattle.pct_model.specs.declared.state.Status.TheVariants as status
use Rattle.pct_model.specs.declared.statement.Dest.TheVariants as destination
use Rattle.pct_model.specs.declared.statement.Operand.TheVariants as operand
use Rattle.pct_model.specs.declared.statement.Stmt.TheVariants as statement
use Rattle.pct_model.specs.declared.stop.Why.TheVariants as why
use Rattle.pct_laws.specs.FrameLaw.{MovesFrames, Place, StaysInHandler}
use Rattle.pct_laws.specs.Kept.{control_of}
use Rattle.pct_laws.specs.ThreadSteps.{ThreadStep}
use Rattle.pct_rows.proofs.ExampleScripts.{forking}
use Rattle.pct_rows.proofs.OnLiterals.{checks_on_literals, runs_on_literals}

-- ---- a script in which `main` calls `work`, also as an init routine

abbrev statements : List Stmt
statements =
    statement.Set (destination.Local 0) (operand.Num 3)
    ∷ statement.If (operand.Num 0)
    ∷ statement.Nop
    ∷ statement.Else
    ∷ statement.Nop
    ∷ statement.End
    ∷ statement.Do 1 (operand.Num 7)
    ∷ statement.While (operand.Num 0)
    ∷ statement.Nop
    ∷ statement.End
    ∷ statement.Join (operand.Num 2) destination.Drop
    ∷ statement.Fork destination.Drop destination.Drop
    ∷ statement.Push 1 (operand.Num 4)
    ∷ statement.Pop (operand.Num 1)
    ∷ statement.CallOnce 0 1
    ∷ statement.End ∷ []

abbrev functions : List Func
functions =
    record { name = codes "main"; locals = codes "x" ∷ []; body = statements }
    ∷ record { name = codes "work"; locals = codes "x" ∷ []; body = statement.Emit (operand.Local 0) ∷ statement.End ∷ [] } ∷ []

passes : IsTrue (is_static (record { globals = []; mutexes = []; conds = []; sems = []; onces = codes "o" ∷ []; funcs = functions }))
unfolding checks_on_literals
passes = refl

abbrev script : Script
script = record { globals = []; mutexes = []; conds = []; sems = []; onces = codes "o" ∷ []; funcs = functions; passes_checks = passes }

-- ---- steps

-- `main` at a statement, and `work` at one, with an argument, called by this
abbrev main : ℕ → Frame
main pc = record (new_frame 0 0 kind.Main) { pc = pc }

abbrev work : ℕ → ℕ → FrameKind → Frame
work pc a k = record (new_frame 1 a k) { pc = pc }

-- thread 1 with this status and these frames
abbrev thread : Status → List Frame → Thread
thread s frames = record (new_thread 1 false (main 0)) { status = s; frames = frames }

-- a step of thread 1 with these events, after which it runs
abbrev step : Status → List Frame → List What → List Frame → ThreadStep
step s before events after = record {
  pid = 1;
  tid = 1;
  earlier = [];
  process = first_process script;
  before = thread s before;
  process_after = first_process script;
  after = thread status.Running after;
  events = events;
}

abbrev Moves : Status → List Frame → List What → List Frame → Type 0
Moves s before events after = MovesFrames script (step s before events after)

-- the function on top, and the pc in it
abbrev top_function : List Place → ℕ
top_function [] = 0
top_function (place ∷ below) = place.0

abbrev top_pc : List Place → ℕ
top_pc [] = 0
top_pc (place ∷ below) = place.1

-- the pc in the function below
abbrev lower_pc : List Place → ℕ
lower_pc [] = 0
lower_pc (place ∷ below) = top_pc below

-- a local of the function on top
abbrev top_local : ℕ → List (List ℕ) → ℕ
top_local i [] = 0
top_local i (locals ∷ below) = slice_index locals i

abbrev depth : List Place → ℕ
depth places = length places

-- ---- the script language

a_statement_is_followed_by_the_next : Moves status.Running (main 0 ∷ []) [] (main 1 ∷ [])
unfolding runs_on_literals
a_statement_is_followed_by_the_next = record { places = refl; arguments = refl; runs = λ calls. refl }

no_statement_is_skipped : Moves status.Running (main 0 ∷ []) [] (main 2 ∷ []) → ⊥
unfolding runs_on_literals
no_statement_is_skipped law = let n : ◌≡◌ {A = ℕ} 2 1 = ap top_pc law.places in omega (arith, n)

none_is_executed_again : Moves status.Running (main 0 ∷ []) [] (main 0 ∷ []) → ⊥
unfolding runs_on_literals
none_is_executed_again law = let n : ◌≡◌ {A = ℕ} 0 1 = ap top_pc law.places in omega (arith, n)

if_0_goes_past_the_else : Moves status.Running (main 1 ∷ []) [] (main 4 ∷ [])
unfolding runs_on_literals
if_0_goes_past_the_else = record { places = refl; arguments = refl; runs = λ calls. refl }

and_not_into_its_block : Moves status.Running (main 1 ∷ []) [] (main 2 ∷ []) → ⊥
unfolding runs_on_literals
and_not_into_its_block law = let n : ◌≡◌ {A = ℕ} 2 4 = ap top_pc law.places in omega (arith, n)

else_goes_past_the_end : Moves status.Running (main 3 ∷ []) [] (main 6 ∷ [])
unfolding runs_on_literals
else_goes_past_the_end = record { places = refl; arguments = refl; runs = λ calls. refl }

while_0_goes_past_the_end : Moves status.Running (main 7 ∷ []) [] (main 10 ∷ [])
unfolding runs_on_literals
while_0_goes_past_the_end = record { places = refl; arguments = refl; runs = λ calls. refl }

the_end_of_a_while_goes_to_it : Moves status.Running (main 9 ∷ []) [] (main 7 ∷ [])
unfolding runs_on_literals
the_end_of_a_while_goes_to_it = record { places = refl; arguments = refl; runs = λ calls. refl }

and_not_on : Moves status.Running (main 9 ∷ []) [] (main 10 ∷ []) → ⊥
unfolding runs_on_literals
and_not_on law = let n : ◌≡◌ {A = ℕ} 10 7 = ap top_pc law.places in omega (arith, n)

-- ---- do, and returns

do_calls_the_function : Moves status.Running (main 6 ∷ []) [] (work 0 7 kind.Call ∷ main 7 ∷ [])
unfolding runs_on_literals
do_calls_the_function = record { places = refl; arguments = refl; runs = λ calls. refl }

and_no_other_function : Moves status.Running (main 6 ∷ []) [] (new_frame 0 7 kind.Call ∷ main 7 ∷ []) → ⊥
unfolding runs_on_literals
and_no_other_function law = let n : ◌≡◌ {A = ℕ} 0 1 = ap top_function law.places in omega (arith, n)

with_no_other_argument : Moves status.Running (main 6 ∷ []) [] (work 0 8 kind.Call ∷ main 7 ∷ []) → ⊥
unfolding runs_on_literals
with_no_other_argument law = let n : ◌≡◌ {A = ℕ} 8 7 = ap (top_local 0) law.arguments in omega (arith, n)

and_0_in_its_other_locals : Moves status.Running (main 6 ∷ []) [] (record (work 0 7 kind.Call) { locals = 7 ∷ 7 ∷ 0 ∷ 0 ∷ 0 ∷ 0 ∷ 0 ∷ 0 ∷ [] } ∷ main 7 ∷ []) → ⊥
unfolding runs_on_literals
and_0_in_its_other_locals law = let n : ◌≡◌ {A = ℕ} 7 0 = ap (top_local 1) law.arguments in omega (arith, n)

in_the_last_too : Moves status.Running (main 6 ∷ []) [] (record (work 0 7 kind.Call) { locals = 7 ∷ 0 ∷ 0 ∷ 0 ∷ 0 ∷ 0 ∷ 0 ∷ 5 ∷ [] } ∷ main 7 ∷ []) → ⊥
unfolding runs_on_literals
in_the_last_too law = let n : ◌≡◌ {A = ℕ} 5 0 = ap (top_local 7) law.arguments in omega (arith, n)

at_no_other_statement : Moves status.Running (main 6 ∷ []) [] (work 1 7 kind.Call ∷ main 7 ∷ []) → ⊥
unfolding runs_on_literals
at_no_other_statement law = let n : ◌≡◌ {A = ℕ} 1 0 = ap top_pc law.places in omega (arith, n)

a_call_keeps_its_caller : Moves status.Running (main 6 ∷ []) [] (work 0 7 kind.Call ∷ []) → ⊥
unfolding runs_on_literals
a_call_keeps_its_caller law = let n : ◌≡◌ {A = ℕ} 1 2 = ap depth law.places in omega (arith, n)

which_does_not_call_again : Moves status.Running (main 6 ∷ []) [] (work 0 7 kind.Call ∷ main 6 ∷ []) → ⊥
unfolding runs_on_literals
which_does_not_call_again law = let n : ◌≡◌ {A = ℕ} 6 7 = ap lower_pc law.places in omega (arith, n)

do_calls_a_function : Moves status.Running (main 6 ∷ []) [] (main 7 ∷ []) → ⊥
unfolding runs_on_literals
do_calls_a_function law = let n : ◌≡◌ {A = ℕ} 1 2 = ap depth law.places in omega (arith, n)

a_return_goes_to_the_caller : Moves status.Running (work 1 7 kind.Call ∷ main 7 ∷ []) [] (main 7 ∷ [])
unfolding runs_on_literals
a_return_goes_to_the_caller = record { places = refl; arguments = refl; runs = λ calls. refl }

and_no_further : Moves status.Running (work 1 7 kind.Call ∷ main 7 ∷ []) [] (main 8 ∷ []) → ⊥
unfolding runs_on_literals
and_no_further law = let n : ◌≡◌ {A = ℕ} 8 7 = ap top_pc law.places in omega (arith, n)

no_caller_is_lost : Moves status.Running (work 1 7 kind.Call ∷ work 1 7 kind.Call ∷ main 7 ∷ []) [] (main 7 ∷ []) → ⊥
unfolding runs_on_literals
no_caller_is_lost law = let n : ◌≡◌ {A = ℕ} 1 2 = ap depth law.places in omega (arith, n)

none_is_lost_by_another_statement : Moves status.Running (work 0 7 kind.Call ∷ main 7 ∷ []) (what.Emit 7 ∷ []) (work 1 7 kind.Call ∷ []) → ⊥
unfolding runs_on_literals
none_is_lost_by_another_statement law = let n : ◌≡◌ {A = ℕ} 1 2 = ap depth law.places in omega (arith, n)

-- ---- handlers

a_handler_is_called : Moves status.Ending [] (what.HandlerRun 1 4 ∷ []) (work 0 4 kind.Handler ∷ [])
a_handler_is_called = record { places = refl; arguments = refl; runs = λ calls. refl }

with_its_argument : Moves status.Ending [] (what.HandlerRun 1 4 ∷ []) (work 0 0 kind.Handler ∷ []) → ⊥
with_its_argument law = let n : ◌≡◌ {A = ℕ} 0 4 = ap (top_local 0) law.arguments in omega (arith, n)

a_handler_has_0_in_its_other_locals : Moves status.Ending [] (what.HandlerRun 1 4 ∷ []) (record (work 0 4 kind.Handler) { locals = 4 ∷ 4 ∷ 0 ∷ 0 ∷ 0 ∷ 0 ∷ 0 ∷ 0 ∷ [] } ∷ []) → ⊥
a_handler_has_0_in_its_other_locals law = let n : ◌≡◌ {A = ℕ} 4 0 = ap (top_local 1) law.arguments in omega (arith, n)

its_thread_runs : MovesFrames script (record (step status.Ending [] (what.HandlerRun 1 4 ∷ []) (work 0 4 kind.Handler ∷ [])) { after = thread status.Ending (work 0 4 kind.Handler ∷ []) }) → ⊥
its_thread_runs law = absurd (false≢true (sym (ap has_no_frame (law.runs refl))))

its_statements_are_executed : Moves status.Running (work 0 4 kind.Handler ∷ []) (what.Emit 4 ∷ []) (work 1 4 kind.Handler ∷ [])
unfolding runs_on_literals
its_statements_are_executed = record { places = refl; arguments = refl; runs = λ calls. refl }

no_handler_returns_at_once : Moves status.Running (work 0 4 kind.Handler ∷ []) [] [] → ⊥
unfolding runs_on_literals
no_handler_returns_at_once law = let n : ◌≡◌ {A = ℕ} 0 1 = ap depth law.places in omega (arith, n)

nor_after_its_first_statement : Moves status.Running (work 0 4 kind.Handler ∷ []) (what.Emit 4 ∷ []) [] → ⊥
unfolding runs_on_literals
nor_after_its_first_statement law = let n : ◌≡◌ {A = ℕ} 0 1 = ap depth law.places in omega (arith, n)

it_returns_at_its_end : Moves status.Running (work 1 4 kind.Handler ∷ []) [] []
unfolding runs_on_literals
it_returns_at_its_end = record { places = refl; arguments = refl; runs = λ calls. refl }

a_pop_calls_a_handler : Moves status.Running (main 13 ∷ []) (what.Popped 1 4 true ∷ []) (work 0 4 kind.PopHandler ∷ main 14 ∷ [])
unfolding runs_on_literals
a_pop_calls_a_handler = record { places = refl; arguments = refl; runs = λ calls. refl }

or_only_removes_it : Moves status.Running (main 13 ∷ []) (what.Popped 1 4 false ∷ []) (main 14 ∷ [])
unfolding runs_on_literals
or_only_removes_it = record { places = refl; arguments = refl; runs = λ calls. refl }

no_pop_is_executed_again : Moves status.Running (main 13 ∷ []) (what.Popped 1 4 true ∷ []) (work 0 4 kind.PopHandler ∷ main 13 ∷ []) → ⊥
unfolding runs_on_literals
no_pop_is_executed_again law = let n : ◌≡◌ {A = ℕ} 13 14 = ap lower_pc law.places in omega (arith, n)

-- ---- init routines

-- the control of the init routine on top
abbrev top_control : List Place → Option ℕ
top_control [] = None
top_control (place ∷ below) = control_of place.2

pthread_once_calls_the_routine : Moves status.Running (main 14 ∷ []) (what.OnceCalled 0 ∷ []) (work 0 0 (kind.OnceFn 0) ∷ main 15 ∷ [])
unfolding runs_on_literals
pthread_once_calls_the_routine = record { places = refl; arguments = refl; runs = λ calls. refl }

with_the_argument_0 : Moves status.Running (main 14 ∷ []) (what.OnceCalled 0 ∷ []) (work 0 7 (kind.OnceFn 0) ∷ main 15 ∷ []) → ⊥
unfolding runs_on_literals
with_the_argument_0 law = let n : ◌≡◌ {A = ℕ} 7 0 = ap (top_local 0) law.arguments in omega (arith, n)

as_that_of_its_control : Moves status.Running (main 14 ∷ []) (what.OnceCalled 0 ∷ []) (work 0 0 kind.Call ∷ main 15 ∷ []) → ⊥
unfolding runs_on_literals
as_that_of_its_control law = none-some 0 (ap top_control law.places)

it_calls_it_if_it_says_so : Moves status.Running (main 14 ∷ []) (what.OnceCalled 0 ∷ []) (main 15 ∷ []) → ⊥
unfolding runs_on_literals
it_calls_it_if_it_says_so law = let n : ◌≡◌ {A = ℕ} 1 2 = ap depth law.places in omega (arith, n)

or_else_it_goes_on : Moves status.Running (main 14 ∷ []) [] (main 15 ∷ [])
unfolding runs_on_literals
or_else_it_goes_on = record { places = refl; arguments = refl; runs = λ calls. refl }

a_routine_returns_past_its_call : Moves status.Running (work 1 0 (kind.OnceFn 0) ∷ main 15 ∷ []) (what.OnceDone 0 ∷ []) (main 15 ∷ [])
unfolding runs_on_literals
a_routine_returns_past_its_call = record { places = refl; arguments = refl; runs = λ calls. refl }

-- ---- the end of a thread, and the exit of its process

an_end_leaves_all_functions : Moves status.Running (work 0 7 kind.Call ∷ main 7 ∷ []) (what.EndingCanceled ∷ []) []
an_end_leaves_all_functions = record { places = refl; arguments = refl; runs = λ calls. refl }

and_not_the_top_one_alone : Moves status.Running (work 0 7 kind.Call ∷ main 7 ∷ []) (what.EndingCanceled ∷ []) (main 7 ∷ []) → ⊥
and_not_the_top_one_alone law = let n : ◌≡◌ {A = ℕ} 1 0 = ap depth law.places in omega (arith, n)

so_does_an_exit : Moves status.Running (work 0 7 kind.Call ∷ main 7 ∷ []) (what.ExitBegun 0 ∷ []) (work 0 7 kind.Call ∷ main 7 ∷ []) → ⊥
so_does_an_exit law = let n : ◌≡◌ {A = ℕ} 2 0 = ap depth law.places in omega (arith, n)

a_stop_leaves_none : Moves status.Running (main 6 ∷ []) (what.Stopped why.StackFull ∷ []) (main 6 ∷ [])
unfolding runs_on_literals
a_stop_leaves_none = record { places = refl; arguments = refl; runs = λ calls. refl }

-- ---- calls that suspend the thread

a_call_that_waits_stays : Moves status.Running (main 10 ∷ []) (what.Called 62 ∷ []) (main 10 ∷ [])
unfolding runs_on_literals
a_call_that_waits_stays = record { places = refl; arguments = refl; runs = λ calls. refl }

and_does_not_go_on : Moves status.Running (main 10 ∷ []) (what.Called 62 ∷ []) (main 11 ∷ []) → ⊥
unfolding runs_on_literals
and_does_not_go_on law = let n : ◌≡◌ {A = ℕ} 11 10 = ap top_pc law.places in omega (arith, n)

until_it_returns : Moves (status.Joining 2) (main 10 ∷ []) (what.Joined 2 5 ∷ []) (main 11 ∷ [])
unfolding runs_on_literals
until_it_returns = record { places = refl; arguments = refl; runs = λ calls. refl }

it_is_not_called_again : Moves (status.Joining 2) (main 10 ∷ []) (what.Joined 2 5 ∷ []) (main 10 ∷ []) → ⊥
unfolding runs_on_literals
it_is_not_called_again law = let n : ◌≡◌ {A = ℕ} 10 11 = ap top_pc law.places in omega (arith, n)

a_call_of_fork_stays : Moves status.Running (main 11 ∷ []) [] (main 11 ∷ [])
unfolding runs_on_literals
a_call_of_fork_stays = record { places = refl; arguments = refl; runs = λ calls. refl }

while_its_handlers_are_called : Moves (forking phase.Prepare 1 1 0) (main 11 ∷ []) (what.PrepareRun 1 ∷ []) (work 0 0 kind.ForkFn ∷ main 11 ∷ [])
unfolding runs_on_literals
while_its_handlers_are_called = record { places = refl; arguments = refl; runs = λ calls. refl }

and_a_process_is_made : Moves (forking phase.Prepare 0 1 0) (main 11 ∷ []) (what.Forked 2 ∷ []) (main 11 ∷ [])
unfolding runs_on_literals
and_a_process_is_made = record { places = refl; arguments = refl; runs = λ calls. refl }

until_fork_returns : Moves (forking phase.Parent 1 1 2) (main 11 ∷ []) [] (main 12 ∷ [])
unfolding runs_on_literals
until_fork_returns = record { places = refl; arguments = refl; runs = λ calls. refl }

-- ---- handlers of an end

-- a step of a thread in these functions after these events, newest first
abbrev after : List What → List Frame → ThreadStep
after earlier before = record (step status.Running before [] []) { earlier = map (λ (w : What). record { pid = 1; tid = 1; what = w }) earlier }

-- what calls the function, and whether it is called as a handler
abbrev function_of : Option What → ℕ
function_of (Some (what.HandlerRun f a)) = f
function_of _ = 0

abbrev is_of_handler : Option What → Bool
is_of_handler (Some (what.HandlerRun f a)) = true
is_of_handler _ = false

abbrev is_handler : FrameKind → Bool
is_handler kind.Handler = true
is_handler _ = false

a_thread_stays_in_its_handler : StaysInHandler (after (what.Emit 4 ∷ what.HandlerRun 1 4 ∷ []) (work 1 4 kind.Handler ∷ []))
a_thread_stays_in_its_handler f a same = (ap function_of same, refl)

or_in_what_this_calls : StaysInHandler (after (what.HandlerRun 1 4 ∷ []) (work 0 7 kind.Call ∷ work 1 4 kind.Handler ∷ []))
or_in_what_this_calls f a same = (ap function_of same, refl)

it_is_in_no_other_function : StaysInHandler (after (what.HandlerRun 1 4 ∷ []) (record (main 1) { kind = kind.Handler } ∷ [])) → ⊥
it_is_in_no_other_function law = let n : ◌≡◌ {A = ℕ} 0 1 = (law 1 4 refl).0 in omega (arith, n)

and_is_there_as_in_a_handler : StaysInHandler (after (what.Emit 4 ∷ what.HandlerRun 1 4 ∷ []) (work 1 4 kind.Start ∷ [])) → ⊥
and_is_there_as_in_a_handler law = absurd (false≢true (ap is_handler (law 1 4 refl).1))

until_a_destructor_is_called : StaysInHandler (after (what.DtorRun 1 1 0 5 ∷ what.HandlerRun 1 4 ∷ []) (record (main 0) { kind = kind.Destructor } ∷ []))
until_a_destructor_is_called f a same = absurd (false≢true (ap is_of_handler same))
