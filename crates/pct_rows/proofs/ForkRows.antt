-- Fork handlers: the order of their calls, and what a thread keeps in one. And the children of processes with several threads: which are
-- such, and what they may execute (XSH pthread_atfork, fork).
use Rattle.pct_names.proofs.Names.{[], acts, Alt, Asynchronous, Bool, child_of, codes, false, filter, ForkAt, ForkHandlers, FrameKind}
use Rattle.pct_names.proofs.Names.{goes_on, goes_on_forking, HandlerCall, is_safe_point, List, map, new_frame, new_shared, next_handler}
use Rattle.pct_names.proofs.Names.{no_change, None, NoStatement, Option, Parent, Phase, point_name, Prepare, range_with_len, refl}
use Rattle.pct_names.proofs.Names.{registers_fork, replicate, returns_by, running_choices, SharedState, Some, Stmt, stop_at, Thread}
use Rattle.pct_names.proofs.Names.{Transition, true, What, Why, ℕ, ◌∷◌, ◌≡◌}
use Rattle.pct_model.specs.declared.event.Caller.TheVariants as caller
use Rattle.pct_model.specs.declared.event.What.TheVariants as what
use Rattle.pct_model.specs.declared.schedule.Alt.TheVariants as alt
use Rattle.pct_model.specs.declared.state.FrameKind.TheVariants as kind
use Rattle.pct_model.specs.declared.state.Phase.TheVariants.{Child}
use Rattle.pct_model.specs.declared.state.Status.TheVariants as status
use Rattle.pct_model.specs.declared.statement.Dest.TheVariants as destination
use Rattle.pct_model.specs.declared.statement.Operand.TheVariants as operand
use Rattle.pct_model.specs.declared.statement.Stmt.TheVariants as statement
use Rattle.pct_model.specs.declared.stop.Why.TheVariants as why
use Rattle.pct_model.specs.declared.transition.OwnAction.TheVariants as own_action
use Rattle.pct_model.specs.declared.transition.ProcessAction.TheVariants as process_action
use Rattle.pct_model.specs.declared.transition.SharedAction.TheVariants as shared_action
use Rattle.pct_rows.proofs.OnLiterals.{runs_on_literals}
use Rattle.pct_rows.proofs.ExampleScripts.{smallest}
use Rattle.pct_rows.proofs.ChoiceRows.{ready, in_status, process, nobody}

-- ---- the order of fork handlers

abbrev handlers : Option ℕ → Option ℕ → Option ℕ → ForkHandlers
handlers prepare parent child = record { prepare = prepare; parent = parent; child = child }

-- three registrations: the first has no parent handler, the second has a parent handler alone
abbrev registered : List ForkHandlers
registered = handlers (Some 10) None (Some 30) ∷ handlers None (Some 21) None ∷ handlers (Some 12) (Some 22) (Some 32) ∷ []

-- in a phase of a fork that uses this many registrations; its child is process 7
abbrev in_phase : Phase → ℕ → ℕ → ForkAt
in_phase phase length next = record { phase = phase; next = next; length = length; answer = 7 }

-- the handlers that are next, for each value of `next`
abbrev calls : Phase → ℕ → List ℕ → List (Option HandlerCall)
calls phase length nexts = map (λ next. next_handler registered (in_phase phase length next)) nexts

abbrev call : ℕ → ℕ → Option HandlerCall
call index func = Some (record { index = index; func = func })

-- before the fork the last one registered comes first; absent handlers are passed over
prepare_order : calls Prepare 3 (3 ∷ 2 ∷ 1 ∷ 0 ∷ []) ≡ call 2 12 ∷ call 0 10 ∷ call 0 10 ∷ None ∷ []
unfolding runs_on_literals
prepare_order = refl

-- after it the first one registered comes first
parent_order : calls Parent 3 (0 ∷ 1 ∷ 2 ∷ 3 ∷ []) ≡ call 1 21 ∷ call 1 21 ∷ call 2 22 ∷ None ∷ []
unfolding runs_on_literals
parent_order = refl

child_order : calls Child 3 (0 ∷ 1 ∷ 2 ∷ 3 ∷ []) ≡ call 0 30 ∷ call 2 32 ∷ call 2 32 ∷ None ∷ []
unfolding runs_on_literals
child_order = refl

-- a registration after the call of fork is not used by it: a fork that uses two of the three, and one that uses none
fixed_length : (calls Prepare 2 (2 ∷ 0 ∷ []) ≡ call 0 10 ∷ None ∷ []) × (calls Parent 2 (0 ∷ 2 ∷ []) ≡ call 1 21 ∷ None ∷ []) × (calls Child 2 (0 ∷ 1 ∷ []) ≡ call 0 30 ∷ None ∷ []) × (map (λ phase. next_handler registered (in_phase phase 0 0)) (Prepare ∷ Parent ∷ Child ∷ []) ≡ None ∷ None ∷ None ∷ [])
unfolding runs_on_literals
fixed_length = (refl, refl, refl, refl)

-- ---- their calls

-- a thread in a phase of a fork goes on
abbrev goes_on_in : Phase → ℕ → Transition
goes_on_in phase next = goes_on_forking (next_handler registered (in_phase phase 3 next)) (in_phase phase 3 next) (Some 9) NoStatement

-- a thread calls a fork handler with 0, and keeps how far its fork has come
abbrev calling : ForkAt → ℕ → What → Transition
calling at f event = record (acts (event ∷ [])) { own = Some (own_action.CallForkHandler at f) }

handler_calls : map (λ phase. goes_on_in phase 1) (Prepare ∷ Parent ∷ Child ∷ []) ≡ calling (in_phase Prepare 3 0) 10 (what.PrepareRun 10) ∷ calling (in_phase Parent 3 2) 21 (what.ParentRun 21) ∷ calling (in_phase Child 3 3) 32 (what.ChildRun 32) ∷ []
unfolding runs_on_literals
handler_calls = refl

-- a return from a handler goes on with it, whatever its value
handler_returns : map (λ kept. returns_by kept kind.ForkFn 5) (Some (in_phase Parent 3 2) ∷ None ∷ []) ≡ record (acts []) { own = Some (own_action.Leave (status.Forking (in_phase Parent 3 2))) } ∷ no_change ∷ []
unfolding runs_on_literals
handler_returns = refl

-- after the prepare handlers a child is made, or fork fails: both begin with the parent handlers, and with the same registrations
after_the_prepare_handlers : map (λ pid. goes_on_forking None (in_phase Prepare 3 0) pid NoStatement) (Some 9 ∷ None ∷ []) ≡ record (acts (what.Forked 9 ∷ [])) { own = Some (own_action.SetStatus (status.Forking (record { phase = Parent; next = 0; length = 3; answer = 9 }))); process = Some (process_action.Make 9) } ∷ record (acts (what.Answer caller.Fork 1 ∷ [])) { own = Some (own_action.SetStatus (status.Forking (record { phase = Parent; next = 0; length = 3; answer = 0 }))) } ∷ []
unfolding runs_on_literals
after_the_prepare_handlers = refl

abbrev is_registered : Transition
is_registered = record (goes_on 7 []) { writes = (destination.Local 1, 0) ∷ []; shared = Some (shared_action.AddForkHandlers (handlers None None (Some 3))) }

abbrev is_refused : Transition
is_refused = record (goes_on 7 (what.Answer caller.AtFork 2 ∷ [])) { writes = (destination.Local 1, 2) ∷ [] }

-- handlers can be registered after 15 registrations, not after 16 or more
registrations : map (λ n. registers_fork n 7 (destination.Local 1) (handlers None None (Some 3))) (0 ∷ 15 ∷ 16 ∷ 17 ∷ []) ≡ is_registered ∷ is_registered ∷ is_refused ∷ is_refused ∷ []
unfolding runs_on_literals
registrations = refl

-- ---- children of processes with several threads

-- the child of a process in which thread 1 forks beside another thread is restricted
abbrev is_restricted : Thread → Bool
is_restricted other = (child_of 1 6 (process 1 (in_status 1 (status.Forking (in_phase Prepare 0 0)) ∷ other ∷ []))).shared.restricted

-- the other thread has not ended: it is running, suspended, ending, or exiting; ended ones that were not joined do not count, nor those
-- that the process did not inherit
restricted_children : (map is_restricted (ready 2 ∷ in_status 2 (status.AtPoint 16) ∷ in_status 2 (status.Waiting 0 0) ∷ in_status 2 status.Ending ∷ in_status 2 status.Exiting ∷ []) ≡ replicate 5 true) × (map is_restricted (record (in_status 2 (status.Ended 5)) { ended = true } ∷ record (in_status 2 status.Exiting) { ended = true } ∷ record (ready 2) { gone = true } ∷ []) ≡ replicate 3 false)
unfolding runs_on_literals
restricted_children = (refl, refl)

-- ---- what they may execute

-- the state of a process that is restricted, or is not
abbrev shared : Bool → SharedState
shared restricted = record (new_shared smallest) { restricted = restricted }

-- the stop of a thread at a statement in a frame of this kind, in a restricted process
abbrev stop_in : FrameKind → Stmt → Option Why
stop_in k s = stop_at [] (shared true) (ready 1) nobody (new_frame 0 0 k) s

abbrev forbidden : Option Why
forbidden = Some why.ForkChildCall

-- what the script language has, but for the returns, and _exit
allowed_statements : map (stop_in kind.Main) (statement.Emit (operand.Num 1) ∷ statement.Set (destination.Local 0) (operand.Num 1) ∷ statement.Add (destination.Local 0) (operand.Num 1) ∷ statement.Nop ∷ statement.If (operand.Num 1) ∷ statement.Else ∷ statement.While (operand.Num 1) ∷ statement.Do 0 (operand.Num 1) ∷ statement.ProcExitNow (operand.Num 1) ∷ []) ≡ replicate 9 None
unfolding runs_on_literals
allowed_statements = refl

-- of the other calls each is forbidden, also where it would be another stop
forbidden_statements : map (stop_in kind.Main) (statement.ThreadExit (operand.Num 1) ∷ statement.TestCancel ∷ statement.SelfId destination.Drop ∷ statement.Lock 0 ∷ statement.Unlock 0 ∷ statement.SemPost 0 ∷ statement.Fork destination.Drop destination.Drop ∷ statement.AtFork destination.Drop None None None ∷ statement.ProcExit (operand.Num 1) ∷ statement.Detach (operand.Num 5) ∷ []) ≡ replicate 10 forbidden
unfolding runs_on_literals
forbidden_statements = refl

-- a return is forbidden where it would end the thread or the process, and so is an `end` that closes the function
returns : (map (λ k. stop_in k (statement.Return (operand.Num 1))) (kind.Main ∷ kind.Start ∷ kind.Call ∷ kind.PopHandler ∷ kind.Handler ∷ kind.Destructor ∷ kind.ForkFn ∷ kind.ExitFn ∷ []) ≡ forbidden ∷ forbidden ∷ replicate 6 None) × (map (λ k. stop_in k statement.End) (kind.Main ∷ kind.Start ∷ kind.Call ∷ kind.ForkFn ∷ []) ≡ forbidden ∷ forbidden ∷ None ∷ None ∷ [])
unfolding runs_on_literals
returns = (refl, refl)

-- but not one that closes a block of it
ends : map (λ pc. stop_at (statement.If (operand.Num 1) ∷ statement.End ∷ statement.End ∷ []) (shared true) (ready 1) nobody (record (new_frame 0 0 kind.Main) { pc = pc }) statement.End) (1 ∷ 2 ∷ []) ≡ None ∷ forbidden ∷ []
unfolding runs_on_literals
ends = refl

-- six of the points
safe_points : map point_name (filter is_safe_point (range_with_len 0 58)) ≡ map codes ("close" ∷ "open" ∷ "pause" ∷ "read" ∷ "sleep" ∷ "write" ∷ [])
unfolding runs_on_literals point_name
safe_points = refl

-- ---- the choices of their threads

abbrev create : Stmt
create = statement.Create destination.Drop destination.Drop 0 (operand.Num 0) false

abbrev write : Stmt
write = statement.PointCall 45

-- a request is pending for a thread with deferred cancelability, and for one with asynchronous cancelability
abbrev requested : Thread
requested = record (ready 1) { pending = true }

abbrev asynchronous : Thread
asynchronous = record requested { mode = Asynchronous }

-- the choices of a thread at a statement in a frame of this kind, where threads 5 and 2 can be created; and its stop
abbrev at_statement : Bool → FrameKind → Stmt → Thread → List Alt × Option Why
at_statement restricted k s t = (running_choices [] (shared restricted) t (record nobody { new_ids = 5 ∷ 2 ∷ [] }) (new_frame 0 0 k) s, stop_at [] (shared restricted) t nobody (new_frame 0 0 k) s)

-- at pthread_create `go` is the stop, whatever request is pending
at_a_create : map (at_statement true kind.Main create) (ready 1 ∷ requested ∷ asynchronous ∷ []) ≡ replicate 3 (alt.Go ∷ [], forbidden)
unfolding runs_on_literals
at_a_create = refl

-- in a fork handler it is what it is in a process that is not restricted
at_another_create : (map (at_statement true kind.ForkFn create) (ready 1 ∷ asynchronous ∷ []) ≡ (alt.New 5 ∷ alt.New 2 ∷ [], None) ∷ (alt.Go ∷ alt.Act 0 ∷ [], Some why.AsyncCall) ∷ []) × (map (at_statement false kind.Main create) (ready 1 ∷ asynchronous ∷ []) ≡ (alt.New 5 ∷ alt.New 2 ∷ [], None) ∷ (alt.Go ∷ alt.Act 0 ∷ [], Some why.AsyncCall) ∷ [])
unfolding runs_on_literals
at_another_create = (refl, refl)

-- at write a restricted process is as another one
at_a_write : map (at_statement true kind.Main write) (ready 1 ∷ requested ∷ asynchronous ∷ []) ≡ (alt.Go ∷ [], None) ∷ (alt.Act 0 ∷ [], None) ∷ (alt.Go ∷ alt.Act 0 ∷ [], Some why.AsyncCall) ∷ []
unfolding runs_on_literals
at_a_write = refl
