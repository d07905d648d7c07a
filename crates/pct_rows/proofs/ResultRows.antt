-- The law of results: made steps that keep it, and made steps that do not. Each step that does not differs from one that does in one thing, and
-- has the name of the sentence that it breaks.
use Rattle.pct_names.proofs.Names.{◌<◌, [], and_parts, ap, ap₂, arith, Bool, codes, cond, false, false≢true, first_process, Frame, is_empty}
use Rattle.pct_names.proofs.Names.{is_static, IsTrue, List, list_all, nat_eq, nat_lt, new_frame, new_shared, new_thread, None, none-some}
use Rattle.pct_names.proofs.Names.{Option, option_map, Process, refl, same_Some, Script, SemDecl, slice_index, Some, Status, Stmt, suc, sym}
use Rattle.pct_names.proofs.Names.{Thread, true, What, zero, ℕ, ◌∙◌, ◌∷◌, ◌≡◌}
use Rattle.pct_names.proofs.Names.{Asynchronous, Deferred, map}
use Rattle.std.proofs.Common.{ne_eqb}
use Rattle.std.proofs.lemmas.Bool.{ltb-true, true≢false}
use Rattle.pct_model.specs.declared.event.Caller.TheVariants as caller
use Rattle.pct_model.specs.declared.event.What.TheVariants as what
use Rattle.pct_model.specs.declared.state.Cause.TheVariants as cause
use Rattle.pct_model.specs.declared.state.FrameKind.TheVariants as kind
use Rattle.pct_model.specs.declared.state.Phase.TheVariants as phase
use Rattle.pct_model.specs.declared.state.State.TheVariants as state
use Rattle.pct_model.specs.declared.state.Status.TheVariants as status
use Rattle.pct_model.specs.declared.statement.Dest.TheVariants as destination
use Rattle.pct_model.specs.declared.statement.Operand.TheVariants as operand
use Rattle.pct_model.specs.declared.statement.Stmt.TheVariants as statement
use Rattle.pct_laws.specs.ResultLaw.{Store, after_stores, local_on_top, number_of_mode, number_of_state, stored, StoresResults}
use Rattle.pct_laws.specs.ThreadSteps.{ThreadStep}
use Rattle.pct_rows.proofs.ExampleScripts.{forking}
use Rattle.pct_rows.proofs.OnLiterals.{checks_on_literals, runs_on_literals}

-- ---- a script with the global g, a mutex, a condition variable and a semaphore, whose `main` has the locals x and y

abbrev statements : List Stmt
statements =
    statement.Join (operand.Num 3) (destination.Local 0)
    ∷ statement.Join (operand.Num 3) (destination.Global 0)
    ∷ statement.Create (destination.Local 0) (destination.Local 1) 0 (operand.Num 0) false
    ∷ statement.Create (destination.Global 0) (destination.Global 0) 0 (operand.Num 0) false
    ∷ statement.SetState true (destination.Local 0)
    ∷ statement.WaitPid (destination.Local 0) (operand.Num 2) (destination.Global 0)
    ∷ statement.KeyCreate destination.Drop (destination.Global 0) None
    ∷ statement.Fork (destination.Local 0) (destination.Global 0)
    ∷ statement.Add (destination.Global 0) (operand.Num 4294967295)
    ∷ statement.GetSpecific (destination.Global 0) (operand.Num 1)
    ∷ statement.Emit (operand.Num 5)
    ∷ statement.CondTimedWait (destination.Local 0) 0 0
    ∷ statement.SemTimedWait (destination.Global 0) 0
    ∷ statement.End ∷ []

abbrev semaphores : List SemDecl
semaphores = record { name = codes "s"; count = 0 } ∷ []

passes : IsTrue (is_static (record { globals = codes "g" ∷ []; mutexes = codes "m" ∷ []; conds = codes "c" ∷ []; sems = semaphores; onces = []; funcs = record { name = codes "main"; locals = codes "x" ∷ codes "y" ∷ []; body = statements } ∷ [] }))
unfolding checks_on_literals
passes = refl

abbrev script : Script
script = record { globals = codes "g" ∷ []; mutexes = codes "m" ∷ []; conds = codes "c" ∷ []; sems = semaphores; onces = []; funcs = record { name = codes "main"; locals = codes "x" ∷ codes "y" ∷ []; body = statements } ∷ []; passes_checks = passes }

-- ---- steps

-- `main` at a statement, with this status and these values of x and y; its value of key 1 is 6, and its cancelability is disabled
abbrev frame : ℕ → ℕ → ℕ → Frame
frame pc x y = record (new_frame 0 0 kind.Main) { pc = pc; locals = x ∷ y ∷ 0 ∷ 0 ∷ 0 ∷ 0 ∷ 0 ∷ 0 ∷ [] }

abbrev at : ℕ → Status → ℕ → ℕ → Thread
at pc s x y =
    record (new_thread 1 false (frame pc x y)) { status = s; state = state.Disable; specific = record { values = 6 ∷ []; in_pass = [] } }

-- a process in which g has this value
abbrev process : ℕ → Process
process g = record (first_process script) { shared = record (new_shared script) { globals = g ∷ [] } }

-- a step of a thread with these events; g, x and y are 7 before it. The thread is running in its `main` after it, at another statement, with
-- these values of g, x and y
abbrev step_to : Thread → Thread → List What → ℕ → ThreadStep
step_to before after events g =
    record { pid = 1; tid = 1; earlier = []; process = process 7; before = before; process_after = process g; after = after; events = events }

abbrev step : ℕ → Status → List What → ℕ → ℕ → ℕ → ThreadStep
step pc s events g x y = step_to (at pc s 7 7) (at (suc pc) status.Running x y) events g

-- the law of a global and of a local after a step
abbrev GlobalIs : ThreadStep → ℕ → Type 0
GlobalIs s i =
    slice_index s.process_after.shared.globals i ≡ after_stores (destination.Global i) (stored script s) (slice_index s.process.shared.globals i)

abbrev LocalIs : ThreadStep → ℕ → Type 0
LocalIs s i =
    local_on_top i s.after.frames ≡ option_map (after_stores (destination.Local i) (stored script s)) (local_on_top i s.before.frames)

-- the variable is g, x or y, or none
abbrev is_named : Store → Bool
is_named (destination.Drop, n) = true
is_named (destination.Global i, n) = nat_lt i 1
is_named (destination.Local i, n) = nat_lt i 2

apart : (j n : ℕ) → j < n → nat_eq j n ≡ false
apart j n low = ne_eqb j n (λ same. absurd (omega (arith, low, same)))

-- all other variables keep their values
other_global : (stores : List Store) → list_all is_named stores ≡ true → (i v : ℕ) → after_stores (destination.Global (suc i)) stores v ≡ v
other_global [] named i v = refl
other_global ((destination.Drop, n) ∷ later) named i v = other_global later named i v
other_global ((destination.Local j, n) ∷ later) named i v = other_global later (and_parts _ _ named).1 i v
other_global ((destination.Global j, n) ∷ later) named i v =
    let low : j < 1 = ltb-true j 1 (and_parts (nat_lt j 1) (list_all is_named later) named).0 in
    ap (λ (b : Bool). after_stores (destination.Global (suc i)) later (cond b n v)) (apart j (suc i) (omega (arith, low))) ∙ other_global later (and_parts _ _ named).1 i v

other_local : (stores : List Store) → list_all is_named stores ≡ true → (i v : ℕ)
    → after_stores (destination.Local (suc (suc i))) stores v ≡ v
other_local [] named i v = refl
other_local ((destination.Drop, n) ∷ later) named i v = other_local later named i v
other_local ((destination.Global j, n) ∷ later) named i v = other_local later (and_parts _ _ named).1 i v
other_local ((destination.Local j, n) ∷ later) named i v =
    let low : j < 2 = ltb-true j 2 (and_parts (nat_lt j 2) (list_all is_named later) named).0 in
    ap (λ (b : Bool). after_stores (destination.Local (suc (suc i))) later (cond b n v)) (apart j (suc (suc i)) (omega (arith, low))) ∙ other_local later (and_parts _ _ named).1 i v

-- so a step keeps the law if it does for g, x and y, and for x and y where nothing is stored
keeps : (pc : ℕ) (s : Status) (events : List What) (g x y : ℕ) → list_all is_named (stored script (step pc s events g x y)) ≡ true
    → (is_empty (stored script (step pc s events g x y)) ≡ true → (x ≡ 7) × (y ≡ 7))
    → GlobalIs (step pc s events g x y) 0 → LocalIs (step pc s events g x y) 0 → LocalIs (step pc s events g x y) 1
    → StoresResults script (step pc s events g x y)
keeps pc s events g x y named same g_is x_is y_is =
    record { globals = by_global; locals = λ some. by_local; callers = λ some. refl; kept = λ none. ap₂ (λ (n m : ℕ). (n ∷ m ∷ 0 ∷ 0 ∷ 0 ∷ 0 ∷ 0 ∷ 0 ∷ []) ∷ []) (same none).0 (same none).1 }
  where
    by_global : (i : ℕ) → GlobalIs (step pc s events g x y) i
    by_global zero = g_is
    by_global (suc i) = sym (other_global (stored script (step pc s events g x y)) named i 0)

    by_local : (i : ℕ) → LocalIs (step pc s events g x y) i
    by_local zero = x_is
    by_local (suc zero) = y_is
    by_local (suc (suc i)) =
        ap (λ (n : ℕ). Some n) (sym (other_local (stored script (step pc s events g x y)) named i (slice_index (0 ∷ 0 ∷ 0 ∷ 0 ∷ 0 ∷ 0 ∷ []) i)))

-- the number of a local is no other one
no_local : {m n : ℕ} → ◌≡◌ {A = Option ℕ} (Some m) (Some n) → m ≡ n
no_local {m} {n} same = same_Some m n same

-- a local of the first of some functions
abbrev first_local : ℕ → List (List ℕ) → ℕ
first_local i [] = 0
first_local i (locals ∷ below) = slice_index locals i

-- ---- pthread_join

join_stores_the_value : StoresResults script (step 0 (status.Joining 3) (what.Joined 3 5 ∷ []) 7 5 7)
unfolding runs_on_literals
join_stores_the_value = keeps 0 (status.Joining 3) (what.Joined 3 5 ∷ []) 7 5 7 refl (λ none. absurd (false≢true none)) refl refl refl

a_join_stores_no_0 : StoresResults script (step 0 (status.Joining 3) (what.Joined 3 5 ∷ []) 7 0 7) → ⊥
unfolding runs_on_literals
a_join_stores_no_0 law = let n : ◌≡◌ {A = ℕ} 0 5 = no_local (law.locals refl 0) in omega (arith, n)

and_in_no_other_variable : StoresResults script (step 0 (status.Joining 3) (what.Joined 3 5 ∷ []) 5 5 7) → ⊥
unfolding runs_on_literals
and_in_no_other_variable law = let n : ◌≡◌ {A = ℕ} 5 7 = law.globals 0 in omega (arith, n)

join_stores_in_a_global : StoresResults script (step 1 (status.Joining 3) (what.Joined 3 5 ∷ []) 5 7 7)
unfolding runs_on_literals
join_stores_in_a_global = keeps 1 (status.Joining 3) (what.Joined 3 5 ∷ []) 5 7 7 refl (λ none. absurd (false≢true none)) refl refl refl

its_function_goes_on : StoresResults script (step_to (at 1 (status.Joining 3) 7 7) (record (at 1 status.Ending 7 7) { frames = [] }) (what.Joined 3 5 ∷ []) 5) → ⊥
unfolding runs_on_literals
its_function_goes_on law = none-some 7 (law.locals refl 0)

-- a join that acts upon a request stores nothing, and its function is left
abbrev canceled : ℕ → ThreadStep
canceled g = step_to (at 1 (status.Joining 3) 7 7) (record (at 1 status.Ending 7 7) { frames = [] }) (what.EndingCanceled ∷ []) g

a_canceled_join_stores_nothing : StoresResults script (canceled 7)
a_canceled_join_stores_nothing = record { globals = λ i. refl; locals = λ some. absurd (true≢false some); callers = λ some. refl; kept = λ none. refl }

not_even_0 : StoresResults script (canceled 0) → ⊥
not_even_0 law = let n : ◌≡◌ {A = ℕ} 0 7 = law.globals 0 in omega (arith, n)

-- ---- pthread_create

create_stores_0_and_the_id : StoresResults script (step 2 status.Running (what.Created 4 false ∷ []) 7 0 4)
unfolding runs_on_literals
create_stores_0_and_the_id = keeps 2 status.Running (what.Created 4 false ∷ []) 7 0 4 refl (λ none. absurd (false≢true none)) refl refl refl

no_other_id : StoresResults script (step 2 status.Running (what.Created 4 false ∷ []) 7 0 3) → ⊥
unfolding runs_on_literals
no_other_id law = let n : ◌≡◌ {A = ℕ} 3 4 = no_local (law.locals refl 1) in omega (arith, n)

where_both_are_one_variable_it_has_the_id : StoresResults script (step 3 status.Running (what.Created 4 false ∷ []) 4 7 7)
unfolding runs_on_literals
where_both_are_one_variable_it_has_the_id = keeps 3 status.Running (what.Created 4 false ∷ []) 4 7 7 refl (λ none. absurd (false≢true none)) refl refl refl

and_not_0 : StoresResults script (step 3 status.Running (what.Created 4 false ∷ []) 0 7 7) → ⊥
unfolding runs_on_literals
and_not_0 law = let n : ◌≡◌ {A = ℕ} 0 4 = law.globals 0 in omega (arith, n)

where_it_fails_it_stores_the_error : StoresResults script (step 2 status.Running (what.Answer caller.Create 1 ∷ []) 7 1 7)
unfolding runs_on_literals
where_it_fails_it_stores_the_error = keeps 2 status.Running (what.Answer caller.Create 1 ∷ []) 7 1 7 refl (λ none. absurd (false≢true none)) refl refl refl

and_no_id : StoresResults script (step 2 status.Running (what.Answer caller.Create 1 ∷ []) 7 1 4) → ⊥
unfolding runs_on_literals
and_no_id law = let n : ◌≡◌ {A = ℕ} 4 7 = no_local (law.locals refl 1) in omega (arith, n)

-- ---- pthread_setcancelstate

the_old_state_is_stored : StoresResults script (step 4 status.Running (what.StateSet true ∷ []) 7 1 7)
unfolding runs_on_literals
the_old_state_is_stored = keeps 4 status.Running (what.StateSet true ∷ []) 7 1 7 refl (λ none. absurd (false≢true none)) refl refl refl

and_not_the_new_one : StoresResults script (step 4 status.Running (what.StateSet true ∷ []) 7 0 7) → ⊥
unfolding runs_on_literals
and_not_the_new_one law = let n : ◌≡◌ {A = ℕ} 0 1 = no_local (law.locals refl 0) in omega (arith, n)

it_is_stored : StoresResults script (step 4 status.Running (what.StateSet true ∷ []) 7 7 7) → ⊥
unfolding runs_on_literals
it_is_stored law = let n : ◌≡◌ {A = ℕ} 7 1 = no_local (law.locals refl 0) in omega (arith, n)

states_have_numbers : map number_of_state (state.Enable ∷ state.Disable ∷ []) ≡ 0 ∷ 1 ∷ []
states_have_numbers = refl

types_have_numbers : map number_of_mode (Deferred ∷ Asynchronous ∷ []) ≡ 0 ∷ 1 ∷ []
types_have_numbers = refl

-- ---- waitpid

waitpid_stores_0_and_the_status : StoresResults script (step 5 (status.InWaitPid 2) (what.Reaped 2 9 ∷ []) 9 0 7)
unfolding runs_on_literals
waitpid_stores_0_and_the_status = keeps 5 (status.InWaitPid 2) (what.Reaped 2 9 ∷ []) 9 0 7 refl (λ none. absurd (false≢true none)) refl refl refl

no_other_status : StoresResults script (step 5 (status.InWaitPid 2) (what.Reaped 2 9 ∷ []) 0 0 7) → ⊥
unfolding runs_on_literals
no_other_status law = let n : ◌≡◌ {A = ℕ} 0 9 = law.globals 0 in omega (arith, n)

waitpid_stores_its_error : StoresResults script (step 5 (status.InWaitPid 2) (what.Answer caller.WaitPid 3 ∷ []) 7 3 7)
unfolding runs_on_literals
waitpid_stores_its_error = keeps 5 (status.InWaitPid 2) (what.Answer caller.WaitPid 3 ∷ []) 7 3 7 refl (λ none. absurd (false≢true none)) refl refl refl

its_call_stores_nothing : StoresResults script (step_to (at 5 status.Running 7 7) (at 5 (status.InWaitPid 2) 0 7) (what.Called 64 ∷ []) 7)
    → ⊥
unfolding runs_on_literals
its_call_stores_nothing law = let n : ◌≡◌ {A = ℕ} 0 7 = ap (first_local 0) (law.kept refl) in omega (arith, n)

-- ---- pthread_cond_timedwait, sem_timedwait

a_wait_that_times_out_stores_its_error : StoresResults script (step 11 (status.Reacquire 0 0 cause.TimedOut) (what.Acquired 0 ∷ what.Answer caller.CondTimedWait 4 ∷ []) 7 4 7)
unfolding runs_on_literals
a_wait_that_times_out_stores_its_error = keeps 11 (status.Reacquire 0 0 cause.TimedOut) (what.Acquired 0 ∷ what.Answer caller.CondTimedWait 4 ∷ []) 7 4 7 refl (λ none. absurd (false≢true none)) refl refl refl

and_not_0_then : StoresResults script (step 11 (status.Reacquire 0 0 cause.TimedOut) (what.Acquired 0 ∷ what.Answer caller.CondTimedWait 4 ∷ []) 7 0 7) → ⊥
unfolding runs_on_literals
and_not_0_then law = let n : ◌≡◌ {A = ℕ} 0 4 = no_local (law.locals refl 0) in omega (arith, n)

one_that_returns_in_time_stores_0 : StoresResults script (step 11 (status.Reacquire 0 0 cause.Signalled) (what.Acquired 0 ∷ what.Done 20 ∷ []) 7 0 7)
unfolding runs_on_literals
one_that_returns_in_time_stores_0 = keeps 11 (status.Reacquire 0 0 cause.Signalled) (what.Acquired 0 ∷ what.Done 20 ∷ []) 7 0 7 refl (λ none. absurd (false≢true none)) refl refl refl

and_no_error : StoresResults script (step 11 (status.Reacquire 0 0 cause.Signalled) (what.Acquired 0 ∷ what.Done 20 ∷ []) 7 4 7) → ⊥
unfolding runs_on_literals
and_no_error law = let n : ◌≡◌ {A = ℕ} 4 0 = no_local (law.locals refl 0) in omega (arith, n)

nor_the_old_value : StoresResults script (step 11 (status.Reacquire 0 0 cause.Broadcast) (what.Acquired 0 ∷ what.Done 20 ∷ []) 7 7 7) → ⊥
unfolding runs_on_literals
nor_the_old_value law = let n : ◌≡◌ {A = ℕ} 7 0 = no_local (law.locals refl 0) in omega (arith, n)

-- as the time expires nothing is stored yet
abbrev expires : ℕ → ThreadStep
expires x = step_to (at 11 (status.Waiting 0 0) 7 7) (at 11 (status.Reacquire 0 0 cause.TimedOut) x 7) (what.WaitExpired 0 ∷ []) 7

it_stores_nothing_as_its_time_expires : StoresResults script (expires 4) → ⊥
unfolding runs_on_literals
it_stores_nothing_as_its_time_expires law = let n : ◌≡◌ {A = ℕ} 4 7 = ap (first_local 0) (law.kept refl) in omega (arith, n)

a_semaphore_that_is_taken_stores_0 : StoresResults script (step 12 (status.InSem 0) (what.Taken 0 ∷ []) 0 7 7)
unfolding runs_on_literals
a_semaphore_that_is_taken_stores_0 = keeps 12 (status.InSem 0) (what.Taken 0 ∷ []) 0 7 7 refl (λ none. absurd (false≢true none)) refl refl refl

and_no_error_number : StoresResults script (step 12 (status.InSem 0) (what.Taken 0 ∷ []) 4 7 7) → ⊥
unfolding runs_on_literals
and_no_error_number law = let n : ◌≡◌ {A = ℕ} 4 0 = law.globals 0 in omega (arith, n)

one_that_times_out_stores_its_error : StoresResults script (step 12 (status.InSem 0) (what.Answer caller.SemTimedWait 4 ∷ []) 4 7 7)
unfolding runs_on_literals
one_that_times_out_stores_its_error = keeps 12 (status.InSem 0) (what.Answer caller.SemTimedWait 4 ∷ []) 4 7 7 refl (λ none. absurd (false≢true none)) refl refl refl

and_never_0 : StoresResults script (step 12 (status.InSem 0) (what.Answer caller.SemTimedWait 4 ∷ []) 0 7 7) → ⊥
unfolding runs_on_literals
and_never_0 law = let n : ◌≡◌ {A = ℕ} 0 4 = law.globals 0 in omega (arith, n)

-- ---- pthread_key_create, pthread_getspecific

the_key_is_stored : StoresResults script (step 6 status.Running (what.KeyMade 2 ∷ []) 2 7 7)
unfolding runs_on_literals
the_key_is_stored = keeps 6 status.Running (what.KeyMade 2 ∷ []) 2 7 7 refl (λ none. absurd (false≢true none)) refl refl refl

no_other_key : StoresResults script (step 6 status.Running (what.KeyMade 2 ∷ []) 1 7 7) → ⊥
unfolding runs_on_literals
no_other_key law = let n : ◌≡◌ {A = ℕ} 1 2 = law.globals 0 in omega (arith, n)

the_value_of_the_key_is_stored : StoresResults script (step 9 status.Running [] 6 7 7)
unfolding runs_on_literals
the_value_of_the_key_is_stored = keeps 9 status.Running [] 6 7 7 refl (λ none. absurd (false≢true none)) refl refl refl

no_other_value : StoresResults script (step 9 status.Running [] 0 7 7) → ⊥
unfolding runs_on_literals
no_other_value law = let n : ◌≡◌ {A = ℕ} 0 6 = law.globals 0 in omega (arith, n)

-- ---- fork

the_parent_gets_the_id : StoresResults script (step 7 (forking phase.Parent 0 0 2) [] 2 0 7)
unfolding runs_on_literals
the_parent_gets_the_id = keeps 7 (forking phase.Parent 0 0 2) [] 2 0 7 refl (λ none. absurd (false≢true none)) refl refl refl

the_child_gets_0 : StoresResults script (step 7 (forking phase.Child 0 0 0) [] 0 0 7)
unfolding runs_on_literals
the_child_gets_0 = keeps 7 (forking phase.Child 0 0 0) [] 0 0 7 refl (λ none. absurd (false≢true none)) refl refl refl

and_no_id_of_its_own : StoresResults script (step 7 (forking phase.Child 0 0 0) [] 2 0 7) → ⊥
unfolding runs_on_literals
and_no_id_of_its_own law = let n : ◌≡◌ {A = ℕ} 2 0 = law.globals 0 in omega (arith, n)

where_there_is_no_child_fork_fails : StoresResults script (step 7 (forking phase.Parent 0 0 0) [] 7 1 7)
unfolding runs_on_literals
where_there_is_no_child_fork_fails = keeps 7 (forking phase.Parent 0 0 0) [] 7 1 7 refl (λ none. absurd (false≢true none)) refl refl refl

and_does_not_succeed : StoresResults script (step 7 (forking phase.Parent 0 0 0) [] 7 0 7) → ⊥
unfolding runs_on_literals
and_does_not_succeed law = let n : ◌≡◌ {A = ℕ} 0 1 = no_local (law.locals refl 0) in omega (arith, n)

-- ---- the functions that call the one which executes a statement

-- `main` called itself; the locals of the caller are 7 before the step, and x has this value after it
abbrev called : ℕ → Status → ℕ → ℕ → Thread
called pc s x in_caller = record (at pc s 0 0) { frames = frame pc x 7 ∷ frame 10 in_caller 7 ∷ [] }

a_join_stores_in_its_own_function : StoresResults script (step_to (called 0 (status.Joining 3) 7 7) (called 1 status.Running 5 5) (what.Joined 3 5 ∷ []) 7) → ⊥
unfolding runs_on_literals
a_join_stores_in_its_own_function law = let n : ◌≡◌ {A = ℕ} 5 7 = ap (first_local 0) (law.callers refl) in omega (arith, n)

a_return_stores_nothing : StoresResults script (step_to (called 11 status.Running 7 7) (at 10 status.Running 7 7) [] 7)
unfolding runs_on_literals
a_return_stores_nothing = record { globals = λ i. refl; locals = λ some. absurd (true≢false some); callers = λ some. absurd (true≢false some); kept = λ none. refl }

not_in_the_caller : StoresResults script (step_to (called 11 status.Running 7 7) (at 10 status.Running 0 7) [] 7) → ⊥
unfolding runs_on_literals
not_in_the_caller law = let n : ◌≡◌ {A = ℕ} 0 7 = ap (first_local 0) (law.kept refl) in omega (arith, n)

-- ---- the script language

add_is_modulo_2_to_the_32 : StoresResults script (step 8 status.Running [] 6 7 7)
unfolding runs_on_literals
add_is_modulo_2_to_the_32 = keeps 8 status.Running [] 6 7 7 refl (λ none. absurd (false≢true none)) refl refl refl

add_adds : StoresResults script (step 8 status.Running [] 7 7 7) → ⊥
unfolding runs_on_literals
add_adds law = let n : ◌≡◌ {A = ℕ} 7 6 = law.globals 0 in omega (arith, n)

emit_stores_nothing : StoresResults script (step 10 status.Running (what.Emit 5 ∷ []) 7 7 7)
unfolding runs_on_literals
emit_stores_nothing = keeps 10 status.Running (what.Emit 5 ∷ []) 7 7 7 refl (λ none. (refl, refl)) refl refl refl

no_global_changes_at_emit : StoresResults script (step 10 status.Running (what.Emit 5 ∷ []) 5 7 7) → ⊥
unfolding runs_on_literals
no_global_changes_at_emit law = let n : ◌≡◌ {A = ℕ} 5 7 = law.globals 0 in omega (arith, n)

and_no_local : StoresResults script (step 10 status.Running (what.Emit 5 ∷ []) 7 7 5) → ⊥
unfolding runs_on_literals
and_no_local law = let n : ◌≡◌ {A = ℕ} 5 7 = ap (first_local 1) (law.kept refl) in omega (arith, n)
