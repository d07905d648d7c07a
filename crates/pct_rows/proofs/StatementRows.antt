-- The law of statements: statements with events that the law accepts, and events that it refuses, each with the name of the sentence that it
-- breaks; calls with what they suspend their thread for, and the events by which it goes on; and made steps.
use Rattle.pct_names.proofs.Names.{[], Bool, codes, cond_timedwait_point, cond_wait_point, false, first_process, Frame, FrameKind}
use Rattle.pct_names.proofs.Names.{is_static, IsTrue, join_point, List, MAX_FORK_HANDLERS, MAX_KEYS, new_frame, new_shared, new_thread}
use Rattle.pct_names.proofs.Names.{None, Operand, Process, refl, replicate, Script, sem_timedwait_point, sem_wait_point, SharedState, Some}
use Rattle.pct_names.proofs.Names.{StatementIn, Status, Stmt, testcancel_point, Thread, true, waitpid_point, What, ℕ, ◌∷◌, ◌≡◌}
use Rattle.pct_model.specs.declared.event.Caller.TheVariants as caller
use Rattle.pct_model.specs.declared.event.What.TheVariants as what
use Rattle.pct_model.specs.declared.state.Cause.TheVariants as cause
use Rattle.pct_model.specs.declared.state.FrameKind.TheVariants as kind
use Rattle.pct_model.specs.declared.state.Phase.TheVariants as phase
use Rattle.pct_model.specs.declared.state.Status.TheVariants as status
use Rattle.pct_model.specs.declared.statement.Dest.TheVariants as destination
use Rattle.pct_model.specs.declared.statement.Operand.TheVariants as operand
use Rattle.pct_model.specs.declared.statement.Stmt.TheVariants as statement
use Rattle.pct_model.specs.declared.stop.Why.TheVariants as why
use Rattle.pct_laws.specs.StatementLaw.{asked, goes_on_by, is_suspended_at, says_statement, suspends_by_call}
use Rattle.pct_laws.specs.ThreadSteps.{ThreadStep}
use Rattle.pct_rows.proofs.OnLiterals.{checks_on_literals, runs_on_literals}

-- ---- a script

-- `main` joins thread 3, emits 5, and returns
abbrev statements : List Stmt
statements = statement.Join (operand.Num 3) destination.Drop ∷ statement.Emit (operand.Num 5) ∷ statement.End ∷ []

passes : IsTrue (is_static (record { globals = []; mutexes = []; conds = []; sems = []; onces = []; funcs = record { name = codes "main"; locals = codes "x" ∷ []; body = statements } ∷ [] }))
unfolding checks_on_literals
passes = refl

abbrev script : Script
script = record { globals = []; mutexes = []; conds = []; sems = []; onces = []; funcs = record { name = codes "main"; locals = codes "x" ∷ []; body = statements } ∷ []; passes_checks = passes }

-- ---- a state

-- thread 1 has the handlers 8 of 80 and 9 of 90, the newest first; its first local is 7
abbrev frame : FrameKind → Frame
frame k = new_frame 0 7 k

abbrev thread : Thread
thread = record (new_thread 1 false (frame kind.Call)) { handlers = (8, 80) ∷ (9, 90) ∷ [] }

-- thread 3 waits on condition variable 0 with mutex 2; thread 2 has ended, and keeps its slot
abbrev threads : List Thread
threads =
    thread
    ∷ record (new_thread 2 false (frame kind.Start)) { status = status.Ended 5; ended = true; frames = [] }
    ∷ record (new_thread 3 false (frame kind.Start)) { status = status.Waiting 0 2 }
    ∷ []

abbrev shared : SharedState
shared = new_shared script

-- all places have a key, all registrations of fork handlers are made, and exit has begun
abbrev full : SharedState
full = record shared {
  keys = replicate MAX_KEYS (record { made = 1; key = Some (record { number = 1; destructor = None }) });
  fork_handlers = replicate MAX_FORK_HANDLERS (record { prepare = None; parent = None; child = None });
  exit_value = Some 0;
}

-- whether thread 1 may make these events at a statement, with four slots, where the last is free, and with three
abbrev says : Stmt → List What → Bool
says s events = asked 4 statements shared threads thread (frame kind.Call) s events

abbrev says_full : Stmt → List What → Bool
says_full s events = asked 3 statements full threads thread (frame kind.Call) s events

-- the first local
abbrev x : Operand
x = operand.Local 0

-- waits with a time, on condition variable 0 with mutex 2 and for semaphore 2
abbrev timed_wait : Stmt
timed_wait = statement.CondTimedWait destination.Drop 0 2

abbrev timed_sem_wait : Stmt
timed_sem_wait = statement.SemTimedWait destination.Drop 2

-- ---- the script language

emits_its_value : says (statement.Emit x) (what.Emit 7 ∷ []) ≡ true
unfolding runs_on_literals
emits_its_value = refl

no_other_value : says (statement.Emit x) (what.Emit 0 ∷ []) ≡ false
unfolding runs_on_literals
no_other_value = refl

an_emit_has_an_event : says (statement.Emit x) [] ≡ false
an_emit_has_an_event = refl

and_only_one : says (statement.Emit x) (what.Emit 7 ∷ what.Emit 7 ∷ []) ≡ false
and_only_one = refl

a_do_has_none : says (statement.Do 0 x) [] ≡ true
a_do_has_none = refl

a_set_has_none : says (statement.Set (destination.Local 0) x) (what.Emit 7 ∷ []) ≡ false
a_set_has_none = refl

-- a return from a function that the script calls, from a start routine, and from `main`
a_return_has_none : says (statement.Return x) [] ≡ true
unfolding runs_on_literals
a_return_has_none = refl

nor_an_exit : says (statement.Return x) (what.ExitBegun 7 ∷ []) ≡ false
unfolding runs_on_literals
nor_an_exit = refl

abbrev returns : FrameKind → List What → Bool
returns k events = asked 4 statements shared threads thread (frame k) (statement.Return x) events

from_a_start_routine_it_ends_the_thread : returns kind.Start (what.EndingExit 7 ∷ []) ≡ true
unfolding runs_on_literals
from_a_start_routine_it_ends_the_thread = refl

with_its_value : returns kind.Start (what.EndingExit 0 ∷ []) ≡ false
unfolding runs_on_literals
with_its_value = refl

from_main_it_exits_the_process : returns kind.Main (what.ExitBegun 7 ∷ []) ≡ true
unfolding runs_on_literals
from_main_it_exits_the_process = refl

and_does_not_end_the_thread : returns kind.Main (what.EndingExit 7 ∷ []) ≡ false
unfolding runs_on_literals
and_does_not_end_the_thread = refl

from_an_init_routine_it_has_the_event_of_its_control : returns (kind.OnceFn 2) (what.OnceDone 2 ∷ []) ≡ true
from_an_init_routine_it_has_the_event_of_its_control = refl

and_of_no_other_control : returns (kind.OnceFn 2) (what.OnceDone 0 ∷ []) ≡ false
and_of_no_other_control = refl

it_has_it : returns (kind.OnceFn 2) [] ≡ false
it_has_it = refl

and_another_return_has_not : says (statement.Return x) (what.OnceDone 2 ∷ []) ≡ false
and_another_return_has_not = refl

-- the `end` of `main` is at index 2
abbrev closes : ℕ → List What → Bool
closes pc events = asked 4 statements shared threads thread (record (frame kind.Main) { pc = pc }) statement.End events

the_end_of_main_exits_with_0 : closes 2 (what.ExitBegun 0 ∷ []) ≡ true
unfolding runs_on_literals
the_end_of_main_exits_with_0 = refl

and_with_no_other_value : closes 2 (what.ExitBegun 7 ∷ []) ≡ false
unfolding runs_on_literals
and_with_no_other_value = refl

-- ---- threads

abbrev creates : Stmt
creates = statement.Create destination.Drop destination.Drop 0 x true

a_number_that_is_free : says creates (what.Created 4 true ∷ []) ≡ true
unfolding runs_on_literals
a_number_that_is_free = refl

no_number_that_is_not : says creates (what.Created 7 true ∷ []) ≡ false
unfolding runs_on_literals
no_number_that_is_not = refl

detached_as_the_statement_says : says creates (what.Created 4 false ∷ []) ≡ false
unfolding runs_on_literals
detached_as_the_statement_says = refl

it_fails_if_none_is_free : says_full creates (what.Answer caller.Create 1 ∷ []) ≡ true
unfolding runs_on_literals
it_fails_if_none_is_free = refl

and_only_then : says creates (what.Answer caller.Create 1 ∷ []) ≡ false
unfolding runs_on_literals
and_only_then = refl

joins : says (statement.Join (operand.Num 3) destination.Drop) (what.Called join_point ∷ []) ≡ true
joins = refl

a_join_does_not_return_at_once : says (statement.Join (operand.Num 3) destination.Drop) (what.Joined 2 5 ∷ []) ≡ false
a_join_does_not_return_at_once = refl

detaches : says (statement.Detach (operand.Num 3)) (what.Detached 3 ∷ []) ≡ true
unfolding runs_on_literals
detaches = refl

no_other_thread_is_detached : says (statement.Detach (operand.Num 3)) (what.Detached 2 ∷ []) ≡ false
unfolding runs_on_literals
no_other_thread_is_detached = refl

requests : says (statement.CancelThread (operand.Num 3)) (what.Request 3 ∷ []) ≡ true
unfolding runs_on_literals
requests = refl

no_other_thread_is_canceled : says (statement.CancelThread (operand.Num 3)) (what.Request 2 ∷ []) ≡ false
unfolding runs_on_literals
no_other_thread_is_canceled = refl

exits : says (statement.ThreadExit x) (what.EndingExit 7 ∷ []) ≡ true
unfolding runs_on_literals
exits = refl

an_exit_value_is_that_of_the_operand : says (statement.ThreadExit x) (what.EndingExit 0 ∷ []) ≡ false
unfolding runs_on_literals
an_exit_value_is_that_of_the_operand = refl

-- ---- cancellation

tests : says statement.TestCancel (what.Done testcancel_point ∷ []) ≡ true
tests = refl

a_test_is_no_other_call : says statement.TestCancel (what.Done join_point ∷ []) ≡ false
a_test_is_no_other_call = refl

enables : says (statement.SetState true destination.Drop) (what.StateSet true ∷ []) ≡ true
enables = refl

an_enable_does_not_disable : says (statement.SetState true destination.Drop) (what.StateSet false ∷ []) ≡ false
an_enable_does_not_disable = refl

nor_a_disable_enable : says (statement.SetState false destination.Drop) (what.StateSet true ∷ []) ≡ false
nor_a_disable_enable = refl

sets_the_type : says (statement.SetMode false destination.Drop) (what.ModeSet false ∷ []) ≡ true
sets_the_type = refl

no_other_type : says (statement.SetMode false destination.Drop) (what.ModeSet true ∷ []) ≡ false
no_other_type = refl

-- `read` is required, and `fclose` is optional
calls_read : says (statement.PointCall 25) (what.Called 25 ∷ []) ≡ true
unfolding runs_on_literals
calls_read = refl

read_does_not_return_at_once : says (statement.PointCall 25) (what.Done 25 ∷ []) ≡ false
unfolding runs_on_literals
read_does_not_return_at_once = refl

calls_fclose : says (statement.PointCall 47) (what.Done 47 ∷ []) ≡ true
unfolding runs_on_literals
calls_fclose = refl

and_no_other_point : says (statement.PointCall 47) (what.Done 48 ∷ []) ≡ false
unfolding runs_on_literals
and_no_other_point = refl

-- ---- handlers and keys

pushes : says (statement.Push 0 x) (what.Pushed 0 7 ∷ []) ≡ true
unfolding runs_on_literals
pushes = refl

a_push_keeps_its_argument : says (statement.Push 0 x) (what.Pushed 0 0 ∷ []) ≡ false
unfolding runs_on_literals
a_push_keeps_its_argument = refl

and_its_function : says (statement.Push 0 x) (what.Pushed 1 7 ∷ []) ≡ false
unfolding runs_on_literals
and_its_function = refl

pops : says (statement.Pop (operand.Num 1)) (what.Popped 8 80 true ∷ []) ≡ true
unfolding runs_on_literals
pops = refl

a_pop_removes_the_newest : says (statement.Pop (operand.Num 1)) (what.Popped 9 90 true ∷ []) ≡ false
unfolding runs_on_literals
a_pop_removes_the_newest = refl

and_calls_it_if_it_is_to : says (statement.Pop (operand.Num 1)) (what.Popped 8 80 false ∷ []) ≡ false
unfolding runs_on_literals
and_calls_it_if_it_is_to = refl

abbrev makes_a_key : Stmt
makes_a_key = statement.KeyCreate destination.Drop destination.Drop None

a_key_that_is_free : says makes_a_key (what.KeyMade 1 ∷ []) ≡ true
unfolding runs_on_literals
a_key_that_is_free = refl

no_key_that_is_not : says makes_a_key (what.KeyMade 129 ∷ []) ≡ false
unfolding runs_on_literals
no_key_that_is_not = refl

no_key_is_made_if_none_is_free : says_full makes_a_key (what.Answer caller.KeyCreate 1 ∷ []) ≡ true
unfolding runs_on_literals
no_key_is_made_if_none_is_free = refl

and_then_alone : says makes_a_key (what.Answer caller.KeyCreate 1 ∷ []) ≡ false
unfolding runs_on_literals
and_then_alone = refl

deletes : says (statement.KeyDelete x) (what.KeyGone 7 ∷ []) ≡ true
unfolding runs_on_literals
deletes = refl

no_other_key_is_deleted : says (statement.KeyDelete x) (what.KeyGone 1 ∷ []) ≡ false
unfolding runs_on_literals
no_other_key_is_deleted = refl

sets_a_value : says (statement.SetSpecific (operand.Num 1) x) [] ≡ true
sets_a_value = refl

a_value_has_no_event : says (statement.SetSpecific (operand.Num 1) x) (what.KeyGone 1 ∷ []) ≡ false
a_value_has_no_event = refl

-- ---- mutexes, condition variables and semaphores

locks : says (statement.Lock 2) (what.Acquired 2 ∷ []) ≡ true
locks = refl

no_other_mutex_is_locked : says (statement.Lock 2) (what.Acquired 0 ∷ []) ≡ false
no_other_mutex_is_locked = refl

unlocks : says (statement.Unlock 2) (what.Released 2 ∷ []) ≡ true
unlocks = refl

no_other_mutex_is_unlocked : says (statement.Unlock 2) (what.Released 0 ∷ []) ≡ false
no_other_mutex_is_unlocked = refl

waits : says (statement.CondWait 0 2) (what.Called cond_wait_point ∷ what.Released 2 ∷ []) ≡ true
waits = refl

a_wait_releases_its_mutex : says (statement.CondWait 0 2) (what.Called cond_wait_point ∷ []) ≡ false
a_wait_releases_its_mutex = refl

and_no_other_mutex : says (statement.CondWait 0 2) (what.Called cond_wait_point ∷ what.Released 0 ∷ []) ≡ false
and_no_other_mutex = refl

waits_with_a_time : says timed_wait (what.Called cond_timedwait_point ∷ what.Released 2 ∷ []) ≡ true
waits_with_a_time = refl

by_its_own_name : says timed_wait (what.Called cond_wait_point ∷ what.Released 2 ∷ []) ≡ false
by_its_own_name = refl

as_one_without_has : says (statement.CondWait 0 2) (what.Called cond_timedwait_point ∷ what.Released 2 ∷ []) ≡ false
as_one_without_has = refl

it_releases_its_mutex : says timed_wait (what.Called cond_timedwait_point ∷ []) ≡ false
it_releases_its_mutex = refl

and_no_other_one : says timed_wait (what.Called cond_timedwait_point ∷ what.Released 0 ∷ []) ≡ false
and_no_other_one = refl

its_time_does_not_expire_at_its_call : says timed_wait (what.Answer caller.CondTimedWait 4 ∷ []) ≡ false
its_time_does_not_expire_at_its_call = refl

signals : says (statement.Signal 0) (what.Signalled 0 3 ∷ []) ≡ true
unfolding runs_on_literals
signals = refl

to_no_other_condition_variable : says (statement.Signal 0) (what.Signalled 1 3 ∷ []) ≡ false
unfolding runs_on_literals
to_no_other_condition_variable = refl

broadcasts : says (statement.Broadcast 0) (what.BroadcastTo 0 1 ∷ []) ≡ true
unfolding runs_on_literals
broadcasts = refl

and_broadcasts_to_no_other : says (statement.Broadcast 0) (what.BroadcastTo 1 1 ∷ []) ≡ false
unfolding runs_on_literals
and_broadcasts_to_no_other = refl

calls_sem_wait : says (statement.SemWait 2) (what.Called sem_wait_point ∷ []) ≡ true
calls_sem_wait = refl

it_takes_nothing_yet : says (statement.SemWait 2) (what.Taken 2 ∷ []) ≡ false
it_takes_nothing_yet = refl

calls_sem_timedwait : says timed_sem_wait (what.Called sem_timedwait_point ∷ []) ≡ true
calls_sem_timedwait = refl

and_not_sem_wait : says timed_sem_wait (what.Called sem_wait_point ∷ []) ≡ false
and_not_sem_wait = refl

it_takes_none_yet : says timed_sem_wait (what.Taken 2 ∷ []) ≡ false
it_takes_none_yet = refl

nor_times_out : says timed_sem_wait (what.Answer caller.SemTimedWait 4 ∷ []) ≡ false
nor_times_out = refl

posts : says (statement.SemPost 2) (what.Posted 2 ∷ []) ≡ true
posts = refl

no_other_semaphore_is_posted : says (statement.SemPost 2) (what.Posted 0 ∷ []) ≡ false
no_other_semaphore_is_posted = refl

-- ---- once controls

abbrev calls_once : Stmt
calls_once = statement.CallOnce 2 0

calls_the_routine : says calls_once (what.OnceCalled 2 ∷ []) ≡ true
calls_the_routine = refl

or_returns_without_an_event : says calls_once [] ≡ true
or_returns_without_an_event = refl

no_routine_of_another_control_is_called : says calls_once (what.OnceCalled 0 ∷ []) ≡ false
no_routine_of_another_control_is_called = refl

a_routine_does_not_return_at_once : says calls_once (what.OnceCalled 2 ∷ what.OnceDone 2 ∷ []) ≡ false
a_routine_does_not_return_at_once = refl

nor_without_its_call : says calls_once (what.OnceDone 2 ∷ []) ≡ false
nor_without_its_call = refl

-- ---- processes

abbrev registers : Stmt
registers = statement.AtFork destination.Drop None None None

fork_handlers_are_registered : says registers [] ≡ true
fork_handlers_are_registered = refl

pthread_atfork_fails_at_its_limit_alone : says registers (what.Answer caller.AtFork 2 ∷ []) ≡ false
pthread_atfork_fails_at_its_limit_alone = refl

there_it_fails : says_full registers (what.Answer caller.AtFork 2 ∷ []) ≡ true
there_it_fails = refl

and_does_not_succeed : says_full registers [] ≡ false
and_does_not_succeed = refl

forks : says (statement.Fork destination.Drop destination.Drop) [] ≡ true
forks = refl

the_call_of_fork_makes_no_process : says (statement.Fork destination.Drop destination.Drop) (what.Forked 2 ∷ []) ≡ false
the_call_of_fork_makes_no_process = refl

abbrev waits_for_child : Stmt
waits_for_child = statement.WaitPid destination.Drop (operand.Num 2) destination.Drop

waits_for_a_child : says waits_for_child (what.Called waitpid_point ∷ []) ≡ true
waits_for_a_child = refl

finds_no_child : says waits_for_child (what.Answer caller.WaitPid 3 ∷ []) ≡ true
finds_no_child = refl

a_child_is_not_reaped_at_once : says waits_for_child (what.Reaped 2 0 ∷ []) ≡ false
a_child_is_not_reaped_at_once = refl

registers_an_exit_function : says (statement.AtExit destination.Drop 0) [] ≡ true
registers_an_exit_function = refl

atexit_fails_only_where_it_has_to : says (statement.AtExit destination.Drop 0) (what.Answer caller.AtExit 1 ∷ []) ≡ false
atexit_fails_only_where_it_has_to = refl

as_in_an_exit : says_full (statement.AtExit destination.Drop 0) (what.Answer caller.AtExit 1 ∷ []) ≡ true
as_in_an_exit = refl

exits_the_process : says (statement.ProcExit x) (what.ExitBegun 7 ∷ []) ≡ true
unfolding runs_on_literals
exits_the_process = refl

with_the_value_of_the_operand : says (statement.ProcExit x) (what.ExitBegun 0 ∷ []) ≡ false
unfolding runs_on_literals
with_the_value_of_the_operand = refl

ends_the_process : says (statement.ProcExitNow (operand.Num 257)) (what.ProcessEnded 1 ∷ []) ≡ true
unfolding runs_on_literals
ends_the_process = refl

a_status_has_8_bits : says (statement.ProcExitNow (operand.Num 257)) (what.ProcessEnded 257 ∷ []) ≡ false
unfolding runs_on_literals
a_status_has_8_bits = refl

-- ---- what a call suspends its thread for

abbrev suspends : Stmt → Status → Bool
suspends s after = is_suspended_at [] (StatementIn (frame kind.Call) s) after

in_a_join : suspends (statement.Join (operand.Num 3) destination.Drop) (status.Joining 3) ≡ true
unfolding runs_on_literals
in_a_join = refl

a_join_names_its_thread : suspends (statement.Join (operand.Num 3) destination.Drop) (status.Joining 2) ≡ false
unfolding runs_on_literals
a_join_names_its_thread = refl

and_suspends_its_caller : suspends (statement.Join (operand.Num 3) destination.Drop) status.Running ≡ false
and_suspends_its_caller = refl

in_a_wait : suspends (statement.CondWait 0 2) (status.Waiting 0 2) ≡ true
in_a_wait = refl

a_wait_is_on_its_condition_variable : suspends (statement.CondWait 0 2) (status.Waiting 1 2) ≡ false
a_wait_is_on_its_condition_variable = refl

with_its_mutex : suspends (statement.CondWait 0 2) (status.Waiting 0 1) ≡ false
with_its_mutex = refl

in_a_wait_with_a_time : suspends timed_wait (status.Waiting 0 2) ≡ true
in_a_wait_with_a_time = refl

it_is_on_its_condition_variable : suspends timed_wait (status.Waiting 1 2) ≡ false
it_is_on_its_condition_variable = refl

and_with_its_mutex : suspends timed_wait (status.Waiting 0 1) ≡ false
and_with_its_mutex = refl

it_does_not_expire_at_once : suspends timed_wait (status.Reacquire 0 2 cause.TimedOut) ≡ false
it_does_not_expire_at_once = refl

in_a_sem_wait_with_a_time : suspends timed_sem_wait (status.InSem 2) ≡ true
in_a_sem_wait_with_a_time = refl

for_its_own_semaphore : suspends timed_sem_wait (status.InSem 1) ≡ false
for_its_own_semaphore = refl

a_sem_wait_is_on_its_semaphore : suspends (statement.SemWait 2) (status.InSem 1) ≡ false
a_sem_wait_is_on_its_semaphore = refl

a_waitpid_is_for_its_process : suspends waits_for_child (status.InWaitPid 3) ≡ false
unfolding runs_on_literals
a_waitpid_is_for_its_process = refl

a_point_is_that_of_the_statement : suspends (statement.PointCall 25) (status.AtPoint 24) ≡ false
a_point_is_that_of_the_statement = refl

an_emit_suspends_nobody : suspends (statement.Emit x) (status.AtPoint 25) ≡ false
an_emit_suspends_nobody = refl

-- ---- events by which a thread goes on that does not run

-- a thread in fork
abbrev in_fork : Status
in_fork = status.Forking (record { phase = phase.Parent; next = 0; length = 1; answer = 2 })

joined : goes_on_by (status.Joining 3) (what.Joined 3 5 ∷ []) ≡ true
joined = refl

another_thread_is_joined : goes_on_by (status.Joining 3) (what.Joined 2 5 ∷ []) ≡ false
another_thread_is_joined = refl

a_join_returns_without_its_event : goes_on_by (status.Joining 3) [] ≡ false
a_join_returns_without_its_event = refl

or_by_another_event : goes_on_by (status.Joining 3) (what.Emit 5 ∷ []) ≡ false
or_by_another_event = refl

a_running_thread_joins_none : says (statement.Join x destination.Drop) (what.Joined 7 5 ∷ []) ≡ false
a_running_thread_joins_none = refl

a_request_ends_a_join : goes_on_by (status.Joining 3) (what.EndingCanceled ∷ []) ≡ true
a_request_ends_a_join = refl

taken : goes_on_by (status.InSem 2) (what.Taken 2 ∷ []) ≡ true
taken = refl

another_semaphore_is_taken : goes_on_by (status.InSem 2) (what.Taken 1 ∷ []) ≡ false
another_semaphore_is_taken = refl

a_sem_wait_takes_nothing : goes_on_by (status.InSem 2) [] ≡ false
a_sem_wait_takes_nothing = refl

a_sem_wait_times_out : goes_on_by (status.InSem 2) (what.Answer caller.SemTimedWait 4 ∷ []) ≡ true
a_sem_wait_times_out = refl

by_another_error : goes_on_by (status.InSem 2) (what.Answer caller.SemTimedWait 3 ∷ []) ≡ false
by_another_error = refl

as_another_call : goes_on_by (status.InSem 2) (what.Answer caller.CondTimedWait 4 ∷ []) ≡ false
as_another_call = refl

another_process_is_reaped : goes_on_by (status.InWaitPid 2) (what.Reaped 3 0 ∷ []) ≡ false
another_process_is_reaped = refl

there_is_no_child : goes_on_by (status.InWaitPid 2) (what.Answer caller.WaitPid 3 ∷ []) ≡ true
there_is_no_child = refl

a_waitpid_reaps_nothing : goes_on_by (status.InWaitPid 2) [] ≡ false
a_waitpid_reaps_nothing = refl

another_point_returns : goes_on_by (status.AtPoint 25) (what.Done 24 ∷ []) ≡ false
another_point_returns = refl

a_point_returns_without_its_event : goes_on_by (status.AtPoint 25) [] ≡ false
a_point_returns_without_its_event = refl

a_wait_returns : goes_on_by (status.Reacquire 0 2 cause.Signalled) (what.Acquired 2 ∷ what.Done cond_wait_point ∷ []) ≡ true
a_wait_returns = refl

another_mutex_is_acquired : goes_on_by (status.Reacquire 0 2 cause.Signalled) (what.Acquired 1 ∷ what.Done cond_wait_point ∷ []) ≡ false
another_mutex_is_acquired = refl

a_wait_returns_without_its_mutex : goes_on_by (status.Reacquire 0 2 cause.Signalled) (what.Done cond_wait_point ∷ []) ≡ false
a_wait_returns_without_its_mutex = refl

a_wait_with_a_time_returns : goes_on_by (status.Reacquire 0 2 cause.Broadcast) (what.Acquired 2 ∷ what.Done cond_timedwait_point ∷ []) ≡ true
a_wait_with_a_time_returns = refl

its_time_expires : goes_on_by (status.Waiting 0 2) (what.WaitExpired 0 ∷ []) ≡ true
its_time_expires = refl

the_time_of_another_wait_expires : goes_on_by (status.Waiting 0 2) (what.WaitExpired 1 ∷ []) ≡ false
the_time_of_another_wait_expires = refl

it_expires_twice : goes_on_by (status.Reacquire 0 2 cause.TimedOut) (what.WaitExpired 0 ∷ []) ≡ false
it_expires_twice = refl

it_expires_after_a_signal : goes_on_by (status.Reacquire 0 2 cause.Signalled) (what.WaitExpired 0 ∷ []) ≡ false
it_expires_after_a_signal = refl

it_times_out : goes_on_by (status.Reacquire 0 2 cause.TimedOut) (what.Acquired 2 ∷ what.Answer caller.CondTimedWait 4 ∷ []) ≡ true
it_times_out = refl

it_times_out_with_another_error : goes_on_by (status.Reacquire 0 2 cause.TimedOut) (what.Acquired 2 ∷ what.Answer caller.CondTimedWait 3 ∷ []) ≡ false
it_times_out_with_another_error = refl

it_times_out_with_another_mutex : goes_on_by (status.Reacquire 0 2 cause.TimedOut) (what.Acquired 1 ∷ what.Answer caller.CondTimedWait 4 ∷ []) ≡ false
it_times_out_with_another_mutex = refl

it_times_out_without_its_mutex : goes_on_by (status.Reacquire 0 2 cause.TimedOut) (what.Answer caller.CondTimedWait 4 ∷ []) ≡ false
it_times_out_without_its_mutex = refl

it_times_out_as_it_expires : goes_on_by (status.Waiting 0 2) (what.WaitExpired 0 ∷ what.Answer caller.CondTimedWait 4 ∷ []) ≡ false
it_times_out_as_it_expires = refl

its_time_expired_and_it_returns_0 : goes_on_by (status.Reacquire 0 2 cause.TimedOut) (what.Acquired 2 ∷ what.Done cond_timedwait_point ∷ []) ≡ false
its_time_expired_and_it_returns_0 = refl

a_signalled_wait_times_out : goes_on_by (status.Reacquire 0 2 cause.Signalled) (what.Acquired 2 ∷ what.Answer caller.CondTimedWait 4 ∷ []) ≡ false
a_signalled_wait_times_out = refl

a_wait_is_left_after_its_time : goes_on_by (status.Reacquire 0 2 cause.TimedOut) (what.WaitCanceled 0 ∷ []) ≡ true
a_wait_is_left_after_its_time = refl

and_hands_on_a_signal : goes_on_by (status.Reacquire 0 2 cause.TimedOut) (what.WaitCanceled 0 ∷ what.HandedOn 0 3 ∷ []) ≡ false
and_hands_on_a_signal = refl

it_is_another_one : goes_on_by (status.Reacquire 0 2 cause.TimedOut) (what.WaitCanceled 1 ∷ []) ≡ false
it_is_another_one = refl

it_ends_without_a_request : goes_on_by (status.Reacquire 0 2 cause.TimedOut) (what.Acquired 2 ∷ what.EndingInWait 0 2 ∷ []) ≡ false
it_ends_without_a_request = refl

another_wait_is_left : goes_on_by (status.Waiting 0 2) (what.WaitCanceled 1 ∷ []) ≡ false
another_wait_is_left = refl

a_wait_ends_without_its_mutex : goes_on_by (status.Waiting 0 2) (what.EndingCanceled ∷ []) ≡ false
a_wait_ends_without_its_mutex = refl

a_wait_is_left_once : goes_on_by (status.Reacquire 0 2 cause.Canceled) (what.WaitCanceled 0 ∷ []) ≡ false
a_wait_is_left_once = refl

a_signal_is_handed_on : goes_on_by (status.Reacquire 0 2 cause.Signalled) (what.WaitCanceled 0 ∷ what.HandedOn 0 3 ∷ []) ≡ true
a_signal_is_handed_on = refl

another_signal_is_handed_on : goes_on_by (status.Reacquire 0 2 cause.Signalled) (what.WaitCanceled 0 ∷ what.HandedOn 1 3 ∷ []) ≡ false
another_signal_is_handed_on = refl

a_broadcast_is_handed_on : goes_on_by (status.Reacquire 0 2 cause.Broadcast) (what.WaitCanceled 0 ∷ what.HandedOn 0 3 ∷ []) ≡ false
a_broadcast_is_handed_on = refl

a_thread_ends_in_another_wait : goes_on_by (status.Reacquire 0 2 cause.Canceled) (what.Acquired 2 ∷ what.EndingInWait 1 2 ∷ []) ≡ false
a_thread_ends_in_another_wait = refl

a_thread_that_was_not_canceled_ends : goes_on_by (status.Reacquire 0 2 cause.Signalled) (what.Acquired 2 ∷ what.EndingInWait 0 2 ∷ []) ≡ false
a_thread_that_was_not_canceled_ends = refl

a_fork_returns : goes_on_by in_fork [] ≡ true
a_fork_returns = refl

a_fork_returns_by_an_emit : goes_on_by in_fork (what.Emit 1 ∷ []) ≡ false
a_fork_returns_by_an_emit = refl

an_end_has_its_stages : goes_on_by status.Ending (what.EndedWith 5 ∷ what.ExitBegun 0 ∷ []) ≡ true
an_end_has_its_stages = refl

an_end_stands_still : goes_on_by status.Ending [] ≡ false
an_end_stands_still = refl

an_exit_emits : goes_on_by status.Exiting (what.Emit 1 ∷ []) ≡ false
an_exit_emits = refl

-- ---- steps

-- `main` is at a statement, with this status
abbrev at : ℕ → Status → Thread
at pc s = record (new_thread 1 false (record (frame kind.Main) { pc = pc })) { status = s }

abbrev process : Process
process = record (first_process script) { threads = threads }

abbrev step : Thread → List What → Thread → ThreadStep
step before events after = record { pid = 1; tid = 1; earlier = []; process = process; before = before; process_after = process; after = after; events = events }

emit_step : says_statement 4 script (step (at 1 status.Running) (what.Emit 5 ∷ []) (at 2 status.Running)) ≡ true
unfolding runs_on_literals
emit_step = refl

a_step_without_its_event : says_statement 4 script (step (at 1 status.Running) [] (at 2 status.Running)) ≡ false
unfolding runs_on_literals
a_step_without_its_event = refl

or_with_that_of_another_statement : says_statement 4 script (step (at 1 status.Running) (what.Called join_point ∷ []) (at 1 (status.Joining 3))) ≡ false
unfolding runs_on_literals
or_with_that_of_another_statement = refl

a_stop_has_its_own_event : says_statement 4 script (step (at 1 status.Running) (what.Stopped why.AsyncCall ∷ []) (at 1 status.Running)) ≡ true
a_stop_has_its_own_event = refl

as_a_request_has : says_statement 4 script (step (at 0 status.Running) (what.EndingCanceled ∷ []) (record (at 0 status.Ending) { frames = [] })) ≡ true
as_a_request_has = refl

a_thread_without_a_statement_makes_no_step : says_statement 4 script (step (at 3 status.Running) [] (at 3 status.Running)) ≡ false
unfolding runs_on_literals
a_thread_without_a_statement_makes_no_step = refl

a_suspended_thread_makes_other_events : says_statement 4 script (step (at 0 (status.Joining 3)) (what.Joined 3 5 ∷ []) (at 1 status.Running)) ≡ true
a_suspended_thread_makes_other_events = refl

join_step : suspends_by_call script (step (at 0 status.Running) (what.Called join_point ∷ []) (at 0 (status.Joining 3))) ≡ true
unfolding runs_on_literals
join_step = refl

a_join_that_names_another_thread : suspends_by_call script (step (at 0 status.Running) (what.Called join_point ∷ []) (at 0 (status.Joining 2))) ≡ false
unfolding runs_on_literals
a_join_that_names_another_thread = refl
