-- The transition that a choice makes. It is defined for each statement and status: what no run reaches changes nothing; legality
-- (Step.antt) admits only choices of ChoiceTable.antt.
use Rattle.std.specs.Prelude.{ℕ, suc, List, length, slice_index, Option, Some, None}
use Rattle.pct_model.specs.declared.script.Script.{Script}
use Rattle.pct_model.specs.declared.statement.Operand.{Operand}
use Rattle.pct_model.specs.declared.statement.Stmt.{Stmt}
use Rattle.pct_model.specs.declared.statement.Stmt.TheVariants as statement
use Rattle.pct_model.specs.declared.schedule.Alt.{Alt}
use Rattle.pct_model.specs.declared.schedule.Alt.TheVariants as alt
use Rattle.pct_model.specs.declared.schedule.Config.{Config}
use Rattle.pct_model.specs.declared.frame.Frame.{Frame}
use Rattle.pct_model.specs.declared.state.ForkAt.{ForkAt}
use Rattle.pct_model.specs.declared.state.Status.{Status}
use Rattle.pct_model.specs.declared.state.Status.TheVariants as status
use Rattle.pct_model.specs.declared.stop.Why.{Why}
use Rattle.pct_model.specs.declared.transition.Transition.{Transition}
use Rattle.pct_model.specs.Jumps.{open_of}
use Rattle.pct_model.specs.World.{Thread, SharedState, Process, World, value_of}
use Rattle.pct_model.specs.NextStatement.{NextStatement, StatementIn, next_of, body_at}
use Rattle.pct_model.specs.Environment.{Environment, exit_value_with, environment_of}
use Rattle.pct_model.specs.Transitions.{no_change, stops}
use Rattle.pct_model.specs.ScriptStatements.{jumps, emits, sets, adds, variable_value, calls, after_block, after_test, after_end}
use Rattle.pct_model.specs.CleanupHandlers.{pushes, pops}
use Rattle.pct_model.specs.CancelCalls.{requests, sets_state, sets_mode, tests_cancel, calls_point, point_kind, passes_point, acts_on_request}
use Rattle.pct_model.specs.Keys.{key_place, value_at}
use Rattle.pct_model.specs.KeyCalls.{creates_key_by, deletes_key, sets_specific, gets_specific}
use Rattle.pct_model.specs.MutexCalls.{locks, unlocks}
use Rattle.pct_model.specs.CondCalls.{cond_wait_point, cond_timedwait_point, begins_wait, expires, reacquires, signals_by, broadcasts}
use Rattle.pct_model.specs.SemCalls.{sem_wait_point, sem_timedwait_point, begins_sem_wait, ends_sem_wait, posts}
use Rattle.pct_model.specs.OnceCalls.{once_at, calls_once}
use Rattle.pct_model.specs.ForkCalls.{registers_fork, begins_fork, next_handler, goes_on_forking, begins_waitpid, waits_at}
use Rattle.pct_model.specs.ThreadCalls.{creates_by, begins_join, joins_at, detaches, gets_self}
use Rattle.pct_model.specs.ThreadEnds.{ends_by_exit, goes_on_ending}
use Rattle.pct_model.specs.ProcessExit.{exits, returns_by, ends_now, goes_on_exiting, may_register, registers_if}
use Rattle.pct_model.specs.StopTable.{stop_at}

-- `end`: that of a block, by the pc where it opens, or that of the function, which returns 0
abbrev pub ends_block : Option ℕ → Option ForkAt → List Stmt → Frame → Transition
ends_block (Some opened) kept body frame = jumps (after_end body frame.pc opened)
ends_block None kept body frame = returns_by kept frame.kind 0

-- the stop, if there is one
abbrev pub stops_or : Option Why → Transition → Transition
stops_or (Some why) other = stops why
stops_or None other = other

-- ---- the table

module _ (passes : ℕ) (body : List Stmt) (shared : SharedState) (t : Thread) (environment : Environment) (choice : Alt) where
  -- the value of an operand
  abbrev pub value : Frame → Operand → ℕ
  value frame operand = value_of shared.globals frame operand

  -- a running thread at a statement that does not stop
  unfoldable pub runs : Frame → Stmt → Transition
  -- the script language. XSH pthread_create: a return from the start routine acts as pthread_exit, one from `main` as exit
  runs frame (statement.Emit v) = emits (suc frame.pc) (value frame v)
  runs frame (statement.Set d v) = sets (suc frame.pc) d (value frame v)
  runs frame (statement.Add d v) = adds (suc frame.pc) d (variable_value shared.globals frame d) (value frame v)
  runs frame statement.Nop = jumps (suc frame.pc)
  runs frame (statement.If v) = jumps (after_test body frame.pc (value frame v))
  runs frame statement.Else = jumps (after_block body frame.pc)
  runs frame (statement.While v) = jumps (after_test body frame.pc (value frame v))
  runs frame statement.End = ends_block (open_of body frame.pc) t.kept body frame
  runs frame (statement.Do f v) = calls (suc frame.pc) f (value frame v)
  runs frame (statement.Return v) = returns_by t.kept frame.kind (value frame v)
  -- XSH pthread_create, pthread_join, pthread_detach. A join is two transitions, its call and its return, also if the target has
  -- ended; it never fails with EDEADLK; the id is stored before the new thread runs: choices of this host
  runs frame (statement.Create result id f v detached) = creates_by choice (suc frame.pc) result id f (value frame v) detached
  runs frame (statement.Join id d) = begins_join (value frame id)
  runs frame (statement.Detach id) = detaches (suc frame.pc) (value frame id)
  -- XSH pthread_cancel, pthread_self, pthread_exit
  runs frame (statement.CancelThread id) = requests (suc frame.pc) (value frame id)
  runs frame (statement.SelfId d) = gets_self (suc frame.pc) d t.id
  runs frame (statement.ThreadExit v) = ends_by_exit (value frame v)
  -- XSH pthread_testcancel, pthread_setcancelstate
  runs frame statement.TestCancel = tests_cancel (suc frame.pc)
  runs frame (statement.SetState enable old) = sets_state (suc frame.pc) enable old t.state
  runs frame (statement.SetMode asynchronous old) = sets_mode (suc frame.pc) asynchronous old t.mode
  -- XSH pthread_cleanup_pop
  runs frame (statement.Push f v) = pushes (suc frame.pc) f (value frame v)
  runs frame (statement.Pop v) = pops (suc frame.pc) (value frame v) t.handlers
  -- XSH pthread_key_create, pthread_key_delete, pthread_getspecific. No call fails with ENOMEM: a choice of this host
  runs frame (statement.KeyCreate result key destructor) = creates_key_by choice (suc frame.pc) result key destructor
  runs frame (statement.KeyDelete key) = deletes_key (suc frame.pc) (value frame key)
  runs frame (statement.SetSpecific key v) = sets_specific (suc frame.pc) (value frame key) (value frame v)
  runs frame (statement.GetSpecific d key) = gets_specific (suc frame.pc) d (value_at (key_place (value frame key)) t.specific)
  -- XSH pthread_mutex_lock, pthread_cond_wait, pthread_cond_timedwait, pthread_cond_signal, sem_wait, sem_timedwait, sem_post
  runs frame (statement.Lock m) = locks (suc frame.pc) m t.id
  runs frame (statement.Unlock m) = unlocks (suc frame.pc) m
  runs frame (statement.CondWait c m) = begins_wait cond_wait_point c m
  runs frame (statement.CondTimedWait result c m) = begins_wait cond_timedwait_point c m
  runs frame (statement.Signal c) = signals_by choice (suc frame.pc) c
  runs frame (statement.Broadcast c) = broadcasts (suc frame.pc) c (length (environment.waiters c))
  runs frame (statement.SemWait s) = begins_sem_wait sem_wait_point s
  runs frame (statement.SemTimedWait result s) = begins_sem_wait sem_timedwait_point s
  runs frame (statement.SemPost s) = posts (suc frame.pc) s (slice_index shared.counts s)
  -- XSH pthread_once. The routine gets 0 as its argument, a choice of this host
  runs frame (statement.CallOnce o f) = calls_once (suc frame.pc) o f t.id (once_at shared.onces o)
  -- XSH pthread_atfork, fork, waitpid
  runs frame (statement.AtFork result prepare parent child) = registers_fork (length shared.fork_handlers) (suc frame.pc) result (record { prepare = prepare; parent = parent; child = child })
  runs frame (statement.Fork result child) = begins_fork (length shared.fork_handlers)
  runs frame (statement.WaitPid result pid d) = begins_waitpid (environment.family.child (value frame pid)) (value frame pid) (suc frame.pc) result
  -- XSH atexit, exit, _exit
  runs frame (statement.AtExit result f) = registers_if (may_register shared) (suc frame.pc) result f
  runs frame (statement.ProcExit v) = exits (value frame v)
  runs frame (statement.ProcExitNow v) = ends_now (value frame v)
  -- XSH 2.9.5.2. A thread is suspended at each generic point that is required, and never at an optional one: a choice of this host
  runs frame (statement.PointCall index) = calls_point (suc frame.pc) index (point_kind index)

  -- what a thread does as it goes on by the choice, by its status
  unfoldable pub transition_at : NextStatement → Status → Transition
  -- the stop, or what the statement does
  transition_at (StatementIn frame s) status.Running = stops_or (stop_at body shared t environment frame s) (runs frame s)
  -- XSH 2.9.5.2: the event that the thread waits for has occurred
  transition_at next (status.AtPoint index) = passes_point index next
  -- XSH pthread_join: the target has terminated
  transition_at next (status.Joining id) = joins_at (exit_value_with id environment) id next
  -- XSH sem_wait, sem_timedwait: the count is above 0, or the time expires
  transition_at next (status.InSem s) = ends_sem_wait choice s (slice_index shared.counts s) next
  -- XSH waitpid: the child has ended, or there is no such child any more
  transition_at next (status.InWaitPid pid) = waits_at (environment.family.child pid) pid next
  -- XSH pthread_cond_timedwait: the time expires
  transition_at next (status.Waiting c m) = expires c m
  -- XSH pthread_cond_wait: the mutex has no owner
  transition_at next (status.Reacquire c m why) = reacquires t.id c m why next
  -- XSH 2.9.5.3, pthread_exit, pthread_key_create: cleanup handlers, then destructors, then the end
  transition_at next status.Ending = goes_on_ending environment.is_last passes shared.keys t choice t.handlers
  -- XSH fork
  transition_at next (status.Forking at) = goes_on_forking (next_handler shared.fork_handlers at) at environment.family.new_pid next
  -- XSH exit
  transition_at next status.Exiting = goes_on_exiting shared.exit_functions shared.exit_value
  -- no choice by which it goes on is offered to any other thread (ChoiceTable.antt)
  transition_at next _ = no_change

-- by the choice `act` a thread acts upon a request, and by every other choice it goes on
abbrev pub acts_or : Alt → Status → Transition → Transition
acts_or (alt.Act n) s goes = acts_on_request n s
acts_or _ s goes = goes

-- what a thread of a process does by a choice, in a state
abbrev pub transition_by : Script → Config → World → Process → Thread → Alt → Transition
transition_by script config w p t choice = acts_or choice t.status (transition_at config.passes (body_at script t.frames) p.shared t (environment_of config w p t.id) choice (next_of script t.frames) t.status)
