-- What a thread waits for: the event that has to occur before it has the choice `go`. A thread waits for nothing where
-- the event has occurred, or may occur at any time.
use Rattle.std.specs.Prelude.{ℕ, if◌then◌else◌, List, Option, Some, None, nat_lt, slice_index}
use Rattle.pct_model.specs.declared.schedule.Alt.{Alt}
use Rattle.pct_model.specs.declared.state.OnceState.{OnceState}
use Rattle.pct_model.specs.declared.state.OnceState.TheVariants.{Busy}
use Rattle.pct_model.specs.declared.state.Status.{Status}
use Rattle.pct_model.specs.declared.state.Status.TheVariants as status
use Rattle.pct_model.specs.declared.statement.Stmt.TheVariants as statement
use Rattle.pct_model.specs.CancelCalls.{may_pass_point}
use Rattle.pct_model.specs.ChoiceTable.{is_enabled}
use Rattle.pct_model.specs.MutexCalls.{is_free_mutex}
use Rattle.pct_model.specs.NextStatement.{NextStatement, StatementIn}
use Rattle.pct_model.specs.OnceCalls.{once_at}
use Rattle.pct_model.specs.OtherProcesses.{is_running_child}
use Rattle.pct_model.specs.Environment.{Environment, is_ended_thread}
use Rattle.pct_model.specs.World.{SharedState}
use Rattle.pct_view_laws.specs.declared.wait.Wait.{Wait}
use Rattle.pct_view_laws.specs.declared.wait.Wait.TheVariants as wait

module _ (shared : SharedState) (environment : Environment) where
  -- a thread that needs mutex m waits for it while it has an owner. The owner may be the thread itself, a thread that has ended, or one that
  -- the process did not inherit (XSH pthread_mutex_lock, fork)
  abbrev pub mutex_wait : ℕ → Option Wait
  mutex_wait m = if is_free_mutex m shared then None else Some (wait.Mutex m (slice_index shared.owners m))

  -- what a thread waits for that is not running, by its status
  unfoldable pub wait_in : Status → Option Wait
  wait_in (status.AtPoint index) = if may_pass_point index then None else Some wait.Signal
  -- XSH pthread_join: the target has not terminated
  wait_in (status.Joining id) = if is_ended_thread id environment then None else Some (wait.Thread id)
  -- XSH sem_wait, sem_timedwait: the count is 0
  wait_in (status.InSem s) = if nat_lt 0 (slice_index shared.counts s) then None else Some (wait.Semaphore s)
  -- XSH waitpid: the child has not ended
  wait_in (status.InWaitPid pid) = if is_running_child pid environment.family then Some (wait.Process pid) else None
  -- XSH pthread_cond_wait, pthread_cond_timedwait: until a signal or a broadcast, or until the time expires, and after it until the mutex has
  -- no owner
  wait_in (status.Waiting c m) = Some (wait.Condition c)
  wait_in (status.Reacquire c m why) = mutex_wait m
  wait_in _ = None

  -- a thread that calls pthread_once waits until the init routine returns, which another thread, or it itself, called (XSH pthread_once)
  abbrev pub once_wait : ℕ → OnceState → Option Wait
  once_wait o (Busy id) = Some (wait.Once o id)
  once_wait o _ = None

  -- what a running thread waits for that has no choice. XSH pthread_mutex_lock: the mutex has an owner. XSH pthread_once: the control is busy
  unfoldable pub wait_at : NextStatement → Option Wait
  wait_at (StatementIn frame (statement.Lock m)) = mutex_wait m
  wait_at (StatementIn frame (statement.CallOnce o f)) = once_wait o (once_at shared.onces o)
  wait_at _ = None

  -- what a thread with these choices waits for
  unfoldable pub wait_by : List Alt → NextStatement → Status → Option Wait
  wait_by choices next status.Running = if is_enabled choices then None else wait_at next
  wait_by choices next s = wait_in s
