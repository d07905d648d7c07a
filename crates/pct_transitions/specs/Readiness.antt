-- When a thread has a choice: a condition on the other threads, on what the threads share and on the other processes. The condition is a
-- function of the thread itself, of its next statement, of whether its process is restricted, and of whether the time of a wait may expire.
use Rattle.std.specs.Prelude.{Bool, true, false, not, ◌&&◌, ◌||◌, nat_lt, slice_index}
use Rattle.pct_model.specs.declared.frame.Frame.{Frame}
use Rattle.pct_model.specs.declared.script.Script.{Script}
use Rattle.pct_model.specs.declared.statement.Stmt.{Stmt}
use Rattle.pct_model.specs.declared.statement.Stmt.TheVariants as statement
use Rattle.pct_model.specs.declared.state.Cause.{Cause}
use Rattle.pct_model.specs.declared.state.Cause.TheVariants as cause
use Rattle.pct_model.specs.declared.state.Mode.{Mode}
use Rattle.pct_model.specs.declared.state.State.{State}
use Rattle.pct_model.specs.declared.state.Status.{Status}
use Rattle.pct_model.specs.declared.state.Status.TheVariants as status
use Rattle.pct_model.specs.Cancelability.{is_deliverable, is_asynchronous}
use Rattle.pct_model.specs.CancelCalls.{may_pass_point}
use Rattle.pct_model.specs.ChoiceTable.{is_timed_wait}
use Rattle.pct_model.specs.Environment.{Environment, is_ended_thread}
use Rattle.pct_model.specs.MutexCalls.{is_free_mutex}
use Rattle.pct_model.specs.NextStatement.{NextStatement, NoStatement, StatementIn, next_of}
use Rattle.pct_model.specs.OnceCalls.{once_at, is_busy}
use Rattle.pct_model.specs.OtherProcesses.{is_running_child}
use Rattle.pct_model.specs.StopTable.{is_fork_kind}
use Rattle.pct_model.specs.World.{Thread, SharedState}
use Rattle.pct_transitions.specs.declared.readiness.ReadyWhen.{ReadyWhen}
use Rattle.pct_transitions.specs.declared.readiness.ReadyWhen.TheVariants as ready

-- now, if the test holds, and else under this condition
abbrev pub now_or : Bool → ReadyWhen → ReadyWhen
now_or true when = ready.Now
now_or false when = when

-- a thread that was unblocked by this cause may still act upon a request
abbrev pub leaves_acts : Cause → Bool
leaves_acts cause.Canceled = false
leaves_acts _ = true

-- a running thread, at a statement
unfoldable pub running_when : Bool → State → Mode → Frame → Stmt → ReadyWhen
running_when restricted state mode frame (statement.Lock m) = now_or (is_asynchronous state mode || (restricted && not (is_fork_kind frame.kind))) (ready.MutexFree m)
running_when restricted state mode frame (statement.CallOnce o f) = now_or (is_asynchronous state mode || (restricted && not (is_fork_kind frame.kind))) (ready.OnceNotBusy o)
running_when restricted state mode frame _ = ready.Now

module _ (timeouts restricted : Bool) (state : State) (mode : Mode) (pending : Bool) where
  -- a thread, by its status
  unfoldable pub ready_at : NextStatement → Status → ReadyWhen
  ready_at (StatementIn frame s) status.Running = running_when restricted state mode frame s
  ready_at NoStatement status.Running = ready.Never
  ready_at next (status.AtPoint index) = now_or (may_pass_point index || is_deliverable state pending) ready.Never
  ready_at next (status.Joining id) = now_or (is_deliverable state pending) (ready.ThreadEnded id)
  ready_at next (status.InSem s) = now_or ((timeouts && is_timed_wait next) || is_deliverable state pending) (ready.CountAboveZero s)
  ready_at next (status.InWaitPid pid) = now_or (is_deliverable state pending) (ready.ChildEnded pid)
  ready_at next (status.Waiting c m) = now_or ((timeouts && is_timed_wait next) || is_deliverable state pending) ready.Never
  ready_at next (status.Reacquire c m why) = now_or (is_deliverable state pending && leaves_acts why) (ready.MutexFree m)
  ready_at next status.Ending = ready.Now
  ready_at next (status.Forking at) = ready.Now
  ready_at next status.Exiting = ready.Now
  ready_at next (status.Ended v) = ready.Never

-- the condition holds, by what the threads share and by what the thread sees of the others
abbrev pub is_met : SharedState → Environment → ReadyWhen → Bool
is_met shared environment ready.Never = false
is_met shared environment ready.Now = true
is_met shared environment (ready.MutexFree m) = is_free_mutex m shared
is_met shared environment (ready.CountAboveZero s) = nat_lt 0 (slice_index shared.counts s)
is_met shared environment (ready.OnceNotBusy o) = not (is_busy (once_at shared.onces o))
is_met shared environment (ready.ThreadEnded id) = is_ended_thread id environment
is_met shared environment (ready.ChildEnded pid) = not (is_running_child pid environment.family)

-- when a thread of a script has a choice
abbrev pub ready_when : Script → Bool → Bool → Thread → ReadyWhen
ready_when script timeouts restricted t = ready_at timeouts restricted t.state t.mode t.pending (next_of script t.frames) t.status
