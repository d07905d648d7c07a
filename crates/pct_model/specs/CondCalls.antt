-- Condition variables (XSH pthread_cond_wait, pthread_cond_timedwait, pthread_cond_signal, pthread_cond_broadcast). There is no clock: that
-- the time of a wait expires is a choice of the scheduler (ChoiceTable.antt). `next` is the pc of the next statement.
use Rattle.std.specs.Prelude.{ℕ, suc, Bool, false, if◌then◌else◌, [], ◌∷◌, nat_eq, Some}
use Rattle.pct_model.specs.declared.event.Caller.TheVariants as caller
use Rattle.pct_model.specs.declared.event.What.TheVariants as what
use Rattle.pct_model.specs.declared.numbers.TheConstants.{ETIMEDOUT}
use Rattle.pct_model.specs.declared.point.TheConstants.{COND_WAIT_POINT, COND_TIMEDWAIT_POINT}
use Rattle.pct_model.specs.declared.schedule.Alt.{Alt}
use Rattle.pct_model.specs.declared.schedule.Alt.TheVariants as alt
use Rattle.pct_model.specs.declared.state.Cause.{Cause}
use Rattle.pct_model.specs.declared.state.Cause.TheVariants as cause
use Rattle.pct_model.specs.declared.state.Reason.TheVariants.{Canceled}
use Rattle.pct_model.specs.declared.state.Status.{Status}
use Rattle.pct_model.specs.declared.state.Status.TheVariants as status
use Rattle.pct_model.specs.declared.statement.Stmt.TheVariants as statement
use Rattle.pct_model.specs.declared.transition.NamedAction.TheVariants as named_action
use Rattle.pct_model.specs.declared.transition.OwnAction.TheVariants as own_action
use Rattle.pct_model.specs.declared.transition.SharedAction.TheVariants as shared_action
use Rattle.pct_model.specs.declared.transition.Transition.{Transition}
use Rattle.pct_model.specs.NextStatement.{NextStatement, StatementIn}
use Rattle.pct_model.specs.Transitions.{goes_on, acts, no_change}

-- the index of pthread_cond_wait in the table of cancellation points
abbrev pub cond_wait_point : ℕ
cond_wait_point = COND_WAIT_POINT

-- the index of pthread_cond_timedwait in this table
abbrev pub cond_timedwait_point : ℕ
cond_timedwait_point = COND_TIMEDWAIT_POINT

-- ---- unblocking

-- the status is that of a thread that waits on condition variable c
abbrev pub is_waiting_on : ℕ → Status → Bool
is_waiting_on c (status.Waiting cond m) = nat_eq cond c
is_waiting_on c _ = false

-- the status of a thread, after a signal or a broadcast unblocked it if it waited: it returns once it owns its mutex again
abbrev pub unblocked : Cause → Status → Status
unblocked why (status.Waiting c m) = status.Reacquire c m why
unblocked why s = s

-- ---- pthread_cond_wait, pthread_cond_timedwait

-- the thread calls the function with an index in the table of cancellation points: it releases mutex m and blocks on condition variable c,
-- atomically
unfoldable pub begins_wait : (point c m : ℕ) → Transition
begins_wait point c m = record (acts (what.Called point ∷ what.Released m ∷ [])) { own = Some (own_action.SetStatus (status.Waiting c m)); shared = Some (shared_action.OwnMutex m 0) }

-- the time of a wait expires: the thread is unblocked (XSH pthread_cond_timedwait)
unfoldable pub expires : ℕ → ℕ → Transition
expires c m = record (acts (what.WaitExpired c ∷ [])) { own = Some (own_action.SetStatus (status.Reacquire c m cause.TimedOut)) }

-- a thread that was unblocked owns its mutex again, and returns: with ETIMEDOUT if its time expired, and else with 0, which
-- pthread_cond_wait drops; or, if it acted upon a request, it begins to end, so that it owns the mutex before its first cleanup handler (XSH
-- pthread_cond_wait)
unfoldable pub reacquires : (id c m : ℕ) → Cause → NextStatement → Transition
reacquires id c m cause.Canceled next = record (acts (what.Acquired m ∷ what.EndingInWait c m ∷ [])) { own = Some (own_action.BeginEnd Canceled); shared = Some (shared_action.OwnMutex m id) }
reacquires id c m cause.TimedOut (StatementIn frame (statement.CondTimedWait result cond mutex)) =
    record (goes_on (suc frame.pc) (what.Acquired m ∷ what.Answer caller.CondTimedWait ETIMEDOUT ∷ [])) { writes = (result, ETIMEDOUT) ∷ []; shared = Some (shared_action.OwnMutex m id) }
reacquires id c m cause.TimedOut next = no_change
reacquires id c m why (StatementIn frame (statement.CondWait cond mutex)) =
    record (goes_on (suc frame.pc) (what.Acquired m ∷ what.Done cond_wait_point ∷ [])) { shared = Some (shared_action.OwnMutex m id) }
reacquires id c m why (StatementIn frame (statement.CondTimedWait result cond mutex)) =
    record (goes_on (suc frame.pc) (what.Acquired m ∷ what.Done cond_timedwait_point ∷ [])) { writes = (result, 0) ∷ []; shared = Some (shared_action.OwnMutex m id) }
reacquires id c m why next = no_change

-- a thread in a wait acts upon a request: before it begins to end, it waits until it owns the mutex again (XSH pthread_cond_wait)
unfoldable pub leaves_wait : ℕ → ℕ → Transition
leaves_wait c m = record (acts (what.WaitCanceled c ∷ [])) { own = Some (own_action.SetStatus (status.Reacquire c m cause.Canceled)) }

-- a thread that a signal unblocked acts upon a request: it must not consume the signal if other threads are blocked on the condition
-- variable (XSH pthread_cond_wait). This host hands it on to the thread with id u, where u is not 0
unfoldable pub hands_on : (u c m : ℕ) → Transition
hands_on u c m = if nat_eq u 0 then leaves_wait c m else record (acts (what.WaitCanceled c ∷ what.HandedOn c u ∷ [])) { own = Some (own_action.SetStatus (status.Reacquire c m cause.Canceled)); named = Some (named_action.Wake u) }

-- ---- pthread_cond_signal, pthread_cond_broadcast

-- a signal unblocks one of the threads that wait (the standard: at least one), which the scheduler chooses; if none waits, it has no
-- effect
unfoldable pub signals_by : Alt → ℕ → ℕ → Transition
signals_by (alt.Pick u) next c = record (goes_on next (what.Signalled c u ∷ [])) { named = Some (named_action.Wake u) }
signals_by alt.Go next c = goes_on next (what.Signalled c 0 ∷ [])
signals_by _ next c = no_change

-- a broadcast unblocks all threads that wait; the event has their number
unfoldable pub broadcasts : (next c waiting : ℕ) → Transition
broadcasts next c waiting = record (goes_on next (what.BroadcastTo c waiting ∷ [])) { named = Some (named_action.WakeAll c) }
