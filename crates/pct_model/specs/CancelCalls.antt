-- Cancellation: requests, cancelability and cancellation points (XSH 2.9.5, pthread_cancel, pthread_setcancelstate,
-- pthread_testcancel). `next` is the pc of the next statement.
use Rattle.std.specs.Prelude.{ℕ, suc, Bool, true, false, [], ◌∷◌, Option, Some, None, option_map}
use Rattle.std.specs.Option.{option_map_or}
use Rattle.pct_model.specs.declared.event.What.TheVariants as what
use Rattle.pct_model.specs.declared.point.PointKind.{PointKind}
use Rattle.pct_model.specs.declared.point.PointKind.TheVariants as kinds
use Rattle.pct_model.specs.declared.point.PointWait.{PointWait}
use Rattle.pct_model.specs.declared.point.PointWait.TheVariants as wait
use Rattle.pct_model.specs.declared.point.TheConstants.{TESTCANCEL_POINT}
use Rattle.pct_model.specs.declared.state.Cause.TheVariants as cause
use Rattle.pct_model.specs.declared.state.Mode.{Mode}
use Rattle.pct_model.specs.declared.state.Mode.TheVariants.{Deferred, Asynchronous}
use Rattle.pct_model.specs.declared.state.Reason.TheVariants.{Canceled}
use Rattle.pct_model.specs.declared.state.State.{State}
use Rattle.pct_model.specs.declared.state.State.TheVariants.{Enable, Disable}
use Rattle.pct_model.specs.declared.state.Status.{Status}
use Rattle.pct_model.specs.declared.state.Status.TheVariants as status
use Rattle.pct_model.specs.declared.statement.Dest.{Dest}
use Rattle.pct_model.specs.declared.statement.Stmt.{Stmt}
use Rattle.pct_model.specs.declared.statement.Stmt.TheVariants as statement
use Rattle.pct_model.specs.declared.transition.NamedAction.TheVariants as named_action
use Rattle.pct_model.specs.declared.transition.OwnAction.TheVariants as own_action
use Rattle.pct_model.specs.declared.transition.Transition.{Transition}
use Rattle.pct_model.specs.NextStatement.{NextStatement, StatementIn}
use Rattle.pct_model.specs.Points.{point_at}
use Rattle.pct_model.specs.ThreadCalls.{join_point}
use Rattle.pct_model.specs.CondCalls.{cond_wait_point, cond_timedwait_point, leaves_wait, hands_on}
use Rattle.pct_model.specs.SemCalls.{sem_wait_point, sem_timedwait_point}
use Rattle.pct_model.specs.ForkCalls.{waitpid_point}
use Rattle.pct_model.specs.Transitions.{goes_on, acts, no_change}

-- ---- pthread_cancel

-- a request for the thread with an id
unfoldable pub requests : ℕ → ℕ → Transition
requests next id = record (goes_on next (what.Request id ∷ [])) { named = Some (named_action.Request id) }

-- ---- pthread_setcancelstate, pthread_setcanceltype

-- the number of a state: in this host PTHREAD_CANCEL_ENABLE is 0, and PTHREAD_CANCEL_DISABLE is 1
abbrev pub state_number : State → ℕ
state_number Enable = 0
state_number Disable = 1

-- the number of a type: in this host PTHREAD_CANCEL_DEFERRED is 0, and PTHREAD_CANCEL_ASYNCHRONOUS is 1
abbrev pub mode_number : Mode → ℕ
mode_number Deferred = 0
mode_number Asynchronous = 1

-- enabled, or disabled
abbrev pub state_if : Bool → State
state_if true = Enable
state_if false = Disable

-- asynchronous, or deferred
abbrev pub mode_if : Bool → Mode
mode_if true = Asynchronous
mode_if false = Deferred

-- pthread_setcancelstate, in a thread with a state: the previous state is written to `old`
unfoldable pub sets_state : ℕ → Bool → Dest → State → Transition
sets_state next enable old state = record (goes_on next (what.StateSet enable ∷ [])) { writes = (old, state_number state) ∷ []; own = Some (own_action.SetState (state_if enable)) }

-- pthread_setcanceltype, in a thread with a type: the previous type is written to `old` (XSH pthread_setcancelstate)
unfoldable pub sets_mode : ℕ → Bool → Dest → Mode → Transition
sets_mode next asynchronous old mode = record (goes_on next (what.ModeSet asynchronous ∷ [])) { writes = (old, mode_number mode) ∷ []; own = Some (own_action.SetMode (mode_if asynchronous)) }

-- ---- cancellation points

-- the index of pthread_testcancel in the table of cancellation points
abbrev pub testcancel_point : ℕ
testcancel_point = TESTCANCEL_POINT

-- pthread_testcancel, where no request is acted upon: the thread goes on
unfoldable pub tests_cancel : ℕ → Transition
tests_cancel next = goes_on next (what.Done testcancel_point ∷ [])

-- the kind of the cancellation point with an index, if there is one
unfoldable pub point_kind : ℕ → Option PointKind
point_kind index = option_map (λ point. point.kind) (point_at index)

-- the kind of the cancellation point that a statement calls, if it calls one
unfoldable pub called_kind : Stmt → Option PointKind
called_kind (statement.Join id d) = point_kind join_point
called_kind (statement.CondWait c m) = point_kind cond_wait_point
called_kind (statement.CondTimedWait result c m) = point_kind cond_timedwait_point
called_kind (statement.SemWait s) = point_kind sem_wait_point
called_kind (statement.SemTimedWait result s) = point_kind sem_timedwait_point
called_kind (statement.WaitPid result pid value) = point_kind waitpid_point
called_kind statement.TestCancel = point_kind testcancel_point
called_kind (statement.PointCall index) = point_kind index
called_kind s = None

-- a function of this kind shall be a cancellation point
abbrev pub is_required : Option PointKind → Bool
is_required (Some kinds.Required) = true
is_required _ = false

-- a function of this kind may be a cancellation point
abbrev pub is_optional : Option PointKind → Bool
is_optional (Some kinds.Optional) = true
is_optional _ = false

-- a call of a generic point: in this host a thread is suspended at a required one, and goes on at an optional one
unfoldable pub calls_point : ℕ → ℕ → Option PointKind → Transition
calls_point next index (Some kinds.Required) = record (acts (what.Called index ∷ [])) { own = Some (own_action.SetStatus (status.AtPoint index)) }
calls_point next index (Some kinds.Optional) = goes_on next (what.Done index ∷ [])
calls_point next index None = no_change

-- what a thread at a point waits for may occur at any time
abbrev pub is_outside : PointWait → Bool
is_outside wait.Outside = true
is_outside _ = false

-- a thread that is suspended at the point with an index may return from the call: what it waits for may occur at any time
unfoldable pub may_pass_point : ℕ → Bool
may_pass_point index = option_map_or (λ point. is_outside point.wait) (point_at index) false

-- a thread that is suspended at a point goes on
unfoldable pub passes_point : ℕ → NextStatement → Transition
passes_point index (StatementIn frame (statement.PointCall i)) = goes_on (suc frame.pc) (what.Done index ∷ [])
passes_point index next = no_change

-- ---- acting upon a request

-- a thread acts upon a request, by its status: it begins to end (XSH 2.9.5.3). One that is suspended in pthread_join leaves its
-- target joinable (XSH pthread_join), one in sem_wait leaves the count as it is, and one in waitpid reaps no child. One that is
-- suspended in pthread_cond_wait has to own its mutex first, and a signal that unblocked it is handed on to thread u. That the request
-- stays pending is a choice of this host.
unfoldable pub acts_on_request : ℕ → Status → Transition
acts_on_request u status.Running = record (acts (what.EndingCanceled ∷ [])) { own = Some (own_action.BeginEnd Canceled) }
acts_on_request u (status.AtPoint index) = record (acts (what.EndingCanceled ∷ [])) { own = Some (own_action.BeginEnd Canceled) }
acts_on_request u (status.Joining id) = record (acts (what.EndingCanceled ∷ [])) { own = Some (own_action.BeginEnd Canceled) }
acts_on_request u (status.InSem s) = record (acts (what.EndingCanceled ∷ [])) { own = Some (own_action.BeginEnd Canceled) }
acts_on_request u (status.InWaitPid pid) = record (acts (what.EndingCanceled ∷ [])) { own = Some (own_action.BeginEnd Canceled) }
acts_on_request u (status.Waiting c m) = leaves_wait c m
acts_on_request u (status.Reacquire c m cause.Signalled) = hands_on u c m
acts_on_request u (status.Reacquire c m cause.Broadcast) = leaves_wait c m
acts_on_request u (status.Reacquire c m cause.TimedOut) = leaves_wait c m
acts_on_request u _ = no_change
