-- What the status of a thread, and its next statement, say of it.
use Rattle.std.specs.Prelude.{Bool, true, false, is_some}
use Rattle.pct_model.specs.declared.state.Cause.TheVariants as cause
use Rattle.pct_model.specs.declared.state.Status.{Status}
use Rattle.pct_model.specs.declared.state.Status.TheVariants as status
use Rattle.pct_model.specs.CancelCalls.{called_kind}
use Rattle.pct_model.specs.NextStatement.{NextStatement, NoStatement, StatementIn}

-- ---- statuses

-- a thread with this status has no frame
abbrev pub has_no_frame : Status → Bool
has_no_frame status.Ending = true
has_no_frame status.Exiting = true
has_no_frame (status.Ended v) = true
has_no_frame _ = false

-- a thread with this status is in fork
abbrev pub is_forking : Status → Bool
is_forking (status.Forking at) = true
is_forking _ = false

-- a thread with this status acted upon a request in a condition wait, and does not own its mutex yet
abbrev pub has_left_wait : Status → Bool
has_left_wait (status.Reacquire c m cause.Canceled) = true
has_left_wait _ = false

-- ---- cancellation points

-- the next statement calls a function that is a cancellation point
abbrev pub calls_cancellation_point : NextStatement → Bool
calls_cancellation_point NoStatement = false
calls_cancellation_point (StatementIn frame s) = is_some (called_kind s)

-- a thread with this status and next statement is at a cancellation point: it calls one, or is suspended in one
abbrev pub is_at_cancellation_point : NextStatement → Status → Bool
is_at_cancellation_point next status.Running = calls_cancellation_point next
is_at_cancellation_point next (status.AtPoint index) = true
is_at_cancellation_point next (status.Joining id) = true
is_at_cancellation_point next (status.InSem s) = true
is_at_cancellation_point next (status.InWaitPid pid) = true
is_at_cancellation_point next (status.Waiting c m) = true
is_at_cancellation_point next (status.Reacquire c m why) = true
is_at_cancellation_point next _ = false
