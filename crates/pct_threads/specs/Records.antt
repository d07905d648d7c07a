-- The records of threads.
use Rattle.std.specs.Prelude.{ℕ, true, false, [], None}
use Rattle.pct_model.specs.declared.state.State.TheVariants.{Enable}
use Rattle.pct_model.specs.declared.state.Mode.TheVariants.{Deferred}
use Rattle.pct_model.specs.declared.state.Reason.TheVariants as reason
use Rattle.pct_model.specs.declared.state.Status.TheVariants as status
use Rattle.pct_threads.specs.declared.record.Thread.{Thread}

-- the record of a new thread: cancelability enabled and deferred (XSH pthread_setcancelstate), no handlers
abbrev pub new_record : Thread
new_record = record { status = status.Running; cancel = record { state = Enable; mode = Deferred; pending = false }; handlers = []; reason = reason.None; pass = 0; kept = None; ended = false }

-- the record of a thread that has ended with a value
abbrev pub ended_record : ℕ → Thread → Thread
ended_record value thread = record thread { status = status.Ended value; ended = true }
