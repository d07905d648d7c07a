-- The condition waits of a thread, as its own events report them (XSH pthread_cond_wait, pthread_cond_timedwait). The events are listed
-- newest first, as in the trace of a run.
use Rattle.std.specs.Prelude.{ℕ, Bool, true, false, ◌&&◌, ◌||◌, if◌then◌else◌, List, [], ◌∷◌, nat_eq}
use Rattle.pct_model.specs.declared.event.Caller.TheVariants as caller
use Rattle.pct_model.specs.declared.event.Event.{Event}
use Rattle.pct_model.specs.declared.event.What.{What}
use Rattle.pct_model.specs.declared.event.What.TheVariants as what
use Rattle.pct_model.specs.declared.numbers.TheConstants.{ETIMEDOUT}
use Rattle.pct_model.specs.CondCalls.{cond_wait_point, cond_timedwait_point}
use Rattle.pct_laws.specs.declared.stage.WaitStage.{WaitStage}
use Rattle.pct_laws.specs.declared.stage.WaitStage.TheVariants.{NoWait, AtCall, InWait, ToReturn, Expired, ToTimeOut, Leaving, Left, ToEnd}
use Rattle.pct_laws.specs.KnownThreads.{is_own}

-- the stage at the call of a cancellation point
abbrev pub stage_at_call : ℕ → WaitStage
stage_at_call index = if nat_eq index cond_wait_point then AtCall false else if nat_eq index cond_timedwait_point then AtCall true else NoWait

-- the stage after an event of the thread
abbrev pub stage_after : What → WaitStage → WaitStage
stage_after (what.Called index) stage = stage_at_call index
stage_after (what.Released m) (AtCall timed) = InWait timed m
stage_after (what.Acquired mutex) (InWait timed m) = ToReturn timed
stage_after (what.WaitExpired c) (InWait true m) = Expired c m
stage_after (what.WaitCanceled c) (InWait timed m) = Leaving timed c m
stage_after (what.Acquired mutex) (Expired c m) = ToTimeOut
stage_after (what.WaitCanceled cond) (Expired c m) = Left true c m
stage_after (what.HandedOn cond u) (Leaving timed c m) = if nat_eq cond c then Left timed c m else NoWait
stage_after (what.Acquired mutex) (Leaving timed c m) = ToEnd c m
stage_after (what.Acquired mutex) (Left timed c m) = ToEnd c m
stage_after _ _ = NoWait

-- the stage of thread tid of process pid
abbrev pub wait_stage : ℕ → ℕ → List Event → WaitStage
wait_stage pid tid [] = NoWait
wait_stage pid tid (e ∷ earlier) = if is_own pid tid e then stage_after e.what (wait_stage pid tid earlier) else wait_stage pid tid earlier

-- ---- what may come next

-- the event is that mutex m is acquired
abbrev pub acquires : ℕ → What → Bool
acquires m (what.Acquired mutex) = nat_eq mutex m
acquires m _ = false

-- the event is that a request was acted upon in a condition wait
abbrev pub cancels_wait : What → Bool
cancels_wait (what.WaitCanceled c) = true
cancels_wait _ = false

-- the event is that a request was acted upon in a wait on condition variable c
abbrev pub cancels_wait_on : ℕ → What → Bool
cancels_wait_on c (what.WaitCanceled cond) = nat_eq cond c
cancels_wait_on c _ = false

-- the event is that the time of a wait expired
abbrev pub expires_wait : What → Bool
expires_wait (what.WaitExpired c) = true
expires_wait _ = false

-- the event is that a signal of condition variable c is handed on
abbrev pub hands_on_signal : ℕ → What → Bool
hands_on_signal c (what.HandedOn cond u) = nat_eq cond c
hands_on_signal c _ = false

-- the index of pthread_cond_wait or, with the flag, of pthread_cond_timedwait in the table of cancellation points
abbrev pub wait_point : Bool → ℕ
wait_point false = cond_wait_point
wait_point true = cond_timedwait_point

-- the event is that this function returns, without an error
abbrev pub returns_from_wait : Bool → What → Bool
returns_from_wait timed (what.Done index) = nat_eq index (wait_point timed)
returns_from_wait timed _ = false

-- the event is that pthread_cond_timedwait returns ETIMEDOUT
abbrev pub returns_timed_out : What → Bool
returns_timed_out (what.Answer caller.CondTimedWait n) = nat_eq n ETIMEDOUT
returns_timed_out _ = false

-- the event is the ending event of a thread that was canceled in a wait on condition variable c with mutex m
abbrev pub ends_in_wait : ℕ → ℕ → What → Bool
ends_in_wait c m (what.EndingInWait cond mutex) = nat_eq cond c && nat_eq mutex m
ends_in_wait c m _ = false

-- the event may be the next one of a thread at a stage. A wait that released its mutex goes on in one of these ways: the thread acquires the
-- mutex and returns; or the time of its wait expires, if it has one, and it acquires the mutex and returns ETIMEDOUT; or it acts upon a
-- request, may hand on a signal, unless its time expired before, acquires the mutex and begins to end
abbrev pub may_follow_stage : WaitStage → What → Bool
may_follow_stage NoWait event = true
may_follow_stage (AtCall timed) event = true
may_follow_stage (InWait timed m) event = acquires m event || cancels_wait event || (timed && expires_wait event)
may_follow_stage (ToReturn timed) event = returns_from_wait timed event
may_follow_stage (Expired c m) event = acquires m event || cancels_wait_on c event
may_follow_stage ToTimeOut event = returns_timed_out event
may_follow_stage (Leaving timed c m) event = acquires m event || hands_on_signal c event
may_follow_stage (Left timed c m) event = acquires m event
may_follow_stage (ToEnd c m) event = ends_in_wait c m event
