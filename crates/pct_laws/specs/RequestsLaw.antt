-- The law of requests: a thread is canceled only by a request, and only with cancelability enabled (XSH pthread_cancel, 2.9.5.1, 2.9.5.3); a
-- thread with cancelability enabled and a request pending returns from no function that it calls then and that shall be a cancellation
-- point, but for pthread_join, whose returns are those of JoinLaw.antt, and is suspended in none: it acts on the request (XSH 2.9.5.2), in
-- a condition wait by the stages of the wait (XSH pthread_cond_wait); and a thread that has begun to end enables cancelability no more (XSH
-- 2.9.5.3). It speaks of the events of a run alone.
use Rattle.std.specs.Prelude.{ℕ, Bool, true, false, not, ◌&&◌, ◌||◌, if◌then◌else◌, List, nat_eq}
use Rattle.pct_model.specs.declared.event.Caller.TheVariants as caller
use Rattle.pct_model.specs.declared.event.Event.{Event}
use Rattle.pct_model.specs.declared.event.What.{What}
use Rattle.pct_model.specs.declared.event.What.TheVariants as what
use Rattle.pct_model.specs.CancelCalls.{is_required, point_kind, testcancel_point}
use Rattle.pct_laws.specs.CancelEvents.{has_not_begun, has_to_act}
use Rattle.pct_model.specs.CondCalls.{cond_wait_point, cond_timedwait_point}
use Rattle.pct_model.specs.ForkCalls.{waitpid_point}
use Rattle.pct_model.specs.SemCalls.{sem_wait_point, sem_timedwait_point}
use Rattle.pct_model.specs.ThreadCalls.{join_point}
use Rattle.pct_laws.specs.declared.stage.WaitStage.{WaitStage}
use Rattle.pct_laws.specs.declared.stage.WaitStage.TheVariants.{InWait, ToReturn, Expired, ToTimeOut, ToEnd}
use Rattle.pct_laws.specs.WaitStages.{wait_stage}
use Rattle.pct_laws.specs.NewestEvents.{newest_is, reports_call}

-- ---- stages of condition waits

-- the condition wait is unfinished, and no request was acted upon in it
abbrev pub is_in_wait : WaitStage → Bool
is_in_wait (InWait timed m) = true
is_in_wait (Expired c m) = true
is_in_wait _ = false

-- the wait has a time, which has not expired, and it is unfinished
abbrev pub is_in_timed_wait : WaitStage → Bool
is_in_timed_wait (InWait timed m) = timed
is_in_timed_wait _ = false

-- the wait returns next, without an error
abbrev pub is_to_return : WaitStage → Bool
is_to_return (ToReturn timed) = true
is_to_return _ = false

-- the wait returns ETIMEDOUT next
abbrev pub is_to_time_out : WaitStage → Bool
is_to_time_out ToTimeOut = true
is_to_time_out _ = false

-- the wait on this condition variable, with this mutex, was left by a request, and the thread begins to end next
abbrev pub is_to_end : ℕ → ℕ → WaitStage → Bool
is_to_end c m (ToEnd cond mutex) = nat_eq cond c && nat_eq mutex m
is_to_end c m _ = false

-- ---- returns

-- the cancellation point is sem_wait or sem_timedwait
abbrev pub is_sem_wait_point : ℕ → Bool
is_sem_wait_point index = nat_eq index sem_wait_point || nat_eq index sem_timedwait_point

-- the cancellation point is pthread_cond_wait or pthread_cond_timedwait
abbrev pub is_cond_wait_point : ℕ → Bool
is_cond_wait_point index = nat_eq index cond_wait_point || nat_eq index cond_timedwait_point

-- the cancellation point returns by an event of its own, and so by no `done`: pthread_join, sem_wait, sem_timedwait or waitpid
abbrev pub has_own_return : ℕ → Bool
has_own_return index = nat_eq index join_point || is_sem_wait_point index || nat_eq index waitpid_point

-- the event is a call of sem_wait or sem_timedwait
abbrev pub calls_sem_wait : What → Bool
calls_sem_wait (what.Called index) = is_sem_wait_point index
calls_sem_wait _ = false

-- thread tid of process pid may return from a cancellation point by `done`
abbrev pub may_return : (index pid tid : ℕ) → List Event → Bool
may_return index pid tid earlier =
    -- its return is no other event
    if has_own_return index then false
    -- pthread_testcancel returns only if there is no request to act upon
    else if nat_eq index testcancel_point then not (has_to_act pid tid earlier)
    -- a condition wait returns at its end
    else if is_cond_wait_point index then is_to_return (wait_stage pid tid earlier)
    -- and another point that shall be one directly after its call; an optional point has no event of its call
    else not (is_required (point_kind index)) || newest_is (reports_call index) pid tid earlier

-- ---- the law

-- what the law asks of an event of thread tid of process pid, by those before it
abbrev pub may_act : What → ℕ → ℕ → List Event → Bool
-- a thread acts on a request that came, with cancelability enabled
may_act what.EndingCanceled pid tid earlier = has_to_act pid tid earlier
-- it does so in a condition wait, and begins to end as the wait is left with its mutex owned
may_act (what.WaitCanceled c) pid tid earlier = has_to_act pid tid earlier && is_in_wait (wait_stage pid tid earlier)
may_act (what.EndingInWait c m) pid tid earlier = has_to_act pid tid earlier && is_to_end c m (wait_stage pid tid earlier)
-- it calls no function that shall be a cancellation point, but acts on the request
may_act (what.Called index) pid tid earlier = not (has_to_act pid tid earlier)
-- it returns from such a function only if it called it before
may_act (what.Done index) pid tid earlier = may_return index pid tid earlier
may_act (what.Taken s) pid tid earlier = newest_is calls_sem_wait pid tid earlier
may_act (what.Answer caller.SemTimedWait n) pid tid earlier = newest_is (reports_call sem_timedwait_point) pid tid earlier
-- pthread_cond_timedwait returns ETIMEDOUT only after its time expired, which it does in its wait alone
may_act (what.Answer caller.CondTimedWait n) pid tid earlier = is_to_time_out (wait_stage pid tid earlier)
may_act (what.WaitExpired c) pid tid earlier = is_in_timed_wait (wait_stage pid tid earlier)
may_act (what.Reaped q n) pid tid earlier = newest_is (reports_call waitpid_point) pid tid earlier
-- with a request to act upon, it returns from waitpid without a child only if it called waitpid before
may_act (what.Answer caller.WaitPid n) pid tid earlier = not (has_to_act pid tid earlier) || newest_is (reports_call waitpid_point) pid tid earlier
-- it enables its cancelability only before it begins to end
may_act (what.StateSet true) pid tid earlier = has_not_begun pid tid earlier
-- the law asks nothing of the other events
may_act _ pid tid earlier = true

-- an event may come after those before it
abbrev pub allows : Event → List Event → Bool
allows e earlier = may_act e.what e.pid e.tid earlier
