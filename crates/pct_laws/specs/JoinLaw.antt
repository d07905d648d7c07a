-- The law of joins: a join returns in a thread that was suspended in pthread_join, with the value of a thread that has ended, is not
-- detached and was not joined before; and no request and no detach names a thread that is not known, or that has both ended and been
-- joined or detached (XSH 2.9.2, pthread_join, pthread_detach, pthread_cancel). It asks nothing of the call of pthread_join itself. It
-- speaks of the events of a run alone.
use Rattle.std.specs.Prelude.{ℕ, Bool, true, not, ◌&&◌, List}
use Rattle.pct_model.specs.declared.event.Event.{Event}
use Rattle.pct_model.specs.declared.event.What.{What}
use Rattle.pct_model.specs.declared.event.What.TheVariants as what
use Rattle.pct_laws.specs.KnownThreads.{is_known, is_detached, is_joined}
use Rattle.pct_model.specs.ThreadCalls.{join_point}
use Rattle.pct_laws.specs.NewestEvents.{newest_is, reports_call}
use Rattle.pct_laws.specs.ThreadSummary.{thread_ended_with, is_reclaimed}

-- thread id of process pid has ended with a value; it was not joined, and is not detached
abbrev pub can_be_joined : (pid id v : ℕ) → List Event → Bool
can_be_joined pid id v events = thread_ended_with v pid id events && not (is_joined pid id events) && not (is_detached pid id events)

-- thread id of process pid is known, and the lifetime of its id is not over
abbrev pub is_live : ℕ → ℕ → List Event → Bool
is_live pid id events = is_known pid id events && not (is_reclaimed pid id events)

-- what the law asks of an event of thread tid of process pid, by those before it
abbrev pub may_name : What → ℕ → ℕ → List Event → Bool
-- a join is of a thread that can be joined, and gets its value; the thread that joins it was suspended in pthread_join until now
may_name (what.Joined id v) pid tid earlier = can_be_joined pid id v earlier && newest_is (reports_call join_point) pid tid earlier
-- a request and a detach name a thread in the lifetime of its id
may_name (what.Request id) pid tid earlier = is_live pid id earlier
may_name (what.Detached id) pid tid earlier = is_live pid id earlier
-- the law asks nothing of the other events
may_name _ pid tid earlier = true

-- an event may come after those before it
abbrev pub allows : Event → List Event → Bool
allows e earlier = may_name e.what e.pid e.tid earlier
