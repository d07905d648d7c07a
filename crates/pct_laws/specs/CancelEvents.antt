-- Requests and cancelability, as the events of a run report them (XSH pthread_cancel, pthread_setcancelstate, 2.9.5.1, 2.9.5.3, fork). The
-- events are listed newest first, as in the trace of a run.
use Rattle.std.specs.Prelude.{if◌then◌else◌, ℕ, Bool, true, false, not, ◌&&◌, List, [], ◌∷◌, nat_eq}
use Rattle.std.specs.List.{list_any}
use Rattle.pct_model.specs.declared.event.Event.{Event}
use Rattle.pct_model.specs.declared.event.What.{What}
use Rattle.pct_model.specs.declared.event.What.TheVariants as what
use Rattle.pct_laws.specs.KnownThreads.{is_in, is_own, is_fork_of}
use Rattle.pct_model.specs.StopTable.{has_begun_to_end}
use Rattle.pct_laws.specs.ThreadSummary.{summary_of}

-- ---- requests

-- the event is a request for the thread with an id
abbrev pub requests_id : ℕ → What → Bool
requests_id tid (what.Request id) = nat_eq id tid
requests_id tid _ = false

-- a thread of process pid requested the end of its thread tid. That a fork passes no request on is a choice of this host
abbrev pub is_requested : ℕ → ℕ → List Event → Bool
is_requested pid tid events = list_any (λ e. is_in pid e && requests_id tid e.what) events

-- ---- cancelability

-- whether the state is PTHREAD_CANCEL_ENABLE after an event of the thread, if it was before it or not
abbrev pub enabled_after : What → Bool → Bool
enabled_after (what.StateSet enable) enabled = enable
enabled_after _ enabled = enabled

-- the newest call of pthread_setcancelstate by thread tid of process pid enabled cancelability, or there was none: it is enabled at first.
-- The replica of a thread has the state of that thread
abbrev pub is_enabled_last : ℕ → ℕ → List Event → Bool
is_enabled_last pid tid [] = true
is_enabled_last pid tid (e ∷ earlier) =
    if is_own pid tid e then enabled_after e.what (is_enabled_last pid tid earlier)
    else if is_fork_of pid tid e then is_enabled_last e.pid tid earlier
    else is_enabled_last pid tid earlier

-- whether the type is PTHREAD_CANCEL_ASYNCHRONOUS after an event of the thread, if it was before it or not
abbrev pub asynchronous_after : What → Bool → Bool
asynchronous_after (what.ModeSet asynchronous) before = asynchronous
asynchronous_after _ before = before

-- the newest call of pthread_setcanceltype by thread tid of process pid made its cancelability asynchronous: it is deferred at first. The
-- replica of a thread has the type of that thread
abbrev pub is_asynchronous_last : ℕ → ℕ → List Event → Bool
is_asynchronous_last pid tid [] = false
is_asynchronous_last pid tid (e ∷ earlier) =
    if is_own pid tid e then asynchronous_after e.what (is_asynchronous_last pid tid earlier)
    else if is_fork_of pid tid e then is_asynchronous_last e.pid tid earlier
    else is_asynchronous_last pid tid earlier

-- thread tid of process pid has neither begun to end nor begun to exit its process
abbrev pub has_not_begun : ℕ → ℕ → List Event → Bool
has_not_begun pid tid events = not (has_begun_to_end (summary_of pid tid events).reason) && not (summary_of pid tid events).exiting

-- cancelability is enabled in thread tid of process pid: as it was set last, and until the thread begins to end (XSH 2.9.5.3). That it is
-- disabled as the thread begins to exit its process is a choice of this host
abbrev pub is_enabled_by : ℕ → ℕ → List Event → Bool
is_enabled_by pid tid events = is_enabled_last pid tid events && has_not_begun pid tid events

-- thread tid of process pid acts on a request at the next cancellation point that it calls
abbrev pub has_to_act : ℕ → ℕ → List Event → Bool
has_to_act pid tid events = is_requested pid tid events && is_enabled_by pid tid events
