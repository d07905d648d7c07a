-- The law of handlers that ran: as a thread ends, the cleanup handlers that ran are all those that were open as it began to end, the newest
-- first, and each once (XSH 2.9.5.3, pthread_exit, pthread_cleanup_push). It speaks of the events of a run alone. That none runs later is
-- said by the law of what follows the end.
use Rattle.std.specs.Prelude.{if◌then◌else◌, ℕ, Bool, true, false, ◌&&◌, List, [], ◌∷◌, ◌++◌}
use Rattle.std.specs.List.{list_any}
use Rattle.pct_model.specs.declared.event.Event.{Event}
use Rattle.pct_model.specs.declared.event.What.{What}
use Rattle.pct_model.specs.declared.event.What.TheVariants as what
use Rattle.pct_laws.specs.KnownThreads.{is_own}
use Rattle.pct_laws.specs.Once.{is_pair}
use Rattle.pct_laws.specs.ThreadSummary.{summary_of}

-- the event is an ending event: a thread begins to end
abbrev pub begins_to_end : What → Bool
begins_to_end (what.EndingExit v) = true
begins_to_end what.EndingCanceled = true
begins_to_end (what.EndingInWait c m) = true
begins_to_end _ = false

-- by the event the thread leaves all functions: it begins to end, or to exit its process
abbrev pub leaves_all : What → Bool
leaves_all (what.ExitBegun v) = true
leaves_all w = begins_to_end w

-- thread tid of process pid has begun to end
abbrev pub has_begun : ℕ → ℕ → List Event → Bool
has_begun pid tid events = list_any (λ e. is_own pid tid e && begins_to_end e.what) events

-- the handlers of thread tid of process pid that were open as it began to end, newest first: at its first ending event. Those of the thread
-- that called fork are open in its replica, too
abbrev pub open_at_ending : ℕ → ℕ → List Event → List (ℕ × ℕ)
open_at_ending pid tid [] = []
open_at_ending pid tid (e ∷ earlier) =
    if has_begun pid tid earlier then open_at_ending pid tid earlier
    else if is_own pid tid e && begins_to_end e.what then (summary_of pid tid earlier).handlers else []

-- the handler of an event, if it is that a cleanup handler runs
abbrev pub handler_run : What → List (ℕ × ℕ)
handler_run (what.HandlerRun f a) = (f, a) ∷ []
handler_run _ = []

-- the handlers of thread tid of process pid that ran, in order
abbrev pub handlers_run : ℕ → ℕ → List Event → List (ℕ × ℕ)
handlers_run pid tid [] = []
handlers_run pid tid (e ∷ earlier) = handlers_run pid tid earlier ++ (if is_own pid tid e then handler_run e.what else [])

-- these are the same handlers, with the same arguments, in the same order
abbrev pub are_same : List (ℕ × ℕ) → List (ℕ × ℕ) → Bool
are_same [] [] = true
are_same (h ∷ handlers) ((f, a) ∷ others) = is_pair f a h && are_same handlers others
are_same _ _ = false

-- what the law asks of an event of thread tid of process pid, by those before it
abbrev pub may_end : What → ℕ → ℕ → List Event → Bool
-- the thread began to end, and the handlers that ran are those that were open then
may_end (what.EndedWith v) pid tid earlier = has_begun pid tid earlier && are_same (handlers_run pid tid earlier) (open_at_ending pid tid earlier)
-- the law asks nothing of the other events
may_end _ pid tid earlier = true

-- an event may come after those before it
abbrev pub allows : Event → List Event → Bool
allows e earlier = may_end e.what e.pid e.tid earlier
