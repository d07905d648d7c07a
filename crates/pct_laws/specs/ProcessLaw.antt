-- The law of processes: a process makes no event after its end, and a run none after a stop; each event is one of a thread that is known; a
-- process is made by one fork, before its first event (XSH fork); exit begins at most once in a process (a second call is undefined, and
-- this host stops the run), and the thread that exits it ends it with the low eight bits of its value, if no other thread does (XSH exit,
-- _exit); waitpid gives the status of a child to its parent, after the end of the child and once (XSH wait); and a thread joins another
-- known one, before its own end (XSH pthread_join). It speaks of the events of a run alone.
use Rattle.std.specs.Prelude.{ℕ, ◌%◌, Bool, true, false, not, ◌&&◌, ◌||◌, List, Option, is_none, nat_eq, nat_lt}
use Rattle.std.specs.Option.{option_map_or}
use Rattle.std.specs.List.{list_any}
use Rattle.pct_model.specs.declared.event.Event.{Event}
use Rattle.pct_model.specs.declared.event.What.{What}
use Rattle.pct_model.specs.declared.event.What.TheVariants as what
use Rattle.pct_laws.specs.ProcessEnds.{exit_value, end_status}
use Rattle.pct_laws.specs.KnownThreads.{is_in, makes_process, is_known}
use Rattle.pct_laws.specs.ThreadSummary.{summary_of, thread_ended}

-- the event is a stop
abbrev pub is_stop : What → Bool
is_stop (what.Stopped why) = true
is_stop _ = false

-- process pid has an event that passes a test
abbrev pub has_in : (What → Bool) → ℕ → List Event → Bool
has_in test pid events = list_any (λ e. is_in pid e && test e.what) events

-- the event is that process pid is reaped
abbrev pub reaps_process : ℕ → What → Bool
reaps_process pid (what.Reaped q n) = nat_eq q pid
reaps_process pid _ = false

-- process pid was made: it is the first one, or a fork made it
abbrev pub was_made : ℕ → List Event → Bool
was_made pid events = nat_eq 1 pid || list_any (λ e. makes_process pid e.what) events

-- the process ended with this status
abbrev pub has_status : ℕ → Option ℕ → Bool
has_status n status = option_map_or (λ m. nat_eq m n) status false

-- the status is that of an exit with a value: its low eight bits
abbrev pub is_status_of : ℕ → Option ℕ → Bool
is_status_of n value = option_map_or (λ v. nat_eq n (v % 256)) value false

-- what the law asks of an event of thread tid of process pid, by its kind
abbrev pub may_change : What → ℕ → ℕ → List Event → Bool
-- exit begins at most once
may_change (what.ExitBegun v) pid tid earlier = is_none (exit_value pid earlier)
-- the status has 8 bits, and is that of the exit value, if the thread exits the process (XSH exit, _exit)
may_change (what.ProcessEnded n) pid tid earlier = nat_lt n 256 && (not (summary_of pid tid earlier).exiting || is_status_of n (exit_value pid earlier))
-- a fork makes a process that was not made, and had no event (XSH fork)
may_change (what.Forked child) pid tid earlier = not (was_made child earlier) && not (list_any (is_in child) earlier)
-- waitpid gives the status of a child that has ended, and was not reaped (XSH wait)
may_change (what.Reaped q n) pid tid earlier =
    has_in (makes_process q) pid earlier && has_status n (end_status q earlier) && not (list_any (λ e. reaps_process q e.what) earlier)
-- a join is of another thread that is known, by a thread that has not ended (XSH pthread_join)
may_change (what.Joined id v) pid tid earlier = is_known pid id earlier && not (nat_eq id tid) && not (thread_ended pid tid earlier)
-- the law asks nothing of the other events
may_change _ pid tid earlier = true

-- an event may change what it changes, by those before it
abbrev pub changes_allow : Event → List Event → Bool
changes_allow e earlier = may_change e.what e.pid e.tid earlier

-- an event may come after those before it: the run was not stopped, the process has not ended, and the thread is known, so its process was
-- made
abbrev pub allows : Event → List Event → Bool
allows e earlier =
    not (list_any (λ x. is_stop x.what) earlier) && is_none (end_status e.pid earlier) && is_known e.pid e.tid earlier && changes_allow e earlier
