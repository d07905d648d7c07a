-- The law of what follows the end of a thread: the next event of a thread after its end, if it has one, is that it exits its process with 0,
-- and then each thread of the process has ended (XSH pthread_exit); and a thread that exits its process does no more than its exit functions
-- do, which are plain by a choice of this host (XSH exit). So a thread that has ended, or exits its process, neither pushes nor pops nor runs
-- cleanup handlers, calls no destructor, and neither begins to end nor ends again (XSH pthread_exit, _exit). It speaks of the events of a run
-- alone.
use Rattle.std.specs.Prelude.{ℕ, Bool, true, false, ◌&&◌, if◌then◌else◌, List, is_some, nat_eq}
use Rattle.std.specs.List.{list_all}
use Rattle.pct_model.specs.declared.event.Event.{Event}
use Rattle.pct_model.specs.declared.event.What.{What}
use Rattle.pct_model.specs.declared.event.What.TheVariants as what
use Rattle.pct_laws.specs.ThreadSummary.{ThreadSummary, summary_of, thread_ended}
use Rattle.pct_laws.specs.KnownIds.{known_ids}

-- the event is that exit begins with 0
abbrev pub begins_exit_with_0 : What → Bool
begins_exit_with_0 (what.ExitBegun v) = nat_eq v 0
begins_exit_with_0 _ = false

-- the event is one of a thread that exits its process: its exit functions are called, and may emit and use mutexes; and the process ends
abbrev pub is_of_exit : What → Bool
is_of_exit (what.Emit v) = true
is_of_exit (what.ExitRun f) = true
is_of_exit (what.Acquired m) = true
is_of_exit (what.Released m) = true
is_of_exit (what.ProcessEnded n) = true
is_of_exit (what.Stopped why) = true
is_of_exit _ = false

-- each known thread of process pid has ended
abbrev pub all_have_ended : ℕ → List Event → Bool
all_have_ended pid events = list_all (λ tid. thread_ended pid tid events) (known_ids pid events)

-- what the law asks of an event of a thread of process pid, by the summary of the thread before it
abbrev pub may_follow_end : What → ThreadSummary → ℕ → List Event → Bool
may_follow_end w s pid earlier =
    -- while the thread exits its process, it is one of the exit
    if s.exiting then is_of_exit w
    -- after its end it is that the thread begins to exit its process with 0, as each thread of the process has ended
    else if is_some s.ended then begins_exit_with_0 w && all_have_ended pid earlier
    -- the law asks nothing before
    else true

-- an event may come after those before it
abbrev pub allows : Event → List Event → Bool
allows e earlier = may_follow_end e.what (summary_of e.pid e.tid earlier) e.pid earlier
