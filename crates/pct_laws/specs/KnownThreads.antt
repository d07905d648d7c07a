-- The threads that the events of a run report, and their lifetimes: the initial thread, those that pthread_create created, and the
-- replicas that fork made; whether each is detached or joined (XSH 2.9.2, pthread_create, pthread_detach, pthread_join, fork). The
-- events are listed newest first, as in the trace of a run.
use Rattle.std.specs.Prelude.{ℕ, Bool, true, false, ◌&&◌, ◌||◌, if◌then◌else◌, List, [], ◌∷◌, nat_eq}
use Rattle.std.specs.List.{list_any}
use Rattle.pct_model.specs.declared.event.Event.{Event}
use Rattle.pct_model.specs.declared.event.What.{What}
use Rattle.pct_model.specs.declared.event.What.TheVariants as what

-- ---- the events of a process and of a thread

-- the event is one of process pid
abbrev pub is_in : ℕ → Event → Bool
is_in pid e = nat_eq e.pid pid

-- the event is one of thread tid of process pid
abbrev pub is_own : ℕ → ℕ → Event → Bool
is_own pid tid e = nat_eq e.pid pid && nat_eq e.tid tid

-- the event is a fork that makes the process with an id
abbrev pub makes_process : ℕ → What → Bool
makes_process pid (what.Forked child) = nat_eq child pid
makes_process pid _ = false

-- the event is the fork that makes process pid, by the thread of this id in the parent: thread tid of process pid is the replica of
-- the thread that called fork, and has its id
abbrev pub is_fork_of : ℕ → ℕ → Event → Bool
is_fork_of pid tid e = nat_eq e.tid tid && makes_process pid e.what

-- ---- threads that are known

-- the event creates the thread with an id
abbrev pub creates_id : ℕ → What → Bool
creates_id tid (what.Created id detached) = nat_eq id tid
creates_id tid _ = false

-- thread tid of process pid is known: it is the initial thread, an event of its process created it, or it is the replica of a thread
-- that called fork
abbrev pub is_known : ℕ → ℕ → List Event → Bool
is_known pid tid [] = nat_eq 1 pid && nat_eq 1 tid
is_known pid tid (e ∷ earlier) = (is_in pid e && creates_id tid e.what) || (is_fork_of pid tid e || is_known pid tid earlier)

-- ---- the end of their lifetimes

-- the event creates the thread with an id detached, or detaches it
abbrev pub detaches_id : ℕ → What → Bool
detaches_id tid (what.Created id detached) = nat_eq id tid && detached
detaches_id tid (what.Detached id) = nat_eq id tid
detaches_id tid _ = false

-- thread tid of process pid is detached: an event of its process made it so, or it is the replica of a thread that was detached at the
-- fork
abbrev pub is_detached : ℕ → ℕ → List Event → Bool
is_detached pid tid [] = false
is_detached pid tid (e ∷ earlier) =
    if is_in pid e then detaches_id tid e.what || is_detached pid tid earlier
    else if is_fork_of pid tid e then is_detached e.pid tid earlier || is_detached pid tid earlier
    else is_detached pid tid earlier

-- the event is that of a join of the thread with an id
abbrev pub joins_id : ℕ → What → Bool
joins_id tid (what.Joined id v) = nat_eq id tid
joins_id tid _ = false

-- thread tid of process pid was joined by a thread of its process
abbrev pub is_joined : ℕ → ℕ → List Event → Bool
is_joined pid tid events = list_any (λ e. is_in pid e && joins_id tid e.what) events

-- the event is that of the end of a thread
abbrev pub reports_end : What → Bool
reports_end (what.EndedWith v) = true
reports_end _ = false
