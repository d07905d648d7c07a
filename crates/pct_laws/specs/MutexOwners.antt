-- The owners of mutexes, as the events of a run report them (XSH pthread_mutex_lock, pthread_cond_wait, fork). The events are listed newest
-- first, as in the trace of a run.
use Rattle.std.specs.Prelude.{ℕ, if◌then◌else◌, List, [], ◌∷◌, nat_eq}
use Rattle.pct_model.specs.declared.event.Event.{Event}
use Rattle.pct_model.specs.declared.event.What.{What}
use Rattle.pct_model.specs.declared.event.What.TheVariants as what
use Rattle.pct_laws.specs.KnownThreads.{is_in, makes_process}

-- the owner of mutex m, the id of a thread or 0 for none, after an event of thread tid of its process
abbrev pub owner_after : ℕ → ℕ → What → ℕ → ℕ
owner_after m tid (what.Acquired mutex) owner = if nat_eq mutex m then tid else owner
owner_after m tid (what.Released mutex) owner = if nat_eq mutex m then 0 else owner
owner_after m tid _ owner = owner

-- the owner of mutex m in process pid: none at first; the fork that makes the process gives it the owner in the parent
abbrev pub owner_of : ℕ → ℕ → List Event → ℕ
owner_of pid m [] = 0
owner_of pid m (e ∷ earlier) =
    if is_in pid e then owner_after m e.tid e.what (owner_of pid m earlier)
    else if makes_process pid e.what then owner_of e.pid m earlier
    else owner_of pid m earlier
