-- The states of once controls, as the events of a run report them, and how often the init routine of one has returned (XSH pthread_once,
-- fork). The events are listed newest first, as in the trace of a run.
use Rattle.std.specs.Prelude.{ℕ, suc, if◌then◌else◌, List, [], ◌∷◌, nat_eq}
use Rattle.pct_model.specs.declared.event.Event.{Event}
use Rattle.pct_model.specs.declared.event.What.{What}
use Rattle.pct_model.specs.declared.event.What.TheVariants as what
use Rattle.pct_model.specs.declared.state.OnceState.{OnceState}
use Rattle.pct_model.specs.declared.state.OnceState.TheVariants.{Fresh, Busy, Done}
use Rattle.pct_laws.specs.KnownThreads.{is_in, makes_process}

-- the state of a control after thread tid began to end: one that is busy with it is as if the thread had not called pthread_once
abbrev pub given_up : ℕ → OnceState → OnceState
given_up tid (Busy id) = if nat_eq id tid then Fresh else Busy id
given_up tid state = state

-- the state of control o after an event of thread tid of its process
abbrev pub once_after : ℕ → ℕ → What → OnceState → OnceState
once_after o tid (what.OnceCalled control) state = if nat_eq control o then Busy tid else state
once_after o tid (what.OnceDone control) state = if nat_eq control o then Done else state
once_after o tid (what.EndingExit v) state = given_up tid state
once_after o tid what.EndingCanceled state = given_up tid state
once_after o tid (what.EndingInWait c m) state = given_up tid state
once_after o tid _ state = state

-- the state of control o in process pid: fresh at first; the fork that makes the process gives it the state in the parent
abbrev pub once_of : ℕ → ℕ → List Event → OnceState
once_of pid o [] = Fresh
once_of pid o (e ∷ earlier) =
    if is_in pid e then once_after o e.tid e.what (once_of pid o earlier)
    else if makes_process pid e.what then once_of e.pid o earlier
    else once_of pid o earlier

-- the number of returns of the routine of control o, after this event
abbrev pub returns_after : ℕ → What → ℕ → ℕ
returns_after o (what.OnceDone control) n = if nat_eq control o then suc n else n
returns_after o _ n = n

-- the number of returns of the routine of control o in process pid, and in its parent before the fork that makes it
abbrev pub routine_returns : ℕ → ℕ → List Event → ℕ
routine_returns pid o [] = 0
routine_returns pid o (e ∷ earlier) =
    if is_in pid e then returns_after o e.what (routine_returns pid o earlier)
    else if makes_process pid e.what then routine_returns e.pid o earlier
    else routine_returns pid o earlier
