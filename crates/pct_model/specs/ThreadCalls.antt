-- Creation, joining and detaching of threads (XSH pthread_create, pthread_join, pthread_detach, pthread_self). `next` is the
-- pc of the next statement.
use Rattle.std.specs.Prelude.{ℕ, suc, Bool, [], ◌∷◌, Option, Some}
use Rattle.pct_model.specs.declared.state.Status.TheVariants as status
use Rattle.pct_model.specs.declared.statement.Dest.{Dest}
use Rattle.pct_model.specs.declared.statement.Stmt.TheVariants as statement
use Rattle.pct_model.specs.declared.schedule.Alt.{Alt}
use Rattle.pct_model.specs.declared.schedule.Alt.TheVariants as alt
use Rattle.pct_model.specs.declared.event.Caller.TheVariants as caller
use Rattle.pct_model.specs.declared.event.What.TheVariants as what
use Rattle.pct_model.specs.declared.numbers.TheConstants.{EAGAIN}
use Rattle.pct_model.specs.declared.point.TheConstants.{JOIN_POINT}
use Rattle.pct_model.specs.declared.transition.NamedAction.TheVariants as named_action
use Rattle.pct_model.specs.declared.transition.OwnAction.TheVariants as own_action
use Rattle.pct_model.specs.declared.transition.Transition.{Transition}
use Rattle.pct_model.specs.NextStatement.{NextStatement, StatementIn}
use Rattle.pct_model.specs.Transitions.{goes_on, creates_thread, acts, no_change}

-- ---- pthread_create

-- a thread is created with an id: the result is 0
unfoldable pub creates : ℕ → Dest → Dest → (new f v : ℕ) → Bool → Transition
creates next result id new f v detached =
    record (creates_thread next (record { id = new; detached = detached; func = f; arg = v }) (what.Created new detached ∷ [])) { writes = (result, 0) ∷ (id, new) ∷ [] }

-- no slot is free: the result is EAGAIN, and the id is not written
unfoldable pub fails_to_create : ℕ → Dest → Transition
fails_to_create next result = record (goes_on next (what.Answer caller.Create EAGAIN ∷ [])) { writes = (result, EAGAIN) ∷ [] }

-- by the choice of the scheduler
abbrev pub creates_by : Alt → ℕ → Dest → Dest → ℕ → ℕ → Bool → Transition
creates_by (alt.New new) next result id f v detached = creates next result id new f v detached
creates_by alt.Go next result id f v detached = fails_to_create next result
creates_by _ next result id f v detached = no_change

-- ---- pthread_join

-- the index of pthread_join in the table of cancellation points
abbrev pub join_point : ℕ
join_point = JOIN_POINT

-- the thread is suspended until its target has ended, or until it acts upon a request
unfoldable pub begins_join : ℕ → Transition
begins_join id = record (acts (what.Called join_point ∷ [])) { own = Some (own_action.SetStatus (status.Joining id)) }

-- the thread returns from pthread_join with the exit value of its target
unfoldable pub ends_join : ℕ → Dest → ℕ → ℕ → Transition
ends_join next d id v = record (goes_on next (what.Joined id v ∷ [])) { writes = (d, v) ∷ []; named = Some (named_action.EndJoin id) }

-- a thread that is suspended in pthread_join returns once its target has ended with a value
abbrev pub joins_at : Option ℕ → ℕ → NextStatement → Transition
joins_at (Some v) id (StatementIn frame (statement.Join operand d)) = ends_join (suc frame.pc) d id v
joins_at value id next = no_change

-- ---- pthread_detach, pthread_self

-- pthread_detach
unfoldable pub detaches : ℕ → ℕ → Transition
detaches next id = record (goes_on next (what.Detached id ∷ [])) { named = Some (named_action.Detach id) }

-- pthread_self: the thread gets its own id
unfoldable pub gets_self : ℕ → Dest → ℕ → Transition
gets_self next d id = record (goes_on next []) { writes = (d, id) ∷ [] }
