-- Semaphores (XSH sem_wait, sem_timedwait, sem_post). The count of a semaphore is its value. `next` is the pc of the next statement.
use Rattle.std.specs.Prelude.{ℕ, suc, ◌-◌, ◌%◌, [], ◌∷◌, Some}
use Rattle.pct_model.specs.declared.event.Caller.TheVariants as caller
use Rattle.pct_model.specs.declared.event.What.TheVariants as what
use Rattle.pct_model.specs.declared.numbers.TheConstants.{ETIMEDOUT}
use Rattle.pct_model.specs.declared.point.TheConstants.{SEM_WAIT_POINT, SEM_TIMEDWAIT_POINT}
use Rattle.pct_model.specs.declared.schedule.Alt.{Alt}
use Rattle.pct_model.specs.declared.schedule.Alt.TheVariants as alt
use Rattle.pct_model.specs.declared.state.Status.TheVariants as status
use Rattle.pct_model.specs.declared.statement.Stmt.TheVariants as statement
use Rattle.pct_model.specs.declared.transition.OwnAction.TheVariants as own_action
use Rattle.pct_model.specs.declared.transition.SharedAction.TheVariants as shared_action
use Rattle.pct_model.specs.declared.transition.Transition.{Transition}
use Rattle.pct_model.specs.NextStatement.{NextStatement, StatementIn}
use Rattle.pct_model.specs.Transitions.{goes_on, acts, no_change}

-- the index of sem_wait in the table of cancellation points
abbrev pub sem_wait_point : ℕ
sem_wait_point = SEM_WAIT_POINT

-- the index of sem_timedwait in this table
abbrev pub sem_timedwait_point : ℕ
sem_timedwait_point = SEM_TIMEDWAIT_POINT

-- the thread calls the function with an index in the table of cancellation points: it is suspended until the count of semaphore s is above
-- 0. That each wait is two transitions, its call and its return, is a choice of this host
unfoldable pub begins_sem_wait : (point s : ℕ) → Transition
begins_sem_wait point s = record (acts (what.Called point ∷ [])) { own = Some (own_action.SetStatus (status.InSem s)) }

-- the thread decrements the count of semaphore s, and returns: with 0, which sem_wait drops. By the choice `expire` sem_timedwait returns with
-- ETIMEDOUT, and the count stays
unfoldable pub ends_sem_wait : Alt → (s count : ℕ) → NextStatement → Transition
ends_sem_wait choice s count (StatementIn frame (statement.SemWait sem)) = record (goes_on (suc frame.pc) (what.Taken s ∷ [])) { shared = Some (shared_action.SetCount s (count - 1)) }
ends_sem_wait alt.Expire s count (StatementIn frame (statement.SemTimedWait result sem)) =
    record (goes_on (suc frame.pc) (what.Answer caller.SemTimedWait ETIMEDOUT ∷ [])) { writes = (result, ETIMEDOUT) ∷ [] }
ends_sem_wait choice s count (StatementIn frame (statement.SemTimedWait result sem)) =
    record (goes_on (suc frame.pc) (what.Taken s ∷ [])) { writes = (result, 0) ∷ []; shared = Some (shared_action.SetCount s (count - 1)) }
ends_sem_wait choice s count next = no_change

-- sem_post: the count of semaphore s is incremented. Which thread returns from sem_wait then, also one that calls it later, is not decided
-- here: a choice of this host. The sum wraps, as every sum of this host does, but no run gets there: an initial count is small, and a run
-- has few steps
unfoldable pub posts : (next s count : ℕ) → Transition
posts next s count = record (goes_on next (what.Posted s ∷ [])) { shared = Some (shared_action.SetCount s (suc count % 4294967296)) }
