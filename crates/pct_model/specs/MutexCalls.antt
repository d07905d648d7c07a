-- Mutexes (XSH pthread_mutex_lock). Each mutex of a script is of the type PTHREAD_MUTEX_NORMAL and is not robust: a choice of this host.
-- `next` is the pc of the next statement.
use Rattle.std.specs.Prelude.{ℕ, Bool, [], ◌∷◌, nat_eq, slice_index, Some}
use Rattle.pct_model.specs.declared.event.What.TheVariants as what
use Rattle.pct_model.specs.declared.transition.SharedAction.TheVariants as shared_action
use Rattle.pct_model.specs.declared.transition.Transition.{Transition}
use Rattle.pct_model.specs.Transitions.{goes_on}
use Rattle.pct_model.specs.World.{SharedState}

-- the thread with an id owns mutex m
abbrev pub owns : ℕ → ℕ → SharedState → Bool
owns id m shared = nat_eq (slice_index shared.owners m) id

-- no thread owns mutex m
abbrev pub is_free_mutex : ℕ → SharedState → Bool
is_free_mutex m shared = owns 0 m shared

-- pthread_mutex_lock: the thread with this id owns mutex m
unfoldable pub locks : (next m id : ℕ) → Transition
locks next m id = record (goes_on next (what.Acquired m ∷ [])) { shared = Some (shared_action.OwnMutex m id) }

-- pthread_mutex_unlock: mutex m has no owner. Which thread owns it next is not decided here: each one at pthread_mutex_lock, and each
-- one in pthread_cond_wait that is no longer blocked on its condition variable, can go on
unfoldable pub unlocks : ℕ → ℕ → Transition
unlocks next m = record (goes_on next (what.Released m ∷ [])) { shared = Some (shared_action.OwnMutex m 0) }
