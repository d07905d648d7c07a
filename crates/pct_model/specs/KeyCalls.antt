-- Keys of thread-specific data and their values (XSH pthread_key_create, pthread_key_delete, pthread_getspecific). `next` is the pc of
-- the next statement.
use Rattle.std.specs.Prelude.{ℕ, [], ◌∷◌, Option, Some}
use Rattle.pct_model.specs.declared.statement.Dest.{Dest}
use Rattle.pct_model.specs.declared.schedule.Alt.{Alt}
use Rattle.pct_model.specs.declared.schedule.Alt.TheVariants as alt
use Rattle.pct_model.specs.declared.event.Caller.TheVariants as caller
use Rattle.pct_model.specs.declared.event.What.TheVariants as what
use Rattle.pct_model.specs.declared.numbers.TheConstants.{EAGAIN}
use Rattle.pct_model.specs.declared.transition.NamedAction.TheVariants as named_action
use Rattle.pct_model.specs.declared.transition.OwnAction.TheVariants as own_action
use Rattle.pct_model.specs.declared.transition.SharedAction.TheVariants as shared_action
use Rattle.pct_model.specs.declared.transition.Transition.{Transition}
use Rattle.pct_model.specs.Transitions.{goes_on, no_change}

-- ---- pthread_key_create

-- a key is made with a number: the result is 0
unfoldable pub creates_key : ℕ → Dest → Dest → Option ℕ → ℕ → Transition
creates_key next result key destructor k =
    record (goes_on next (what.KeyMade k ∷ [])) { writes = (result, 0) ∷ (key, k) ∷ []; shared = Some (shared_action.MakeKey k destructor) }

-- no place is free: the result is EAGAIN, and the key is not written
unfoldable pub fails_to_create_key : ℕ → Dest → Transition
fails_to_create_key next result = record (goes_on next (what.Answer caller.KeyCreate EAGAIN ∷ [])) { writes = (result, EAGAIN) ∷ [] }

-- by the choice of the scheduler
abbrev pub creates_key_by : Alt → ℕ → Dest → Dest → Option ℕ → Transition
creates_key_by (alt.New k) next result key destructor = creates_key next result key destructor k
creates_key_by alt.Go next result key destructor = fails_to_create_key next result
creates_key_by _ next result key destructor = no_change

-- ---- pthread_key_delete, pthread_setspecific, pthread_getspecific

-- a key is deleted; no destructor is called
unfoldable pub deletes_key : ℕ → ℕ → Transition
deletes_key next k = record (goes_on next (what.KeyGone k ∷ [])) { shared = Some (shared_action.DeleteKey k); named = Some (named_action.ForgetKey k) }

-- the thread's value of a key becomes v
unfoldable pub sets_specific : (next k v : ℕ) → Transition
sets_specific next k v = record (goes_on next []) { own = Some (own_action.SetSpecific k v) }

-- the thread gets its value v of a key
unfoldable pub gets_specific : ℕ → Dest → ℕ → Transition
gets_specific next d v = record (goes_on next []) { writes = (d, v) ∷ [] }
