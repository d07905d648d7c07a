-- Once controls (XSH pthread_once). pthread_once calls the init routine of a control that is fresh, and the control is busy until the
-- routine returns: it is done then, and a later call on it returns without a call of the routine. pthread_once is no cancellation point; if
-- the routine is canceled, the control is as if pthread_once was never called. `next` is the pc of the next statement.
use Rattle.std.specs.Prelude.{ℕ, Bool, true, false, if◌then◌else◌, List, [], ◌∷◌, nat_eq, slice_get, Some, unwrap_or}
use Rattle.pct_model.specs.declared.event.What.TheVariants as what
use Rattle.pct_model.specs.declared.state.FrameKind.TheVariants as kind
use Rattle.pct_model.specs.declared.state.OnceState.{OnceState}
use Rattle.pct_model.specs.declared.state.OnceState.TheVariants.{Fresh, Busy, Done}
use Rattle.pct_model.specs.declared.state.Status.TheVariants.{Running}
use Rattle.pct_model.specs.declared.transition.OwnAction.TheVariants as own_action
use Rattle.pct_model.specs.declared.transition.SharedAction.TheVariants as shared_action
use Rattle.pct_model.specs.declared.transition.Transition.{Transition}
use Rattle.pct_model.specs.Transitions.{goes_on, acts, no_change}

-- ---- states of a control

-- the state of the control with an index; each control of a script has one
abbrev pub once_at : List OnceState → ℕ → OnceState
once_at onces o = unwrap_or (slice_get onces o) Fresh

-- the routine of a control in this state is called by the next call of pthread_once
abbrev pub is_fresh : OnceState → Bool
is_fresh Fresh = true
is_fresh _ = false

-- a thread called the routine of a control in this state, and the routine has not returned
abbrev pub is_busy : OnceState → Bool
is_busy (Busy id) = true
is_busy _ = false

-- the state of a control after the thread with an id left its routine without a return of it: as if the thread had not called pthread_once
abbrev pub abandoned : ℕ → OnceState → OnceState
abandoned tid (Busy id) = if nat_eq id tid then Fresh else Busy id
abandoned tid state = state

-- ---- pthread_once

-- pthread_once of control o, in this state, with init routine f, by the thread with an id: the routine is called if the control is fresh,
-- and the thread goes on after its return. At a control that is busy the thread has no choice
unfoldable pub calls_once : (next o f id : ℕ) → OnceState → Transition
calls_once next o f id Fresh = record (goes_on next (what.OnceCalled o ∷ [])) { own = Some (own_action.Call f 0 (kind.OnceFn o)); shared = Some (shared_action.SetOnce o (Busy id)) }
calls_once next o f id (Busy other) = no_change
calls_once next o f id Done = goes_on next []

-- the init routine of control o returns
unfoldable pub leaves_routine : ℕ → Transition
leaves_routine o = record (acts (what.OnceDone o ∷ [])) { own = Some (own_action.Leave Running); shared = Some (shared_action.SetOnce o Done) }
