-- Cleanup handlers (XSH pthread_cleanup_push, pthread_cleanup_pop). `next` is the pc of the next statement.
use Rattle.std.specs.Prelude.{ℕ, true, false, if◌then◌else◌, List, [], ◌∷◌, nat_eq, Some}
use Rattle.pct_model.specs.declared.event.What.TheVariants.{Pushed, Popped}
use Rattle.pct_model.specs.declared.state.FrameKind.TheVariants as kind
use Rattle.pct_model.specs.declared.transition.OwnAction.TheVariants as own_action
use Rattle.pct_model.specs.declared.transition.Transition.{Transition}
use Rattle.pct_model.specs.Transitions.{goes_on, no_change}

-- pthread_cleanup_push: a function and its argument become the newest handler
unfoldable pub pushes : (next f v : ℕ) → Transition
pushes next f v = record (goes_on next (Pushed f v ∷ [])) { own = Some (own_action.PushHandler f v) }

-- pthread_cleanup_pop with an argument: the newest of these handlers is removed, and called if the argument is not 0
unfoldable pub pops : ℕ → ℕ → List (ℕ × ℕ) → Transition
pops next v [] = no_change
pops next v ((f, a) ∷ handlers) =
    if nat_eq v 0
    then record (goes_on next (Popped f a false ∷ [])) { own = Some own_action.PopHandler }
    else record (goes_on next (Popped f a true ∷ [])) { own = Some (own_action.CallHandler f a) }
