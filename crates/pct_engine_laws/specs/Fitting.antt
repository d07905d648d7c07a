-- The limits that a transition keeps, which an engine with tables of a fixed size relies on.
use Rattle.std.specs.Prelude.{◌≡◌, ℕ, ◌<◌, ◌≤◌, false, Option, Some, IfSome}
use Rattle.pct_model.specs.declared.limits.TheConstants.{MAX_STATEMENTS, MAX_FRAMES, MAX_HANDLERS, MAX_PASSES}
use Rattle.pct_model.specs.declared.transition.OwnAction.{OwnAction}
use Rattle.pct_model.specs.declared.transition.OwnAction.TheVariants as own_action
use Rattle.pct_model.specs.declared.transition.Transition.{Transition}
use Rattle.pct_model.specs.ThreadSlots.{is_ended_status}

-- a thread with these numbers of frames, of cleanup handlers and of passes has room for its action, if it has one. A function that the
-- host calls may be one frame above those that a script calls.
abbrev pub Fits : (depth handlers pass : ℕ) → Option OwnAction → Type 0
Fits depth handlers pass (Some (own_action.Call f a kind)) = depth ≤ MAX_FRAMES
Fits depth handlers pass (Some (own_action.CallHandler f a)) = depth ≤ MAX_FRAMES
Fits depth handlers pass (Some (own_action.CallForkHandler at f)) = depth ≤ MAX_FRAMES
Fits depth handlers pass (Some (own_action.PushHandler f a)) = handlers < MAX_HANDLERS
Fits depth handlers pass (Some (own_action.Leave status)) = is_ended_status status ≡ false
Fits depth handlers pass (Some (own_action.SetStatus status)) = is_ended_status status ≡ false
Fits depth handlers pass (Some own_action.BeginPass) = pass < MAX_PASSES
Fits depth handlers pass _ = Unit {0}

-- the transition fits a thread with these numbers of frames, of cleanup handlers and of passes
pub record TransitionFits (depth handlers pass : ℕ) (o : Transition) : Type 0 where
  pub next : IfSome o.next (λ pc. pc ≤ MAX_STATEMENTS)
  pub own : Fits depth handlers pass o.own
