-- The end of a thread (XSH 2.9.5.3, pthread_exit, pthread_create): it begins to end, its cleanup
-- handlers run, then the destructors of its thread-specific data, and it ends.
use Rattle.std.specs.Prelude.{ℕ, suc, Bool, true, false, not, ◌&&◌, if◌then◌else◌, List, [], ◌∷◌, ◌++◌, length, Option, Some, None, nat_eq, nat_lt, option_and_then}
use Rattle.pct_model.specs.declared.event.What.{What}
use Rattle.pct_model.specs.declared.event.What.TheVariants as what
use Rattle.pct_model.specs.declared.numbers.TheConstants.{PTHREAD_CANCELED}
use Rattle.pct_model.specs.declared.schedule.Alt.{Alt}
use Rattle.pct_model.specs.declared.schedule.Alt.TheVariants as alt
use Rattle.pct_model.specs.declared.state.FrameKind.TheVariants as kind
use Rattle.pct_model.specs.declared.state.Reason.{Reason}
use Rattle.pct_model.specs.declared.state.Reason.TheVariants as reason
use Rattle.pct_model.specs.declared.transition.OwnAction.TheVariants as own_action
use Rattle.pct_model.specs.declared.transition.SharedAction.TheVariants as shared_action
use Rattle.pct_model.specs.declared.transition.Transition.{Transition}
use Rattle.pct_model.specs.Keys.{KeyPlace, key_place, key_with, value_at, due_places}
use Rattle.pct_model.specs.Transitions.{acts, no_change}
use Rattle.pct_model.specs.World.{Thread}

-- a thread begins to end by pthread_exit, or by a return from its start routine, which acts as pthread_exit (XSH
-- pthread_create, pthread_exit)
unfoldable pub ends_by_exit : ℕ → Transition
ends_by_exit v = record (acts (what.EndingExit v ∷ [])) { own = Some (own_action.BeginEnd (reason.Exit v)) }

-- the exit value of a thread, by the reason for its end
abbrev pub end_value : Reason → ℕ
end_value reason.None = 0
end_value (reason.Exit v) = v
end_value reason.Canceled = PTHREAD_CANCELED

-- the event of due keys that are left when a thread ends, if there are any
abbrev pub leftover : ℕ → List What
leftover left = if nat_eq left 0 then [] else what.Leftover left ∷ []

-- a thread ends with a value, and a number of due keys left; the last thread of a process exits it with 0, as if exit was called
-- (XSH pthread_exit)
unfoldable pub ends_thread : Bool → ℕ → ℕ → Transition
ends_thread false left v = record (acts (leftover left ++ what.EndedWith v ∷ [])) { own = Some (own_action.EndThread v) }
ends_thread true left v = record (acts (leftover left ++ what.EndedWith v ∷ what.ExitBegun 0 ∷ [])) { own = Some own_action.EndLast; shared = Some (shared_action.BeginExit 0) }

-- the destructor of a key is called in a pass with the thread's value of the key, which is NULL then (XSH pthread_key_create)
unfoldable pub calls_destructor : (pass k value : ℕ) → Option ℕ → Transition
calls_destructor pass k value (Some f) = record (acts (what.DtorRun pass k f value ∷ [])) { own = Some (own_action.RunDestructor k f value) }
calls_destructor pass k value None = no_change

-- the number of keys of which the destructor is due in a thread: the thread has a value of the key that is not NULL
abbrev pub due_keys : List KeyPlace → Thread → ℕ
due_keys keys t = length (due_places keys t.specific)

module _ (is_last : Bool) (passes : ℕ) (keys : List KeyPlace) (t : Thread) where
  -- what a thread that is ending, and so has no frame, does by the choice of the scheduler and its cleanup handlers (XSH 2.9.5.3,
  -- pthread_key_create)
  unfoldable pub goes_on_ending : Alt → List (ℕ × ℕ) → Transition
  -- a cleanup handler is left: the newest is removed and called
  goes_on_ending choice ((f, a) ∷ handlers) = record (acts (what.HandlerRun f a ∷ [])) { own = Some (own_action.RunHandler f a) }
  -- a key is left in the pass: its destructor is called, in an order that the scheduler chooses
  goes_on_ending (alt.Dtor k) [] = calls_destructor t.pass k (value_at (key_place k) t.specific) (option_and_then (λ key. key.destructor) (key_with k keys))
  -- keys are due and a pass is left: the next pass begins; else the thread ends
  goes_on_ending _ [] =
      if not (nat_eq (due_keys keys t) 0) && nat_lt t.pass passes
      then record (acts (what.PassBegun (suc t.pass) ∷ [])) { own = Some own_action.BeginPass }
      else ends_thread is_last (due_keys keys t) (end_value t.reason)
