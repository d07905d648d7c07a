-- The events that say that values are left and are not directly followed by the end of their thread. The events are listed oldest first.
use Rattle.std.specs.Prelude.{◌≡◌, ℕ, ◌+◌, ◌-◌, ◌<◌, ◌≤◌, Bool, true, false, not, ◌&&◌, List, length, Option, Some, None, slice_get}
use Rattle.std.specs.Option.{option_map_or}
use Rattle.pct_model.specs.declared.event.Event.{Event}
use Rattle.pct_laws.specs.Ends.{is_leftover}
use Rattle.pct_laws.specs.KnownThreads.{is_own, reports_end}

-- the event is the end of the thread of another one
abbrev pub ends_thread_of : Event → Event → Bool
ends_thread_of thread e = is_own thread.pid thread.tid e && reports_end e.what

-- the event says that values are left, and the next one, if there is one, is not the end of its thread
abbrev pub is_left_open : Event → Option Event → Bool
is_left_open e next = is_leftover e.what && not (option_map_or (ends_thread_of e) next false)

-- there is an event on a place, counted from 0, and it is such an event
abbrev pub is_unfollowed : List Event → ℕ → Bool
is_unfollowed events place = option_map_or (λ e. is_left_open e (slice_get events (place + 1))) (slice_get events place) false

-- the number, counted from 1, is that of the first such event
pub record IsFirstOpen (events : List Event) (number : ℕ) : Type 0 where
  pub counted : 0 < number
  pub within : number ≤ length events
  pub unfollowed : is_unfollowed events (number - 1) ≡ true
  pub before : (place : ℕ) → place + 1 < number → is_unfollowed events place ≡ false

-- the answer is the number of the first such event, or there is none
abbrev pub IsFirstUnfollowed : List Event → Option ℕ → Type 0
IsFirstUnfollowed events None = (place : ℕ) → is_unfollowed events place ≡ false
IsFirstUnfollowed events (Some number) = IsFirstOpen events number
