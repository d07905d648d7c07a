-- What is kept of a thread stands for what some events report of it.
use Rattle.std.specs.Prelude.{◌≡◌, ℕ, ◌<◌, true, false, List, length, reverse, Option, IfSome, option_map}
use Rattle.pct_model.specs.declared.event.Event.{Event}
use Rattle.pct_laws.specs.RanAll.{has_begun, handlers_run, open_at_ending}
use Rattle.pct_audit.specs.Stacks.{stack_at}
use Rattle.pct_handler_monitor.specs.declared.ran.RanHandlers.{RanHandlers}
use Rattle.pct_handler_monitor.specs.declared.ran.RanHandlers.TheVariants.{BeforeEnd, Ending}
use Rattle.pct_handler_monitor.specs.Left.{left_after}

-- the thread has not begun to end, and the handlers on a stack are those that ran
pub record IsBeforeEnd (stacks : List (List (ℕ × ℕ))) (ran pid tid : ℕ) (events : List Event) : Type 0 where
  pub begun : has_begun pid tid events ≡ false
  pub within : ran < length stacks
  pub handlers : reverse (stack_at stacks ran) ≡ handlers_run pid tid events

-- the thread has begun to end, and the handlers on a stack, if there is one, are what is left of those that were open then
pub record IsEnding (stacks : List (List (ℕ × ℕ))) (left : Option ℕ) (pid tid : ℕ) (events : List Event) : Type 0 where
  pub begun : has_begun pid tid events ≡ true
  pub within : IfSome left (λ number. number < length stacks)
  pub handlers : option_map (stack_at stacks) left ≡ left_after (handlers_run pid tid events) (open_at_ending pid tid events)

-- what is kept of the thread is right, with the stacks of handlers that ran, and those of handlers that were pushed
abbrev pub IsRan : RanHandlers → (ran pushed : List (List (ℕ × ℕ))) → (pid tid : ℕ) → List Event → Type 0
IsRan (BeforeEnd number) ran pushed pid tid events = IsBeforeEnd ran number pid tid events
IsRan (Ending left) ran pushed pid tid events = IsEnding pushed left pid tid events
