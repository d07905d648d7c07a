-- What the monitor keeps as there are more stacks of handlers.
use Rattle.std.proofs.Common.{◌≡◌, ℕ, ◌<◌, List, length, reverse, Option, Some, None, Ok, Err, OnErr, Result, refl, sym, subst, ap, ◌∙◌, arith}
use Rattle.std.specs.Prelude.{IfSome, option_map, unwrap_or}
use Rattle.std.specs.BTreeMap.{BTreeMap, IsUnchanged, get, is_at}
use Rattle.std.specs.Map.{lookup}
use Rattle.std.specs.Ordering.{nat_cmp, ordering_then}
use Rattle.pct_model.specs.declared.event.Event.{Event}
use Rattle.pct_audit.specs.IsRow.{Grows}
use Rattle.pct_audit.specs.Stacks.{stack_at}
use Rattle.pct_handler_monitor.specs.declared.monitor.HandlerMonitor.{HandlerMonitor}
use Rattle.pct_handler_monitor.specs.declared.ran.RanHandlers.{RanHandlers}
use Rattle.pct_handler_monitor.specs.declared.ran.RanHandlers.TheVariants.{BeforeEnd, Ending}
use Rattle.pct_handler_monitor.specs.IsRan.{IsRan}
use Rattle.pct_handler_monitor.specs.Monitors.{ran_of, MonitorsHandlers}

abbrev Stacks : Type 0
Stacks = List (List (ℕ × ℕ))

-- a number of a stack is one after more stacks
within_more : (a b : Stacks) (left : Option ℕ) → Grows a b → IfSome left (λ number. number < length a) → IfSome left (λ number. number < length b)
within_more a b None grows within = within
within_more a b (Some number) grows within = omega (arith, within, grows.more)

-- and its stack is the same
same_stack : (a b : Stacks) (left : Option ℕ) → Grows a b → IfSome left (λ number. number < length a) → option_map (stack_at b) left ≡ option_map (stack_at a) left
same_stack a b None grows within = refl
same_stack a b (Some number) grows within = ap (λ (stack : List (ℕ × ℕ)). Some stack) (grows.same number within)

-- what is kept of a thread, as there are more stacks of handlers that were pushed
thread_grows : (thread : RanHandlers) (ran a b : Stacks) (pid tid : ℕ) (events : List Event) → Grows a b → IsRan thread ran a pid tid events → IsRan thread ran b pid tid events
thread_grows (BeforeEnd number) ran a b pid tid events grows is = is
thread_grows (Ending left) ran a b pid tid events grows is = record { begun = is.begun; within = within_more a b left grows is.within; handlers = same_stack a b left grows is.within ∙ is.handlers }

-- what the monitor keeps then
pub monitors_grows : (m : HandlerMonitor) (a b : Stacks) (events : List Event) → MonitorsHandlers m a events → Grows a b → MonitorsHandlers m b events
monitors_grows m a b events monitors grows = record { threads = λ pid tid. thread_grows (ran_of m pid tid) m.ran a b pid tid events grows (monitors.threads pid tid) }

-- what is kept of a thread, as there are more stacks of handlers that ran
thread_ran_grows : (thread : RanHandlers) (a b pushed : Stacks) (pid tid : ℕ) (events : List Event) → Grows a b → IsRan thread a pushed pid tid events → IsRan thread b pushed pid tid events
thread_ran_grows (BeforeEnd number) a b pushed pid tid events grows is = record {
  begun = is.begun;
  within = omega (arith, is.within, grows.more);
  handlers = ap (λ (stack : List (ℕ × ℕ)). reverse stack) (grows.same number is.within) ∙ is.handlers;
}
thread_ran_grows (Ending left) a b pushed pid tid events grows is = is

-- what the monitor keeps then, if it keeps the same of each thread
ran_grows : (m after : HandlerMonitor) (pushed : Stacks) (events : List Event) → ((p t : ℕ) → ran_of after p t ≡ ran_of m p t) → Grows m.ran after.ran
    → MonitorsHandlers m pushed events → MonitorsHandlers after pushed events
ran_grows m after pushed events same grows monitors = record {
  threads = λ pid tid.
      subst (λ (thread : RanHandlers). IsRan thread after.ran pushed pid tid events) (sym (same pid tid))
      (thread_ran_grows (ran_of m pid tid) m.ran after.ran pushed pid tid events grows (monitors.threads pid tid));
}

-- after any error
pub still_monitors : {T E : Type 0} (result : Result T E) (judged : List Event → Type 0) (m after : HandlerMonitor) (pushed : Stacks)
    → ((p t : ℕ) → ran_of after p t ≡ ran_of m p t) → Grows m.ran after.ran
    → OnErr result ((events : List Event) → judged events → MonitorsHandlers m pushed events → MonitorsHandlers after pushed events)
still_monitors (Ok value) judged m after pushed same grows = tt
still_monitors (Err e) judged m after pushed same grows = λ events told monitors. ran_grows m after pushed events same grows monitors

-- what a map has of a thread
abbrev pub ran_in : BTreeMap (ℕ × ℕ) RanHandlers → ℕ → ℕ → RanHandlers
ran_in map p t = unwrap_or (get (λ x y. ordering_then (nat_cmp x.0 y.0) (nat_cmp x.1 y.1)) map (p, t)) (BeforeEnd 0)

-- a map that is unchanged has the same
pub ran_in-unchanged : (old now : BTreeMap (ℕ × ℕ) RanHandlers) (p t : ℕ) → IsUnchanged old now → ran_in now p t ≡ ran_in old p t
ran_in-unchanged old now p t same = ap (λ entries. unwrap_or (lookup (is_at (λ y. ordering_then (nat_cmp p y.0) (nat_cmp t y.1))) entries) (BeforeEnd 0)) same
