-- What the monitor keeps of the events that it has seen.
use Rattle.std.specs.Prelude.{ℕ, List, unwrap_or}
use Rattle.std.specs.Ordering.{nat_cmp, ordering_then}
use Rattle.std.specs.BTreeMap.{get}
use Rattle.pct_model.specs.declared.event.Event.{Event}
use Rattle.pct_handler_monitor.specs.declared.monitor.HandlerMonitor.{HandlerMonitor}
use Rattle.pct_handler_monitor.specs.declared.ran.RanHandlers.{RanHandlers}
use Rattle.pct_handler_monitor.specs.declared.ran.RanHandlers.TheVariants.{BeforeEnd}
use Rattle.pct_handler_monitor.specs.IsRan.{IsRan}

-- what is kept of a thread
abbrev pub ran_of : HandlerMonitor → ℕ → ℕ → RanHandlers
ran_of m pid tid = unwrap_or (get (λ x y. ordering_then (nat_cmp x.0 y.0) (nat_cmp x.1 y.1)) m.threads (pid, tid)) (BeforeEnd 0)

-- the monitor keeps what some events report, newest first, with the stacks of handlers that were pushed
pub record MonitorsHandlers (m : HandlerMonitor) (stacks : List (List (ℕ × ℕ))) (events : List Event) : Type 0 where
  pub threads : (pid tid : ℕ) → IsRan (ran_of m pid tid) m.ran stacks pid tid events
