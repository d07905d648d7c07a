-- The answer for `after`.
use Rattle.std.proofs.Common.{◌≡◌, ℕ, ◌<◌, length, List, subst}
use Rattle.std.specs.Prelude.{IfSome, option_map, option_and_then}
use Rattle.pct_laws.specs.RanAll.{handler_run}
use Rattle.pct_audit.specs.Stacks.{stack_at}
use Rattle.pct_audit.specs.Tells.{handler_stacks}
use Rattle.pct_handler_monitor.specs.declared.ran.RanHandlers.{RanHandlers}
use Rattle.pct_handler_monitor.specs.IsRan.{IsRan}
use Rattle.pct_handler_monitor.specs.Left.{left_after}
use Rattle.pct_handler_monitor.proofs.MoreEvents.{own_ending}
use Rattle.pct_handler_monitor.proofs.MoreThreads.{is_of_its_thread}
use Rattle.pct_handler_monitor.proofs.monitor.HandlerMonitor.after.Goals as goal

pub returns-in-Ending-clause-thread : goal.returns-in-Ending-clause-thread
returns-in-Ending-clause-thread c = λ events told is.
    let e = c.args.event in
    let pushed = handler_stacks c.args.judge.now in
    let left = c.in-Ending.left in
    let next = c.left_after_event.result in
    own_ending e events e.pid e.tid (is_of_its_thread e) pushed left next
    (subst (λ (stacks : List (List (ℕ × ℕ))). IfSome next (λ number. number < length stacks)) c.stacks.ensures c.left_after_event.ensures.within)
    (subst (λ (stacks : List (List (ℕ × ℕ))). option_map (stack_at stacks) next ≡ option_and_then (left_after (handler_run e.what)) (option_map (stack_at stacks) left)) c.stacks.ensures c.left_after_event.ensures.left)
    (subst (λ (thread : RanHandlers). IsRan thread c.args.self.now.ran pushed e.pid e.tid events) c.in-Ending.is is)
