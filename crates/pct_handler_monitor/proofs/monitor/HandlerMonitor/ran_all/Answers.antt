-- The answers for `ran_all`.
use Rattle.std.proofs.Common.{ℕ, Option, length, sym, ap, ◌∙◌, nat_eq}
use Rattle.pct_audit.specs.Stacks.{stack_at}
use Rattle.pct_audit.specs.Tells.{handler_stacks}
use Rattle.pct_handler_monitor.specs.declared.ran.RanHandlers.{RanHandlers}
use Rattle.pct_handler_monitor.specs.declared.ran.RanHandlers.TheVariants.{Ending}
use Rattle.pct_handler_monitor.specs.Monitors.{ran_of}
use Rattle.pct_handler_monitor.proofs.EndTold.{has_none_left, end_told}
use Rattle.pct_handler_monitor.proofs.monitor.HandlerMonitor.ran_all.Goals as goal

pub returns-in-Ending-None : goal.returns-in-Ending-None
returns-in-Ending-None c = λ events monitors.
    let pid = c.args.pid in
    let tid = c.args.tid in
    let pushed = handler_stacks c.args.judge.now in
    ap (λ (thread : RanHandlers). has_none_left thread pushed) (sym (ap (λ (left : Option ℕ). Ending left) c.in-Ending-None.left-is) ∙ sym c.in-Ending-None.is ∙ c.thread.ensures)
    ∙ end_told (ran_of c.args.self.now pid tid) c.args.self.now.ran pushed pid tid events (monitors.threads pid tid)

pub returns-in-Ending-Some : goal.returns-in-Ending-Some
returns-in-Ending-Some c = λ events monitors.
    let pid = c.args.pid in
    let tid = c.args.tid in
    let pushed = handler_stacks c.args.judge.now in
    ap (λ n. nat_eq n 0) (c.depth.ensures.depth ∙ ap (λ stacks. length (stack_at stacks c.in-Ending-Some.left)) c.stacks.ensures)
    ∙ ap (λ (thread : RanHandlers). has_none_left thread pushed) (sym (ap (λ (left : Option ℕ). Ending left) c.in-Ending-Some.left-is) ∙ sym c.in-Ending-Some.is ∙ c.thread.ensures)
    ∙ end_told (ran_of c.args.self.now pid tid) c.args.self.now.ran pushed pid tid events (monitors.threads pid tid)
