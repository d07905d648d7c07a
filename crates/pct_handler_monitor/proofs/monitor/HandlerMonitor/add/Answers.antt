-- The answers for `add`.
use Rattle.std.proofs.Common.{◌≡◌, Bool, true, false, ◌&&◌, cond, Option, Some, refl, sym, subst, ap, nat_eq, ◌∙◌}
use Rattle.std.specs.Prelude.{unwrap_or}
use Rattle.std.specs.BTreeMap.{get}
use Rattle.std.specs.Ordering.{nat_cmp, ordering_then}
use Rattle.pct_audit.proofs.PairKeys.{pairs_compare}
use Rattle.pct_audit.specs.Tells.{Tells, handler_stacks}
use Rattle.pct_handler_monitor.specs.declared.ran.RanHandlers.{RanHandlers}
use Rattle.pct_handler_monitor.specs.declared.ran.RanHandlers.TheVariants.{BeforeEnd}
use Rattle.pct_handler_monitor.specs.IsRan.{IsRan}
use Rattle.pct_handler_monitor.proofs.MoreStacks.{ran_in, ran_in-unchanged, still_monitors}
use Rattle.pct_handler_monitor.proofs.MoreThreads.{monitors_more}
use Rattle.pct_handler_monitor.proofs.monitor.HandlerMonitor.add.Goals as goal

chosen : (t : Bool) (thread none : RanHandlers) (old : Option RanHandlers) → unwrap_or (cond t (Some thread) old) none ≡ cond t thread (unwrap_or old none)
chosen true thread none old = refl
chosen false thread none old = refl

pub returns-in_err-next-clause-unchanged : goal.returns-in_err-next-clause-unchanged
returns-in_err-next-clause-unchanged c =
    still_monitors c.from_residual.result (Tells c.args.judge.now) c.args.self.now c.after.new.self (handler_stacks c.args.judge.now)
    (λ p t. ap (λ map. ran_in map p t) c.after.ensures.threads) c.after.ensures.stacks

pub returns-in_err-insert-clause-unchanged : goal.returns-in_err-insert-clause-unchanged
returns-in_err-insert-clause-unchanged c =
    still_monitors c.from_residual-in_err-insert.result (Tells c.args.judge.now) c.args.self.now (record c.after.new.self { threads = c.insert.new.self }) (handler_stacks c.args.judge.now)
    (λ p t. ran_in-unchanged c.after.new.self.threads c.insert.new.self p t c.in_err-insert.ensures.err ∙ ap (λ map. ran_in map p t) c.after.ensures.threads) c.after.ensures.stacks

pub returns-clause-ok : goal.returns-clause-ok
returns-clause-ok c = λ events told monitors.
    let e = c.args.event in
    monitors_more c.args.self.now _ e events (handler_stacks c.args.judge.now) c.in_ok-next.next
    (λ p t. rw (c.in_ok-insert.ensures.updates.0 (p, t), pairs_compare e.pid p e.tid t, c.after.ensures.threads) (chosen (nat_eq e.pid p && nat_eq e.tid t) c.in_ok-next.next (BeforeEnd 0) (get (λ x y. ordering_then (nat_cmp x.0 y.0) (nat_cmp x.1 y.1)) c.args.self.now.threads (p, t))))
    c.after.ensures.stacks
    (c.in_ok-next.ensures.thread events told (subst (λ (thread : RanHandlers). IsRan thread c.args.self.now.ran (handler_stacks c.args.judge.now) e.pid e.tid events) (sym c.thread-thread.ensures) (monitors.threads e.pid e.tid)))
    monitors
