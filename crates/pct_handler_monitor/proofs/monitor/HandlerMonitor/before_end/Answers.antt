-- The answer for `before_end`.
use Rattle.std.proofs.Common.{sym}
use Rattle.pct_handler_monitor.proofs.MoreEvents.{own_run_before}
use Rattle.pct_handler_monitor.proofs.MoreThreads.{is_of_its_thread}
use Rattle.pct_handler_monitor.proofs.monitor.HandlerMonitor.before_end.Goals as goal

pub returns-in_ok-ran-clause-thread : goal.returns-in_ok-ran-clause-thread
returns-in_ok-ran-clause-thread c = λ events told is.
    let e = c.args.event in
    own_run_before e events e.pid e.tid (is_of_its_thread e) c.args.self.now.ran c.push.new.self c.args.ran c.in_ok-ran.ran (c.in-Some.f, c.in-Some.a) (sym c.in-Some.ensures) c.in_ok-ran.ensures.number c.in_ok-ran.ensures.ok is
