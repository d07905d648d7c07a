-- The answers for `first_unfollowed`.
use Rattle.std.proofs.Common.{sym, ◌∙◌, arith}
use Rattle.pct_process_monitors.proofs.LeftoverEvents.{ended_more, ended_by_all}
use Rattle.pct_process_monitors.proofs.leftovers.first_unfollowed.Goals as goal

pub loop-index-preserved : goal.loop-index-preserved
loop-index-preserved c = ended_more c.args.events.now c.loop-index.index c.loop-index.invariant (sym c.is_unfollowed.ensures ∙ c.if-is_unfollowed.false)

pub returns : goal.returns
returns c = ended_by_all c.args.events.now (λ place within. c.loop-index.invariant place (omega (arith, within, c.loop-index-test.false)))
