-- The answer for `all_have_ended`.
use Rattle.std.proofs.Common.{not, ◌&&◌, ap₂, ◌∙◌}
use Rattle.pct_holders.specs.Holds.{holds}
use Rattle.pct_thread_monitors.proofs.AllEnded.{ended_told}
use Rattle.pct_thread_monitors.proofs.monitor.ThreadMonitor.all_have_ended.Goals as goal

pub returns : goal.returns
returns c = λ events told.
    let pid = c.args.pid in
    ended_told pid events (holds c.args.self.now.unended pid 0)
    (λ tid. told.unended pid tid ∙ ap₂ (λ known ended. known && not ended) (told.notes pid tid).known (told.notes pid tid).ended)
    c.is_free.result c.is_free.ensures.free c.is_free.ensures.held
