-- The answer for `allows_once`.
use Rattle.std.proofs.Common.{ap, ◌∙◌}
use Rattle.pct_laws.specs.ThreadSummary.{summary_of}
use Rattle.pct_audit.specs.CleanupTests.{allows}
use Rattle.pct_audit.proofs.CleanupTold.{allows_told}
use Rattle.pct_audit.proofs.judge.Judge.allows_once.Goals as goal

pub returns : goal.returns
returns c = λ events told.
    let e = c.args.event in
    let destroyed = c.was_destroyed-destroyed.result in
    c.may_come.ensures ∙ ap (λ t. allows c.args.passes e.what t destroyed) (c.snapshot-thread.ensures events told)
    ∙ allows_told c.args.passes e.what (summary_of e.pid e.tid events) destroyed
    (λ pass key f v is. c.was_destroyed-destroyed.ensures pass key f v is ∙ told.destroyed e.pid e.tid pass key)
