use Rattle.pct_names.proofs.Names.{ap, bytes_eq, list_any, thread_text, ◌∙◌}
use Rattle.pct_survey.proofs.ThreadTexts.{any_thread}
use Rattle.pct_survey.proofs.threads.ThreadSet.contains.Goals as goal

pub returns : goal.returns
returns c =
    c.contains.ensures ∙ any_thread (c.args.pid, c.args.tid) c.self.inside.threads.keys (c.ranges.pid.fits, c.ranges.tid.fits) c.self.invariant
    ∙ ap (list_any (bytes_eq (thread_text c.args.pid c.args.tid))) c.self.view_is
