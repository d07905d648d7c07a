use Rattle.pct_names.proofs.Names.{ap, length, sym, ◌∙◌}
use Rattle.pct_threads.proofs.StackFrameLemmas.{length-frames}
use Rattle.pct_threads.proofs.frame_ref.Frames.len.Goals as goal

pub returns-clause-value : goal.returns-clause-value
returns-clause-value c = sym (length-frames c.self.inside.words c.self.inside.depth) ∙ ap length c.self.view_is
