use Rattle.pct_names.proofs.Names.{◌∙◌}
use Rattle.pct_step_context.proofs.EnvironmentRead.{is_last_read}
use Rattle.pct_step_context.proofs.context.Context.is_last.Goals as goal

pub returns : goal.returns
returns c = λ others sees. c.is_last.ensures ∙ is_last_read c.args.self.now.position.keys.now c.args.self.now.threads.now c.requires.rows c.args.self.now.position.id _ _ others sees
