use Rattle.pct_names.proofs.Names.{◌∙◌}
use Rattle.pct_actions.proofs.Stands.{stand_recorded}
use Rattle.pct_actions.proofs.named_threads.wake_on.Goals as goal

pub returns-clause-stand : goal.returns-clause-stand
returns-clause-stand g c = c.of.ensures ∙ stand_recorded c.args.slot _ c.args.threads.now c.requires
