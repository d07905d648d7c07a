use Rattle.pct_names.proofs.Names.{ap, bytes_eq, list_any, ◌∙◌}
use Rattle.pct_expect.proofs.ThreadNames.{any_seen}
use Rattle.pct_expect.proofs.threads.ThreadSet.contains.Goals as goal

pub returns : goal.returns
returns c = c.contains.ensures ∙ any_seen c.args.name.now c.self.inside.names.keys ∙ ap (list_any (bytes_eq c.args.name.now)) c.self.view_is
