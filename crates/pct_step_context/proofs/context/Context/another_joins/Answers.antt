use Rattle.pct_names.proofs.Names.{arith, ◌∙◌}
use Rattle.pct_step_context.proofs.EnvironmentRead.{joins_read}
use Rattle.pct_step_context.proofs.context.Context.another_joins.Goals as goal

pub returns : goal.returns
returns c = λ others sees.
    let self = c.args.self.now in
    c.is_joined.ensures ∙ joins_read self.position.keys.now self.threads.now c.requires.rows self.position.id _ _ others sees self.standings.now c.requires.standings_are (omega (arith, c.slot_count-count.ensures.value, c.slot_count-count.ensures.few)) c.args.id
