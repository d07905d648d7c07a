use Rattle.pct_names.proofs.Names.{arith, ◌∙◌}
use Rattle.pct_step_context.proofs.WaitersRead.{another_mutex_read}
use Rattle.pct_step_context.proofs.context.Context.waits_with_another_mutex.Goals as goal

pub returns : goal.returns
returns c = λ others sees.
    let self = c.args.self.now in
    c.waits_with_another_mutex.ensures ∙ another_mutex_read self.position.keys.now self.threads.now c.requires.rows self.position.id _ _ others sees c.args.cond self.standings.now c.requires.standings_are (omega (arith, c.slot_count-count.ensures.value, c.slot_count-count.ensures.few)) c.args.mutex
