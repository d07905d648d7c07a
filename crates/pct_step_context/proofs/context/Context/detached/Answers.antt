use Rattle.pct_names.proofs.Names.{ap, None, option_map, Thread, ◌∙◌}
use Rattle.pct_step_context.proofs.EnvironmentRead.{is_detached, named_read}
use Rattle.pct_step_context.proofs.context.Context.detached.Goals as goal

pub returns-in_err-slot : goal.returns-in_err-slot
returns-in_err-slot c = λ others sees.
    let self = c.args.self.now in
    c.from_residual.ensures
    ∙ ap (option_map (λ (t : Thread). t.detached)) (named_read self.position.keys.now self.threads.now c.requires.rows self.position.id _ _ others sees c.args.id c.in_err-slot.ensures.some None c.in_err-slot.ensures.value)

pub returns : goal.returns
returns c = λ others sees.
    let self = c.args.self.now in
    is_detached self.position.keys.now self.threads.now c.requires.rows self.position.id _ _ others sees c.args.id c.in_ok-slot.ensures.some c.in_ok-slot.slot c.in_ok-slot.ensures.value c.place.result c.place.ensures.value
