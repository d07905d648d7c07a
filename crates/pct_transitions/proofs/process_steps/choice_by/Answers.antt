use Rattle.pct_names.proofs.Names.{body_at, choices_at, has_timeouts, item_at, length, next_of, ◌∙◌}
use Rattle.pct_engine_laws.specs.SeenSteps.{environment_in}
use Rattle.pct_process.specs.FamilyViews.{other_processes}
use Rattle.pct_transitions.proofs.process_steps.choice_by.Goals as goal

pub returns : goal.returns
returns c = λ t at.
    let p = c.args.process.now in
    let environment = environment_in (has_timeouts c.args.around.program.now.config.format) (length p.slots) (other_processes c.args.around.family) p.slots t.id in
    c.numbered.ensures p.shared t environment (c.uncounted.ensures.context t at)
    ∙ (λ i. item_at (choices_at (body_at (c.uncounted.ensures.program i).script t.frames) p.shared t environment (next_of (c.uncounted.ensures.program i).script t.frames) t.status) c.args.number)
