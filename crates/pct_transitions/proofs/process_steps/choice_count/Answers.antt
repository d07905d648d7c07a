use Rattle.pct_names.proofs.Names.{Alt, ap, body_at, choices_at, has_timeouts, length, List, next_of, ◌∙◌}
use Rattle.pct_engine_laws.specs.SeenSteps.{environment_in}
use Rattle.pct_process.specs.FamilyViews.{other_processes}
use Rattle.pct_transitions.proofs.OfferedLists.{has_row}
use Rattle.pct_transitions.proofs.process_steps.choice_count.Goals as goal

pub count-requires : goal.count-requires
count-requires c = has_row c.uncounted-context.result.threads.now c.uncounted-context.result.position.keys.now c.choices_at.result c.uncounted-context.ensures.whole.rows c.choices_at.ensures.within

pub returns : goal.returns
returns c = λ t at.
    let p = c.args.process.now in
    let is = c.uncounted-context.ensures.context t at in
    let environment = environment_in (has_timeouts c.args.around.program.now.config.format) (length p.slots) (other_processes c.args.around.family) p.slots t.id in
    let choices = c.choices_at.ensures.value p.shared t environment is ∙ (λ i. choices_at (body_at (c.uncounted-context.ensures.program i).script t.frames) p.shared t environment (next_of (c.uncounted-context.ensures.program i).script t.frames) t.status) in
    c.count.ensures c.uncounted-context.result.threads.now ∙ ap (λ (xs : List Alt). length xs) choices
