use Rattle.pct_names.proofs.Names.{acts_or, ap, body_at, choices_at, has_timeouts, item_at, length, next_of, sym, transition_at, ◌∙◌}
use Rattle.pct_engine_laws.specs.SeenSteps.{environment_in}
use Rattle.pct_process.specs.FamilyViews.{other_processes}
use Rattle.pct_step_context.specs.Programs.{ProgramValue}
use Rattle.pct_transitions.proofs.NumberedChoices.{numbered_offered}
use Rattle.pct_transitions.proofs.process_steps.transition_by_number.Goals as goal

pub returns-in_err-choice-clause-chosen : goal.returns-in_err-choice-clause-chosen
returns-in_err-choice-clause-chosen g c = λ t at.
    let p = c.args.process.now in
    let environment = environment_in (has_timeouts c.args.around.program.now.config.format) (length p.slots) (other_processes c.args.around.family) p.slots t.id in
    c.from_residual.ensures
    ∙ sym c.in_err-choice.was
    ∙ c.numbered.ensures p.shared t environment (c.new-context.ensures.context t at)
    ∙ (λ i. item_at (choices_at (body_at (c.new-context.ensures.program i).script t.frames) p.shared t environment (next_of (c.new-context.ensures.program i).script t.frames) t.status) c.args.number)

pub returns-clause-chosen : goal.returns-clause-chosen
returns-clause-chosen g c = λ t at.
    let p = c.args.process.now in
    let environment = environment_in (has_timeouts c.args.around.program.now.config.format) (length p.slots) (other_processes c.args.around.family) p.slots t.id in
    sym c.in_ok-choice.was
    ∙ c.numbered.ensures p.shared t environment (c.new-context.ensures.context t at)
    ∙ (λ i. item_at (choices_at (body_at (c.new-context.ensures.program i).script t.frames) p.shared t environment (next_of (c.new-context.ensures.program i).script t.frames) t.status) c.args.number)

pub returns-clause-taken : goal.returns-clause-taken
returns-clause-taken g c = λ t at.
    let p = c.args.process.now in
    let is = c.new-context.ensures.context t at in
    let environment = environment_in (has_timeouts c.args.around.program.now.config.format) (length p.slots) (other_processes c.args.around.family) p.slots t.id in
    let choice = c.in_ok-choice.choice in
    let item =
    (λ i. item_at (choices_at (body_at (sym c.new-context.ensures.program i).script t.frames) p.shared t environment (next_of (sym c.new-context.ensures.program i).script t.frames) t.status) c.args.number)
    ∙ sym (c.numbered.ensures p.shared t environment is)
    ∙ c.in_ok-choice.was in
    record {
      offered_is = numbered_offered (choices_at (body_at c.args.around.program.now.script t.frames) p.shared t environment (next_of c.args.around.program.now.script t.frames) t.status) c.args.number choice item;
      taken = λ offered. c.transition_by.ensures.value p.shared t environment is ∙ ap (λ (v : ProgramValue). acts_or choice t.status (transition_at v.config.passes (body_at v.script t.frames) p.shared t environment choice (next_of v.script t.frames) t.status)) c.new-context.ensures.program;
    }

pub returns-clause-fits : goal.returns-clause-fits
returns-clause-fits g c = λ t at. (c.transition_by.ensures.fits _ t _ (c.new-context.ensures.context t at) (c.requires.room c.args.slot t at)).own
