use Rattle.pct_names.proofs.Names.{acts_or, Alt, ap, body_at, choices_at, false≢true, has_timeouts, length, List, next_of, offers, sym}
use Rattle.pct_names.proofs.Names.{transition_at, ◌∙◌}
use Rattle.pct_engine_laws.specs.SeenSteps.{environment_in}
use Rattle.pct_process.specs.FamilyViews.{other_processes}
use Rattle.pct_step_context.specs.Programs.{ProgramValue}
use Rattle.pct_transitions.proofs.process_steps.transition_if_offered.Goals as goal

pub returns-then-not-offers-clause-taken : goal.returns-then-not-offers-clause-taken
returns-then-not-offers-clause-taken g c = λ t at.
    let p = c.args.process.now in
    let is = c.new-context.ensures.context t at in
    let environment = environment_in (has_timeouts c.args.around.program.now.config.format) (length p.slots) (other_processes c.args.around.family) p.slots t.id in
    let choices = c.choices_at.ensures.value p.shared t environment is ∙ (λ i. choices_at (body_at (c.new-context.ensures.program i).script t.frames) p.shared t environment (next_of (c.new-context.ensures.program i).script t.frames) t.status) in
    record {
      offered_is = sym (c.offers.ensures ∙ ap (λ (these : List Alt). offers these c.args.choice) choices) ∙ c.if-not-offers.true;
      taken = λ offered. absurd (false≢true offered);
    }

pub returns-clause-taken : goal.returns-clause-taken
returns-clause-taken g c = λ t at.
    let p = c.args.process.now in
    let is = c.new-context.ensures.context t at in
    let environment = environment_in (has_timeouts c.args.around.program.now.config.format) (length p.slots) (other_processes c.args.around.family) p.slots t.id in
    let choices = c.choices_at.ensures.value p.shared t environment is ∙ (λ i. choices_at (body_at (c.new-context.ensures.program i).script t.frames) p.shared t environment (next_of (c.new-context.ensures.program i).script t.frames) t.status) in
    record {
      offered_is = sym (c.offers.ensures ∙ ap (λ (these : List Alt). offers these c.args.choice) choices) ∙ c.if-not-offers.false;
      taken = λ offered. c.transition_by.ensures.value p.shared t environment is ∙ ap (λ (v : ProgramValue). acts_or c.args.choice t.status (transition_at v.config.passes (body_at v.script t.frames) p.shared t environment c.args.choice (next_of v.script t.frames) t.status)) c.new-context.ensures.program;
    }

pub returns-clause-fits : goal.returns-clause-fits
returns-clause-fits g c = λ t at taken. (c.transition_by.ensures.fits _ t _ (c.new-context.ensures.context t at) (c.requires.room c.args.slot t at)).own
