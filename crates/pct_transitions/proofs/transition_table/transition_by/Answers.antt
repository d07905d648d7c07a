use Rattle.pct_names.proofs.Names.{acts_on_request, ap, arith, length, subst, sym, Transition, ◌∙◌}
use Rattle.pct_engine_laws.specs.Fitting.{TransitionFits}
use Rattle.pct_transitions.proofs.Fits.{acting_fits, transition_fits}
use Rattle.pct_transitions.proofs.transition_table.transition_by.Goals as goal

pub returns-in-Act-clause-fits : goal.returns-in-Act-clause-fits
returns-in-Act-clause-fits c = λ shared t others is forks.
    let acted = c.acts_on_request.ensures ∙ ap (acts_on_request c.in-Act.id) is.position_is.status_is in
    subst (λ (o : Transition). TransitionFits (length t.frames) (length t.handlers) t.pass o) (sym acted) (acting_fits c.args.context.now.program.now.script 0 (omega arith) shared t others forks c.in-Act.id)

pub returns-in_default-clause-fits : goal.returns-in_default-clause-fits
returns-in_default-clause-fits c = λ shared t others is forks.
    let program = c.args.context.now.program.now in
    subst (λ (o : Transition). TransitionFits (length t.frames) (length t.handlers) t.pass o) (sym (c.transition_at.ensures.value shared t others is)) (transition_fits program.script program.config.passes c.transition_at.ensures.limit shared t others forks c.args.choice)
