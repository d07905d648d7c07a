use Rattle.pct_names.proofs.Names.{ap, Option, reacquires, sym, ◌∙◌}
use Rattle.pct_model.specs.declared.state.Cause.TheVariants as cause
use Rattle.pct_step_context.specs.declared.current.At.{At}
use Rattle.pct_step_context.specs.Positions.{next_at}
use Rattle.pct_ending_calls.proofs.cond_calls.returns_from_wait.Goals as goal

pub returns-in-Some-clause-signalled : goal.returns-in-Some-clause-signalled
returns-in-Some-clause-signalled c = λ cond. c.returns_in.ensures.signalled cond ∙ ap (λ (next : Option At). reacquires c.args.context.now.position.id cond c.args.mutex cause.Signalled (next_at next)) (sym c.in-Some.is)

pub returns-in-Some-clause-broadcast : goal.returns-in-Some-clause-broadcast
returns-in-Some-clause-broadcast c = λ cond. c.returns_in.ensures.broadcast cond ∙ ap (λ (next : Option At). reacquires c.args.context.now.position.id cond c.args.mutex cause.Broadcast (next_at next)) (sym c.in-Some.is)
