use Rattle.pct_names.proofs.Names.{ap, Option, reacquires, sym, ◌∙◌}
use Rattle.pct_model.specs.declared.state.Cause.TheVariants as cause
use Rattle.pct_step_context.specs.declared.current.At.{At}
use Rattle.pct_step_context.specs.Positions.{next_at}
use Rattle.pct_ending_calls.proofs.cond_calls.times_out.Goals as goal

pub returns-in-Some : goal.returns-in-Some
returns-in-Some c = λ cond. c.times_out_in.ensures cond ∙ ap (λ (next : Option At). reacquires c.args.context.now.position.id cond c.args.mutex cause.TimedOut (next_at next)) (sym c.in-Some.is)
