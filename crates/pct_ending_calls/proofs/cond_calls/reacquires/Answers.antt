use Rattle.pct_names.proofs.Names.{ap, Cause, inl, inr, reacquires, sym, ◌∙◌}
use Rattle.pct_step_context.specs.Positions.{next_at}
use Rattle.pct_ending_calls.proofs.cond_calls.reacquires.Goals as goal

pub returns-in-Canceled : goal.returns-in-Canceled
returns-in-Canceled c =
    let next = next_at c.args.context.now.position.next in
    c.ends_in_wait.ensures next ∙ ap (λ (why : Cause). reacquires c.args.context.now.position.id c.args.cond c.args.mutex why next) (sym c.in-Canceled.is)

pub returns-in-TimedOut : goal.returns-in-TimedOut
returns-in-TimedOut c =
    c.times_out.ensures c.args.cond ∙ ap (λ (why : Cause). reacquires c.args.context.now.position.id c.args.cond c.args.mutex why (next_at c.args.context.now.position.next)) (sym c.in-TimedOut.is)

pub returns-in-Signalled : goal.returns-in-Signalled
returns-in-Signalled c =
    elim c.in-Signalled.is [
      | inl signalled ↦ c.returns_from_wait.ensures.signalled c.args.cond ∙ ap (λ (why : Cause). reacquires c.args.context.now.position.id c.args.cond c.args.mutex why (next_at c.args.context.now.position.next)) (sym signalled)
      | inr broadcast ↦ c.returns_from_wait.ensures.broadcast c.args.cond ∙ ap (λ (why : Cause). reacquires c.args.context.now.position.id c.args.cond c.args.mutex why (next_at c.args.context.now.position.next)) (sym broadcast)
    ]
