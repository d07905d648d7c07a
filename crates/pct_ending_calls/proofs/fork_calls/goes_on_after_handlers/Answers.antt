use Rattle.pct_names.proofs.Names.{goes_on_after_handlers, refl, sym, ◌∙◌}
use Rattle.pct_step_context.specs.Positions.{next_at}
use Rattle.pct_ending_calls.proofs.fork_calls.goes_on_after_handlers.Goals as goal

pub returns-in-Parent-Some : goal.returns-in-Parent-Some
returns-in-Parent-Some c = λ others sees.
    let at = c.args.at.now in
    let new_pid = others.family.new_pid in
    c.returns_in_parent.ensures at new_pid refl ∙ sym (λ i. goes_on_after_handlers (c.in-Parent-Some.is-0 i) at new_pid (next_at (c.in-Parent-Some.is-1 i)))

pub returns-in-Child-Some : goal.returns-in-Child-Some
returns-in-Child-Some c = λ others sees.
    let at = c.args.at.now in
    let new_pid = others.family.new_pid in
    c.returns_in_child.ensures at new_pid ∙ sym (λ i. goes_on_after_handlers (c.in-Child-Some.is-0 i) at new_pid (next_at (c.in-Child-Some.is-1 i)))
