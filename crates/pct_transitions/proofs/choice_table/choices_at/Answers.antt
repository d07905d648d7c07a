use Rattle.pct_names.proofs.Names.{body_at, choices_at, sym, ◌∙◌}
use Rattle.pct_transitions.proofs.choice_table.choices_at.Goals as goal

pub returns-in-Reacquire-clause-value : goal.returns-in-Reacquire-clause-value
returns-in-Reacquire-clause-value c = λ shared t others is.
    let position = is.position_is in
    let body = body_at c.args.context.now.program.now.script t.frames in
    c.unblocked_choices.ensures.value body shared t others is ∙ (λ i. choices_at body shared t others (position.next_is i) ((sym c.in-Reacquire.is ∙ position.status_is) i))

pub returns-in-AtPoint-clause-within : goal.returns-in-AtPoint-clause-within
returns-in-AtPoint-clause-within c = c.go_or_act.ensures.within _

pub returns-in-Joining-clause-within : goal.returns-in-Joining-clause-within
returns-in-Joining-clause-within c = c.go_or_act-in-Joining.ensures.within _

pub returns-in-InSem-clause-within : goal.returns-in-InSem-clause-within
returns-in-InSem-clause-within c = c.go_expire_or_act.ensures.within _

pub returns-in-Waiting-clause-within : goal.returns-in-Waiting-clause-within
returns-in-Waiting-clause-within c = c.expire_or_act.ensures.within _

pub returns-in-InWaitPid-clause-within : goal.returns-in-InWaitPid-clause-within
returns-in-InWaitPid-clause-within c = c.go_or_act-in-InWaitPid.ensures.within _
