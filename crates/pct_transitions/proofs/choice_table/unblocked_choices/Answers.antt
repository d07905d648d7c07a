use Rattle.pct_transitions.proofs.choice_table.unblocked_choices.Goals as goal

pub returns-then-not-deliverable-clause-within : goal.returns-then-not-deliverable-clause-within
returns-then-not-deliverable-clause-within c = c.go_or_act.ensures.within _

pub returns-in-Signalled-clause-within : goal.returns-in-Signalled-clause-within
returns-in-Signalled-clause-within c = c.go_or_hand_on.ensures.within _ c.waiters.ensures.held

pub returns-in-Broadcast-clause-within : goal.returns-in-Broadcast-clause-within
returns-in-Broadcast-clause-within c = c.go_or_act-in-Broadcast.ensures.within _

pub returns-in-Canceled-clause-within : goal.returns-in-Canceled-clause-within
returns-in-Canceled-clause-within c = c.go_or_act-in-Canceled.ensures.within _
