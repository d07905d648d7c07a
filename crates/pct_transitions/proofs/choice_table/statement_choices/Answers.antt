use Rattle.pct_transitions.proofs.choice_table.statement_choices.Goals as goal

pub returns-in-Create-clause-within : goal.returns-in-Create-clause-within
returns-in-Create-clause-within c = c.new_or_go.ensures.within _ c.free_slots.ensures.within

pub returns-in-KeyCreate-clause-within : goal.returns-in-KeyCreate-clause-within
returns-in-KeyCreate-clause-within c = c.new_key_or_go.ensures.within _

pub returns-in-Lock-clause-within : goal.returns-in-Lock-clause-within
returns-in-Lock-clause-within c = c.go_or_act.ensures.within _

pub returns-in-CallOnce-clause-within : goal.returns-in-CallOnce-clause-within
returns-in-CallOnce-clause-within c = c.go_or_act-in-CallOnce.ensures.within _

pub returns-in-Signal-clause-within : goal.returns-in-Signal-clause-within
returns-in-Signal-clause-within c = c.pick_or_go.ensures.within _ c.waiters.ensures.held
