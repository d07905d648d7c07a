use Rattle.pct_names.proofs.Names.{ap, dtor_or_go, left_places, not, number_at, refl, ◌∙◌}
use Rattle.pct_model.specs.declared.schedule.Alt.TheVariants as alt
use Rattle.pct_keys.specs.Tables.{row_at}
use Rattle.pct_transitions.proofs.KeyChoices.{none_there, some_there}
use Rattle.pct_transitions.proofs.choice_table.dtor_or_go.Goals as goal

pub returns-then-is_none-clause-value : goal.returns-then-is_none-clause-value
returns-then-is_none-clause-value c = λ threads.
    none_there (λ n. alt.Dtor n) (number_at c.args.keys.now.places) dtor_or_go refl (left_places c.args.keys.now.places (row_at c.args.keys.now c.args.slot))
    c.left_nth.result (c.is_none.ensures ∙ ap not c.if-is_none.true) c.left_nth.ensures.value

pub returns-else-is_none-clause-value : goal.returns-else-is_none-clause-value
returns-else-is_none-clause-value c = λ threads.
    some_there (λ n. alt.Dtor n) (number_at c.args.keys.now.places) dtor_or_go (λ n ns. refl) (left_places c.args.keys.now.places (row_at c.args.keys.now c.args.slot))
    c.left_nth.result (c.is_none.ensures ∙ ap not c.if-is_none.false) c.left_nth.ensures.value
