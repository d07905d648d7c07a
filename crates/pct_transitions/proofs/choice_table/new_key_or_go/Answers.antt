use Rattle.pct_names.proofs.Names.{ap, free_places, new_or_go, next_key, not, refl, ◌∙◌}
use Rattle.pct_model.specs.declared.schedule.Alt.TheVariants as alt
use Rattle.pct_transitions.proofs.KeyChoices.{none_there, some_there}
use Rattle.pct_transitions.proofs.choice_table.new_key_or_go.Goals as goal

pub returns-then-is_none-clause-value : goal.returns-then-is_none-clause-value
returns-then-is_none-clause-value c = λ threads.
    none_there (λ n. alt.New n) (next_key c.args.keys.now.places) new_or_go refl (free_places c.args.keys.now.places)
    c.free_nth.result (c.is_none.ensures ∙ ap not c.if-is_none.true) c.free_nth.ensures.value

pub returns-else-is_none-clause-value : goal.returns-else-is_none-clause-value
returns-else-is_none-clause-value c = λ threads.
    some_there (λ n. alt.New n) (next_key c.args.keys.now.places) new_or_go (λ n ns. refl) (free_places c.args.keys.now.places)
    c.free_nth.result (c.is_none.ensures ∙ ap not c.if-is_none.false) c.free_nth.ensures.value
