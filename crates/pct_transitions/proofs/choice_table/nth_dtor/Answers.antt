use Rattle.pct_names.proofs.Names.{ap, is_left, left_places, number_at, option_map, Some, sym, ℕ, ◌∙◌}
use Rattle.pct_model.specs.declared.schedule.Alt.TheVariants as alt
use Rattle.pct_keys.specs.Tables.{row_at}
use Rattle.pct_transitions.proofs.KeyChoices.{choice_at, none_past}
use Rattle.pct_transitions.proofs.choice_table.nth_dtor.Goals as goal

pub returns-then-n : goal.returns-then-n
unfolding left_places
returns-then-n c = λ threads.
    none_past (λ k. alt.Dtor k) (number_at c.args.keys.now.places) (is_left c.args.keys.now.places (row_at c.args.keys.now c.args.slot)) c.args.n c.if-n.true

pub returns-in-None : goal.returns-in-None
returns-in-None c = λ threads.
    ap (option_map (λ p. alt.Dtor (number_at c.args.keys.now.places p))) (sym c.in-None.is)
    ∙ choice_at (λ k. alt.Dtor k) (number_at c.args.keys.now.places) (left_places c.args.keys.now.places (row_at c.args.keys.now c.args.slot))
    c.left_nth.result c.args.n c.left_nth.ensures.value

pub returns-in-Some : goal.returns-in-Some
returns-in-Some c = λ threads.
    ap (λ (k : ℕ). Some (alt.Dtor k)) c.number.ensures
    ∙ ap (option_map (λ p. alt.Dtor (number_at c.args.keys.now.places p))) (sym c.in-Some.is)
    ∙ choice_at (λ k. alt.Dtor k) (number_at c.args.keys.now.places) (left_places c.args.keys.now.places (row_at c.args.keys.now c.args.slot))
    c.left_nth.result c.args.n c.left_nth.ensures.value
