use Rattle.pct_names.proofs.Names.{ap, free_places, is_none, key_at, next_key, option_map, Some, sym, ℕ, ◌∙◌}
use Rattle.pct_model.specs.declared.schedule.Alt.TheVariants as alt
use Rattle.pct_transitions.proofs.KeyChoices.{choice_at, none_past}
use Rattle.pct_transitions.proofs.choice_table.nth_new_key.Goals as goal

pub returns-then-n : goal.returns-then-n
unfolding free_places
returns-then-n c = λ threads.
    none_past (λ k. alt.New k) (next_key c.args.keys.now.places) (λ p. is_none (key_at c.args.keys.now.places p)) c.args.n c.if-n.true

pub returns-in-None : goal.returns-in-None
returns-in-None c = λ threads.
    ap (option_map (λ p. alt.New (next_key c.args.keys.now.places p))) (sym c.in-None.is)
    ∙ choice_at (λ k. alt.New k) (next_key c.args.keys.now.places) (free_places c.args.keys.now.places) c.free_nth.result c.args.n c.free_nth.ensures.value

pub returns-in-Some : goal.returns-in-Some
returns-in-Some c = λ threads.
    ap (λ (k : ℕ). Some (alt.New k)) c.next_key.ensures
    ∙ ap (option_map (λ p. alt.New (next_key c.args.keys.now.places p))) (sym c.in-Some.is)
    ∙ choice_at (λ k. alt.New k) (next_key c.args.keys.now.places) (free_places c.args.keys.now.places) c.free_nth.result c.args.n c.free_nth.ensures.value
