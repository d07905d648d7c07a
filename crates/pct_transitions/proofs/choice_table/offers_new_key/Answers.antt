use Rattle.pct_names.proofs.Names.{ap, not, sym, ◌∙◌}
use Rattle.pct_transitions.proofs.KeyChoices.{new_by_place, live_not_offered}
use Rattle.pct_transitions.proofs.choice_table.offers_new_key.Goals as goal

pub returns-then-not-is_live : goal.returns-then-not-is_live
returns-then-not-is_live c = λ threads. new_by_place c.args.keys.now.places c.args.key c.key_place-place.result c.next_key.result _ c.key_place-place.ensures.value (sym c.if-not-is_live.true ∙ c.is_live.ensures) c.next_key.ensures

pub returns-else-not-is_live : goal.returns-else-not-is_live
returns-else-not-is_live c = λ threads. ap not c.if-not-is_live.false ∙ live_not_offered c.args.keys.now.places c.args.key c.key_place-place.result c.key_place-place.ensures.value (sym c.is_live.ensures ∙ c.if-not-is_live.false)
