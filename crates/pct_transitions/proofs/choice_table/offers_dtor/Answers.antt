use Rattle.pct_names.proofs.Names.{sym, ◌∙◌}
use Rattle.pct_keys.specs.Tables.{row_at}
use Rattle.pct_transitions.proofs.KeyChoices.{on_places, none_by_key, left_by_found}
use Rattle.pct_transitions.proofs.choice_table.offers_dtor.Goals as goal

pub returns-in-None : goal.returns-in-None
returns-in-None c = λ threads. none_by_key c.args.keys.now.places (row_at c.args.keys.now c.args.slot) c.args.key (on_places c.args.keys.now c.find.ensures.sound) c.in-None.ensures.none

pub returns-in-Some : goal.returns-in-Some
returns-in-Some c = λ threads. left_by_found c.args.keys.now.places (row_at c.args.keys.now c.args.slot) c.args.key c.in-Some.place c.is_left.result (on_places c.args.keys.now c.find.ensures.sound) (sym c.in-Some.is ∙ c.find.ensures.value) c.is_left.ensures
