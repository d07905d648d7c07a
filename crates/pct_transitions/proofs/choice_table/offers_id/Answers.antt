use Rattle.pct_names.proofs.Names.{◌%◌, ◌-◌, ap, sym, ◌∙◌}
use Rattle.pct_transitions.proofs.ListedChoices.{id_on_free, id_on_held, zero_offered}
use Rattle.pct_transitions.proofs.choice_table.offers_id.Goals as goal

pub returns-then-id-eq0 : goal.returns-then-id-eq0
returns-then-id-eq0 c = λ keys. zero_offered c.args.threads.now c.args.id c.args.free.now c.if-id-eq0.true

pub returns-then-contains : goal.returns-then-contains
returns-then-contains c = λ keys.
    id_on_free c.args.threads.now c.args.id _ c.next_id.result c.args.free.now (ap (λ n. (c.args.id - 1) % n) (sym c.slot_count.ensures.value)) c.requires.within (sym c.contains.ensures ∙ c.if-contains.true) c.next_id.ensures

pub returns-else-contains : goal.returns-else-contains
returns-else-contains c = λ keys.
    c.if-contains.false ∙ id_on_held c.args.threads.now c.args.id _ c.args.free.now (ap (λ n. (c.args.id - 1) % n) (sym c.slot_count.ensures.value)) c.requires.within (sym c.contains.ensures ∙ c.if-contains.false)
