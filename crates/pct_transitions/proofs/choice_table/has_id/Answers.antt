use Rattle.pct_names.proofs.Names.{arith, sym, ◌∙◌}
use Rattle.pct_transitions.proofs.WaiterChoices.{id_among, id_not_among}
use Rattle.pct_transitions.proofs.choice_table.has_id.Goals as goal

pub returns-then-has_id : goal.returns-then-has_id
returns-then-has_id c = sym (id_among c.args.threads.now c.args.held.now c.args.id c.loop-slot.slot (sym c.contains.ensures ∙ c.if-contains.true) (sym c.has_id.ensures ∙ c.if-has_id.true))

pub returns : goal.returns
returns c = sym (id_not_among c.args.threads.now c.args.held.now c.args.id c.loop-slot.slot (omega (arith, c.slot_count-slot-end.ensures.value)) c.requires c.loop-slot.invariant)
