use Rattle.pct_names.proofs.Names.{◌∙◌}
use Rattle.pct_ready_sets.specs.ReadyConditions.{creates_on, names_slot}
use Rattle.pct_ready_sets.proofs.TouchedSlots.{union_where}
use Rattle.pct_ready_sets.proofs.touched_slots.touched_slots.Goals as goal

pub returns : goal.returns
returns c =
    let o = c.args.transition.now in
    c.union.ensures
    ∙ rw (c.only.ensures, c.slot_of.ensures.value, c.union-changed.ensures, c.created_slots.ensures, c.named_slots-named.ensures, union_where (λ k. creates_on c.args.slots k o.created) (λ k. names_slot c.args.slots k o.named)) (union_where _ _)
