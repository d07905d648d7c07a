use Rattle.pct_names.proofs.Names.{◌∙◌, ap}
use Rattle.pct_set.specs.Slots.{with_slot}
use Rattle.pct_ready_sets.proofs.TouchedSlots.{one_slot}
use Rattle.pct_ready_sets.proofs.ready_sets.only.Goals as goal

pub returns : goal.returns
returns c = c.insert.ensures ∙ ap (with_slot c.args.slot) c.new-set.ensures ∙ one_slot c.args.slot
