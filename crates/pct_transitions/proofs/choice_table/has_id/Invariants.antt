use Rattle.pct_names.proofs.Names.{◌&&◌, ◌<◌, false, ℕ, ◌≡◌}
use Rattle.pct_set.specs.Slots.{has_slot}
use Rattle.pct_threads.specs.Slots.{has_id}
use Rattle.pct_threads.specs.Tables.{slot_at}
use Rattle.pct_transitions.proofs.choice_table.has_id.Given as goal

abbrev pub invariant-loop-slot : goal.invariant-loop-slot
invariant-loop-slot l = (s : ℕ) → s < l.slot → (has_slot l.held s && has_id l.id (slot_at l.threads s)) ≡ false
