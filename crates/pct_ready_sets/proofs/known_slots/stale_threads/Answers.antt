use Rattle.pct_names.proofs.Names.{ap, is_some, List, ℕ, ◌∙◌}
use Rattle.pct_set.specs.Slots.{difference_of}
use Rattle.pct_process.specs.ProcessViews.{thread_on_slot}
use Rattle.pct_ready_sets.proofs.KnownSlots.{in_both}
use Rattle.pct_ready_sets.proofs.known_slots.stale_threads.Goals as goal

pub returns : goal.returns
returns c =
    let held : List ℕ = c.occupied-held.result in
    in_both (λ k. is_some (thread_on_slot c.args.process.now.slots k)) c.args.sets.now.stale held c.minus.result c.minus-2.result c.occupied-held.ensures (c.minus.ensures ∙ ap (difference_of held) c.stale.ensures.value) c.minus-2.ensures
