use Rattle.pct_names.proofs.Names.{is_some, subst, ◌∙◌, ◌≡◌}
use Rattle.pct_set.specs.Slots.{slots_where}
use Rattle.pct_process.specs.ProcessViews.{thread_on_slot, ProcessData}
use Rattle.pct_process.proofs.ViewedSlots.{occupied-are}
use Rattle.pct_process.proofs.process_state.ProcessState.occupied.Goals as goal

pub returns : goal.returns
returns c =
    let s = c.self.inside in
    subst (λ (p : ProcessData). c.occupied.result ≡ slots_where (λ k. is_some (thread_on_slot p.slots k))) c.self.view_is
    (c.occupied.ensures ∙ occupied-are s.keys s.threads c.self.invariant.0)
