use Rattle.pct_names.proofs.Names.{ap, option_map, Some, subst, Thread, ◌≡◌}
use Rattle.pct_process.specs.ProcessViews.{thread_on_slot, ProcessData}
use Rattle.pct_process.proofs.ViewedSlots.{occupied_on, id_is}
use Rattle.pct_process.proofs.process_state.ProcessState.id_on.Goals as goal

pub place-requires : goal.place-requires
place-requires c =
    let s = c.self.inside in
    occupied_on s.keys s.threads c.self.invariant.0 c.args.slot c.args.self.now.slots (ap (λ (p : ProcessData). p.slots) c.self.view_is) c.requires

pub returns : goal.returns
returns c =
    let s = c.self.inside in
    subst (λ (p : ProcessData). option_map (λ (t : Thread). t.id) (thread_on_slot p.slots c.args.slot) ≡ Some c.place.result.id) c.self.view_is (id_is s.keys s.threads c.self.invariant.0 c.args.slot c.place.result c.place.ensures.value)
