use Rattle.pct_names.proofs.Names.{All, ap, length, subst, sym, ◌∙◌, ◌≤◌}
use Rattle.pct_engine_laws.specs.Seen.{SeenSlot}
use Rattle.pct_process.specs.ProcessViews.{ProcessData}
use Rattle.pct_process.proofs.ViewedSlots.{length-slots_of, one_each}
use Rattle.pct_process.proofs.process_state.ProcessState.slot_count.Goals as goal

pub returns-clause-value : goal.returns-clause-value
returns-clause-value c =
    let s = c.self.inside in
    c.slot_count.ensures.value ∙ sym (length-slots_of s.keys s.threads c.self.invariant.0) ∙ ap (λ (p : ProcessData). length p.slots) c.self.view_is

pub returns-clause-single : goal.returns-clause-single
returns-clause-single c =
    let s = c.self.inside in
    subst (λ (p : ProcessData). All (λ (s : SeenSlot). length s.here ≤ 1) p.slots) c.self.view_is (one_each s.keys s.threads c.self.invariant.0)
