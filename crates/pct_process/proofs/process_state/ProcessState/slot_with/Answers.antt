use Rattle.pct_names.proofs.Names.{IfSome, length, None, subst, ◌≡◌}
use Rattle.std.specs.Prelude.{IfNone}
use Rattle.pct_engine_laws.specs.SeenSteps.{thread_with}
use Rattle.pct_process.specs.ProcessViews.{thread_on_slot, HoldsThread, ProcessData}
use Rattle.pct_process.proofs.ViewedSlots.{looked_up, not_looked_up}
use Rattle.pct_process.proofs.process_state.ProcessState.slot_with.Goals as goal

pub returns-clause-some : goal.returns-clause-some
returns-clause-some c =
    let s = c.self.inside in
    subst (λ (p : ProcessData). IfSome c.slot_named.result (λ slot. HoldsThread (thread_with (length p.slots) c.args.id p.slots) (thread_on_slot p.slots slot))) c.self.view_is
    (looked_up s.keys s.threads c.self.invariant.0 c.args.id c.slot_named.result c.slot_named.ensures.value c.slot_named.ensures.some c.slot_named.ensures.occupied)

pub returns-clause-none : goal.returns-clause-none
returns-clause-none c =
    let s = c.self.inside in
    subst (λ (p : ProcessData). IfNone c.slot_named.result (thread_with (length p.slots) c.args.id p.slots ≡ None)) c.self.view_is
    (not_looked_up s.keys s.threads c.self.invariant.0 c.args.id c.slot_named.result c.slot_named.ensures.value c.slot_named.ensures.some)
