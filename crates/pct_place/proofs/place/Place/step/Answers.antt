use Rattle.pct_names.proofs.Names.{ap, length, subst, sym, ℕ, ◌∙◌}
use Rattle.pct_actions.specs.ProcessChanges.{AreOnSlots}
use Rattle.pct_engine_laws.specs.Seen.{SeenProcess, process_seen}
use Rattle.pct_process.specs.FamilyViews.{other_processes}
use Rattle.pct_place.proofs.HeldSlots.{one_slot}
use Rattle.pct_place.proofs.StepsOfProcess.{makes}
use Rattle.pct_place.proofs.place.Place.step.Goals as goal

pub make-requires : goal.make-requires
make-requires g c =
    let program = c.args.around.program.now in
    makes program.script program.config (other_processes c.args.around.family) c.self.inside.state c.args.entry.now.alt c.in-Some.slot c.transition_if_offered.new.transition
    (subst (λ (p : SeenProcess). AreOnSlots p.slots) (sym c.self.view_is) c.requires.on_slots) c.in-Some.ensures.some.some c.if-not-transition_if_offered.ensures.taken c.if-not-transition_if_offered.ensures.fits

pub returns-clause-made : goal.returns-clause-made
returns-clause-made g c =
    let s = c.self.inside in
    let tid = c.args.entry.now.tid in
    let o = c.transition_if_offered.new.transition in
    let on : AreOnSlots s.state.slots = subst (λ (p : SeenProcess). AreOnSlots p.slots) (sym c.self.view_is) c.requires.on_slots in
    let moved = c.make.ensures.made tid (one_slot s.state.slots on tid c.in-Some.slot c.in-Some.ensures.some) in
    (λ i. record { pid = s.relative.pid; parent = s.relative.parent; ended = s.relative.ended; slots = (moved i).slots; shared = (moved i).shared })
    ∙ ap (λ (p : SeenProcess). process_seen (length p.slots) tid o p) c.self.view_is
    ∙ ap (λ (n : ℕ). process_seen n tid o c.args.self.now) c.requires.all
