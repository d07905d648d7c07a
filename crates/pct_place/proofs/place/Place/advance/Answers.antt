use Rattle.pct_names.proofs.Names.{ap, Entry, is_some, length, subst, sym, true, ℕ, ◌∙◌, ◌≡◌}
use Rattle.pct_actions.specs.ProcessChanges.{AreOnSlots}
use Rattle.pct_engine_laws.specs.Seen.{SeenProcess, process_seen}
use Rattle.pct_process.specs.FamilyViews.{other_processes}
use Rattle.pct_process.specs.ProcessViews.{thread_on_slot}
use Rattle.pct_transitions.specs.ProcessSteps.{Takes}
use Rattle.pct_place.specs.ProcessSteps.{data_in}
use Rattle.pct_place.proofs.HeldSlots.{one_slot}
use Rattle.pct_place.proofs.StepsOfProcess.{thread_of, makes, holds_on, id_is, taken_on}
use Rattle.pct_place.proofs.place.Place.advance.Goals as goal

pub make-requires : goal.make-requires
make-requires g c =
    let program = c.args.around.program.now in
    let d = c.self.inside.state in
    let slot = c.args.slot in
    makes program.script program.config (other_processes c.args.around.family) d c.in_ok-alt.alt slot c.transition_by_number.new.transition
    (subst (λ (p : SeenProcess). AreOnSlots p.slots) (sym c.self.view_is) c.requires.can.on_slots)
    (subst (λ (p : SeenProcess). is_some (thread_on_slot p.slots slot) ≡ true) (sym c.self.view_is) c.requires.held)
    c.in_ok-alt.ensures.taken (λ u at same. c.in_ok-alt.ensures.fits u at)

pub returns-clause-taken : goal.returns-clause-taken
returns-clause-taken g c =
    let program = c.args.around.program.now in
    let family = other_processes c.args.around.family in
    let slot = c.args.slot in
    let p : SeenProcess = c.args.self.now in
    let o = c.transition_by_number.new.transition in
    let t = thread_of (thread_on_slot p.slots slot) c.requires.held in
    let at = ap (λ (q : SeenProcess). thread_on_slot q.slots slot) c.self.view_is ∙ t.1 in
    let e : Entry = record { worker = c.args.draw.worker; pid = p.pid; tid = c.id_on-tid.result; alt = c.in_ok-alt.alt } in
    taken_on program.script program.config family p slot t.0 e o c.requires.can t.1 (id_is c.self.inside.state.slots slot e.tid t.0 at c.id_on-tid.ensures)
    (subst (λ (q : SeenProcess). Takes program.script program.config family (data_in q) t.0 e.alt true o) c.self.view_is (c.in_ok-alt.ensures.taken t.0 at))

pub returns-clause-made : goal.returns-clause-made
returns-clause-made g c =
    let s = c.self.inside in
    let slot = c.args.slot in
    let tid = c.id_on-tid.result in
    let o = c.transition_by_number.new.transition in
    let on : AreOnSlots s.state.slots = subst (λ (p : SeenProcess). AreOnSlots p.slots) (sym c.self.view_is) c.requires.can.on_slots in
    let t = thread_of (thread_on_slot s.state.slots slot) (subst (λ (p : SeenProcess). is_some (thread_on_slot p.slots slot) ≡ true) (sym c.self.view_is) c.requires.held) in
    let moved = c.make.ensures.made tid (one_slot s.state.slots on tid slot (holds_on s.state.slots on slot tid t.0 t.1 (id_is s.state.slots slot tid t.0 t.1 c.id_on-tid.ensures))) in
    (λ i. record { pid = s.relative.pid; parent = s.relative.parent; ended = s.relative.ended; slots = (moved i).slots; shared = (moved i).shared })
    ∙ ap (λ (p : SeenProcess). process_seen (length p.slots) tid o p) c.self.view_is
    ∙ ap (λ (n : ℕ). process_seen n tid o c.args.self.now) c.requires.can.all
