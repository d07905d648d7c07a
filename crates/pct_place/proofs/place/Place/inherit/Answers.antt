use Rattle.pct_names.proofs.Names.{ap, None, subst, sym, ◌∙◌}
use Rattle.pct_engine_laws.specs.Seen.{SeenProcess, child_seen}
use Rattle.pct_actions.specs.ProcessChanges.{AreOnSlots}
use Rattle.pct_place.proofs.HeldSlots.{one_slot}
use Rattle.pct_place.proofs.place.Place.inherit.Goals as goal

pub returns-clause-child : goal.returns-clause-child
returns-clause-child g c =
    let parent = c.parent.inside in
    let on : AreOnSlots parent.state.slots = subst (λ (p : SeenProcess). AreOnSlots p.slots) (sym c.parent.view_is) c.requires.on_slots in
    let inherited = c.inherit.ensures.data c.args.tid (one_slot parent.state.slots on c.args.tid c.in-Some.slot c.in-Some.ensures.some) in
    (λ i. record { pid = c.args.pid; parent = parent.relative.pid; ended = None; slots = (inherited i).slots; shared = (inherited i).shared })
    ∙ ap (child_seen c.args.tid c.args.pid) c.parent.view_is
