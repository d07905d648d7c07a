use Rattle.pct_names.proofs.Names.{ap, arith, false, IfSome, is_some, length, subst, sym, ◌∙◌, ◌≡◌, ◌≤◌}
use Rattle.pct_engine_laws.specs.Seen.{SeenProcess}
use Rattle.pct_place.specs.ProcessSteps.{IsOnlySlot}
use Rattle.pct_place.proofs.OnlySlots.{first_is_only}
use Rattle.pct_place.proofs.place.Place.only_slot.Goals as goal

pub returns : goal.returns
returns c =
    let s = c.self.inside in
    let p : SeenProcess = record { pid = s.relative.pid; parent = s.relative.parent; ended = s.relative.ended; slots = s.state.slots; shared = s.state.shared } in
    let few : length p.slots ≤ 64 = omega (arith, c.slot_count-count.ensures.value, c.slot_count-count.ensures.few) in
    let live : is_some p.ended ≡ false = ap (λ (q : SeenProcess). is_some q.ended) c.self.view_is ∙ sym c.has_ended.ensures ∙ c.if-has_ended.false in
    let one : length c.occupied-occupied.result ≡ 1 = sym c.len.ensures.value ∙ c.if-len-ne1.false in
    subst (λ (q : SeenProcess). IfSome c.nth.result (IsOnlySlot q)) c.self.view_is
    (first_is_only p c.occupied-occupied.result c.occupied-occupied.ensures c.slot_count-count.ensures.single few live one c.nth.result c.nth.ensures.value)
