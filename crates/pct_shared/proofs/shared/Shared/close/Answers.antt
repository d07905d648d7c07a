use Rattle.pct_names.proofs.Names.{ap, Box, IsSome, refl, same_Some, subst, sym, ◌∙◌}
use Rattle.pct_engine.specs.EngineStates.{EngineValue}
use Rattle.pct_shared.specs.Hosts.{IsClosing}
use Rattle.pct_shared.specs.TurnRule.{Slot}
use Rattle.pct_shared.proofs.Closing.{engine_at_end}
use Rattle.pct_shared.proofs.shared.Shared.close.Goals as goal

pub unwrap-requires : goal.unwrap-requires
unwrap-requires c =
    let seat = c.into_seat-seat.ensures in
    let desk = c.self.inside.desk.shared in
    let e = engine_at_end c.args.self desk.key desk.table_id c.self.view_is c.join_passes.new.seat.id c.into_seat-seat.result.me c.join_passes.new.seat.me _ _ c.take-engine.result c.args.workers.items c.pop.new.self.items c.unwrap-last.result
    c.close_with-closed.ensures.values.2 c.take-engine.ensures.value (rw c.unwrap-last.ensures at c.pop.ensures.items) seat.view seat.rests c.join_passes.ensures.olds c.requires in
    subst (λ (slot : Slot). IsSome slot) (sym e.slot_is) refl

pub returns : goal.returns
returns c =
    let seat = c.into_seat-seat.ensures in
    let desk = c.self.inside.desk.shared in
    let e = engine_at_end c.args.self desk.key desk.table_id c.self.view_is c.join_passes.new.seat.id c.into_seat-seat.result.me c.join_passes.new.seat.me _ _ c.take-engine.result c.args.workers.items c.pop.new.self.items c.unwrap-last.result
    c.close_with-closed.ensures.values.2 c.take-engine.ensures.value (rw c.unwrap-last.ensures at c.pop.ensures.items) seat.view seat.rests c.join_passes.ensures.olds c.requires in
    let same = same_Some e.engine c.unwrap.result (sym e.slot_is ∙ c.unwrap.ensures) in
    subst (IsClosing c.args.self.opening c.args.workers.items) (ap (λ (b : Box EngineValue). b.value) same ∙ sym c.into_inner.ensures) e.closing_is
