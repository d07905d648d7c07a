use Rattle.pct_names.proofs.Names.{[], ap, arith, None, option_map, refl, Some, subst, sym, ◌∙◌, ◌∷◌, ◌≡◌}
use Rattle.atomic_table.specs.Table.{Me, Allows, rest}
use Rattle.pct_shared.specs.TurnRule.{KeepsTurn, SeatView, Slot}
use Rattle.pct_shared.specs.TurnSteps.{Gave, gave_view, given_history}
use Rattle.pct_shared.proofs.TurnAllowed.{gives_allowed}
use Rattle.pct_shared.proofs.shared.give_turn.Goals as goal

pub exchange-requires : goal.exchange-requires
exchange-requires c = let g = c.requires.gives in (c.requires.table, (None, rw g.me_is refl))

pub store-requires : goal.store-requires
store-requires c =
    let g = c.requires.gives in
    let e = c.exchange.ensures in
    let key = c.args.desk.now.shared.key in
    let slots = c.args.desk.now.shared.table_id.slots in
    let me_is : c.exchange.new.seat.me ≡ (Some g.view, (0, Some c.args.engine) ∷ []) = rw g.me_is at e.3 in (
      e.0 ∙ c.requires.table,
      omega (arith, c.requires.desk.words),
      subst (λ (me : Me Slot SeatView). Allows (KeepsTurn key) slots c.exchange.new.seat.id me 0 (λ m. 0) (λ m. Gave me)) (sym me_is)
          (gives_allowed key slots c.exchange.new.seat.id g.view c.args.engine g.added g.holds g.step g.history_is),
    )

pub returns-clause-gave : goal.returns-clause-gave
returns-clause-gave c =
    let g = c.requires.gives in
    let e = c.exchange.ensures in
    let me_is : c.exchange.new.seat.me ≡ (Some g.view, (0, Some c.args.engine) ∷ []) = rw g.me_is at e.3 in
    c.store.ensures.2
    ∙ ap (λ (me : Me Slot SeatView). (option_map (gave_view (given_history me.1)) me.0, rest me.1)) me_is
    ∙ ap (λ (me : Me Slot SeatView). (option_map (gave_view c.args.engine.value.history) me.0, [])) (sym g.me_is)
