use Rattle.pct_names.proofs.Names.{[], ap, arith, Box, eqb, get_or, IsSome, List, refl, same_Some, Some, subst, sym, ℕ, ◌∙◌, ◌∷◌, ◌≡◌}
use prog.Atomic.{either}
use Rattle.pct_engine.specs.EngineStates.{EngineValue}
use Rattle.atomic_table.specs.Table.{Me, Allows, rest}
use Rattle.pct_shared.specs.declared.view.View.{View}
use Rattle.pct_shared.specs.TurnRule.{KeepsTurn, SeatView, Slot}
use Rattle.pct_shared.specs.TurnSteps.{Took}
use Rattle.pct_shared.proofs.TurnAllowed.{takes_allowed}
use Rattle.pct_shared.proofs.shared.take_turn.Goals as goal

pub compare_exchange-found-requires : goal.compare_exchange-found-requires
compare_exchange-found-requires c =
    let n = c.requires.number in
    let key = c.args.desk.now.shared.key in
    let slots = c.args.desk.now.shared.table_id.slots in (
      c.requires.table,
      omega (arith, c.requires.desk.words),
      subst (λ (me : Me Slot SeatView). Allows (KeepsTurn key) slots c.args.seat.now.id me 0 (λ m. either (eqb m 0) c.from.result m) (Took me)) (sym n.1)
          (takes_allowed key slots c.args.seat.now.id c.from.result n.0 (n.2 ∙ sym c.from.ensures) n.3),
    )

pub returns-then-found-ne0-clause-missed : goal.returns-then-found-ne0-clause-missed
returns-then-found-ne0-clause-missed c = λ v is. (omega (arith, c.if-found-ne0.true), c.compare_exchange-found.ensures.2.missed v is c.if-found-ne0.true)

pub exchange-engine-requires : goal.exchange-engine-requires
exchange-engine-requires c =
    let n = c.requires.number in
    let got = c.compare_exchange-found.ensures.2.got n.0 n.1 c.if-found-ne0.false in
    (c.compare_exchange-found.ensures.0 ∙ c.requires.table, (Some got.engine, rw got.after_is refl))

-- the slot that the pass has taken
lifted_by : (slot slot' : Slot) → ◌≡◌ {A = List (ℕ × Slot)} ((0, slot) ∷ []) ((0, slot') ∷ rest ((0, slot) ∷ [])) → slot ≡ slot'
lifted_by slot slot' same = ap (λ (l : List (ℕ × Slot)). (get_or l 0 (0, slot)).1) same

pub unwrap-requires : goal.unwrap-requires
unwrap-requires c =
    let n = c.requires.number in
    let got = c.compare_exchange-found.ensures.2.got n.0 n.1 c.if-found-ne0.false in
    let same = lifted_by (Some got.engine) c.exchange-engine.result (rw got.after_is at c.exchange-engine.ensures.2) in
    subst (λ (slot : Slot). IsSome slot) same refl

pub returns-clause-got : goal.returns-clause-got
returns-clause-got c = λ v is.
    let n = c.requires.number in
    let first : n.0 ≡ v = same_Some n.0 v (ap (λ (me : Me Slot SeatView). me.0) (sym n.1 ∙ is)) in
    let got = c.compare_exchange-found.ensures.2.got v is c.if-found-ne0.false in
    let same = lifted_by (Some got.engine) c.exchange-engine.result (rw got.after_is at c.exchange-engine.ensures.2) in
    let engine : got.engine ≡ c.unwrap.result = same_Some got.engine c.unwrap.result (same ∙ c.unwrap.ensures) in
    record {
      history = got.history;
      engine_is = ap (λ (b : Box EngineValue). b.value) (sym engine) ∙ got.engine_is;
      rests = ap (λ (w : View). w.holding) (sym first) ∙ n.3;
      seen = got.seen;
      own_is = got.own_is;
      me_is = rw got.after_is at c.exchange-engine.ensures.3;
    }
