use Rattle.pct_names.proofs.Names.{◌++◌, ◌-◌, [], All-pop, ap, arith, false, List, map, None, Some, subst, sym, take, ℕ, ◌∙◌, ◌∷◌, ◌≡◌}
use Rattle.std.proofs.Common.{append-nil}
use Rattle.std.proofs.lemmas.List.{append_assoc}
use Rattle.atomic_table.specs.Table.{Me, Joins}
use Rattle.pct_shared.specs.declared.view.Known.{Known}
use Rattle.pct_shared.specs.declared.view.Opening.{Opening}
use Rattle.pct_shared.specs.declared.view.View.{View}
use Rattle.pct_shared.specs.declared.worker.Worker.{Worker}
use Rattle.pct_shared.specs.TurnRule.{KeepsTurn, SeatView, Slot}
use Rattle.pct_shared.specs.Views.{taken_in}
use Rattle.pct_shared.proofs.Seats.{seat_with}
use Rattle.pct_shared.proofs.TurnAllowed.{joins_allowed}
use Rattle.pct_shared.proofs.shared.join_passes.Goals as goal

-- the seats of two passes may be joined
seats_join : (key : Opening) (id other : ℕ) (me mine : Me Slot SeatView) (v w : View) → me ≡ (Some v, []) → mine ≡ (Some w, []) → w.holding ≡ false → Joins (KeepsTurn key) id me.0 other mine.0 (taken_in me.0 mine.0) None
seats_join key id other me mine v w is his rests =
    subst (λ (m : Me Slot SeatView). Joins (KeepsTurn key) id m.0 other mine.0 (taken_in m.0 mine.0) None) (sym is)
    (subst (λ (m : Me Slot SeatView). Joins (KeepsTurn key) id (Some v) other m.0 (taken_in (Some v) m.0) None) (sym his) (joins_allowed key id other v w rests))

pub join_seat-requires : goal.join_seat-requires
join_seat-requires c =
    let v = c.requires.view in
    let key = c.args.desk.now.shared.key in
    let now = c.loop-worker.invariant.olds v.0 v.1 in
    let popped = All-pop (λ (w : Worker). w.pass.host ≡ c.args.desk.now.shared.table_id) c.loop-worker.workers.items c.pop.new.self.items (Some c.in-Some.worker) c.in-Some.ensures.items c.loop-worker.invariant.passes in (
      c.loop-worker.invariant.table,
      c.into_seat.ensures.host ∙ popped.1,
      ap (λ (m : Me Slot SeatView). m.1) c.into_seat.ensures.view,
      omega (arith, c.requires.desk.words),
      seats_join key c.loop-worker.seat.id c.into_seat.result.id c.loop-worker.seat.me c.into_seat.result.me _ c.in-Some.worker.pass.view now c.into_seat.ensures.view c.into_seat.ensures.rests.0,
    )

-- the seat after the join, by the views before it
joined_seat : (me mine then : Me Slot SeatView) (v w : View) (known : List Known) → then ≡ (taken_in me.0 mine.0, me.1) → me ≡ (Some (record v { olds = known ++ v.olds }), []) → mine ≡ (Some w, []) → w.olds ≡ []
    → then ≡ (Some (record v { olds = w.known ∷ known ++ v.olds }), [])
joined_seat me mine then v w known joins is his none =
    joins
    ∙ ap (λ (m : Me Slot SeatView). seat_with (taken_in m.0 mine.0) m.1) is
    ∙ ap (λ (m : Me Slot SeatView). seat_with (taken_in (Some (record v { olds = known ++ v.olds })) m.0) []) his
    ∙ ap (λ (l : List Known). seat_with (Some (record v { olds = w.known ∷ (l ++ (known ++ v.olds)) })) []) none

pub loop-worker-preserved : goal.loop-worker-preserved
loop-worker-preserved c =
    let invariant = c.loop-worker.invariant in
    let worker = c.in-Some.worker in
    let popped = All-pop (λ (w : Worker). w.pass.host ≡ c.args.desk.now.shared.table_id) c.loop-worker.workers.items c.pop.new.self.items (Some worker) c.in-Some.ensures.items invariant.passes in
    record {
      table = c.join_seat.ensures.0 ∙ invariant.table;
      passes = popped.0;
      joined = worker ∷ invariant.joined;
      all = invariant.all ∙ ap (λ (l : List Worker). l ++ invariant.joined) c.in-Some.ensures.items ∙ append_assoc c.pop.new.self.items (worker ∷ []) invariant.joined;
      olds = λ v is. joined_seat c.loop-worker.seat.me c.into_seat.result.me c.join_seat.new.seat.me v worker.pass.view (map (λ (w : Worker). w.pass.view.known) invariant.joined) c.join_seat.ensures.2 (invariant.olds v is) c.into_seat.ensures.view c.into_seat.ensures.rests.1;
    }

pub returns-clause-olds : goal.returns-clause-olds
returns-clause-olds c = λ v is.
    let ensures = c.in_default.ensures in
    let invariant = c.loop-worker.invariant in
    let none : c.loop-worker.workers.items ≡ [] = ensures.items ∙ append-nil c.pop.new.self.items ∙ ensures.rest ∙ ap (λ (n : ℕ). take (n - 1) c.loop-worker.workers.items) ensures.cases.0 in
    let all : c.args.workers.now.items ≡ invariant.joined = invariant.all ∙ ap (λ (l : List Worker). l ++ invariant.joined) none in
    invariant.olds v is ∙ ap (λ (l : List Worker). seat_with (Some (record v { olds = map (λ (w : Worker). w.pass.view.known) l ++ v.olds })) []) (sym all)
