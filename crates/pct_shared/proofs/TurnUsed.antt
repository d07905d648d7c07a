-- A turn of a pass that has lifted the engine: a step, or the verdict.
use Rattle.pct_names.proofs.Names.{◌++◌, [], ap, chosen, Entry, false, inl, inr, length, List, None, option_map, refl, Run, same_Some, Some}
use Rattle.pct_names.proofs.Names.{subst, sym, Verdict, verdict_of, ℕ, ◌∙◌, ◌∷◌, ◌≡◌}
use Rattle.std.proofs.Common.{append-nil, eq-eqb}
use Rattle.atomic_table.specs.Table.{Me}
use Rattle.pct_model.specs.declared.stop.Verdict.TheVariants as verdict
use Rattle.pct_engine.specs.EngineStates.{EngineValue, IsChoice, IsRunOf, IsRunWith}
use Rattle.pct_engine.proofs.ChosenEntries.{chosen-legal, is_open}
use Rattle.pct_shared.specs.declared.shared.Turn.TheVariants as turn
use Rattle.pct_shared.specs.declared.view.View.{View}
use Rattle.pct_shared.specs.Passes.{FoundClosed, MadeStep}
use Rattle.pct_shared.specs.TurnRule.{SeatView, Slot}
use Rattle.pct_shared.specs.TurnSteps.{HasLifted, HasTakenTurn, MayGive, gave_view, holding_view}
use Rattle.pct_shared.specs.Views.{engine_after}
use Rattle.pct_shared.proofs.ChosenWorkers.{chosen-worker}
use Rattle.pct_shared.proofs.OwnEntries.{own_more}
use Rattle.pct_shared.proofs.Seats.{seat_with}
use Rattle.pct_shared.proofs.TurnAllowed.{gave_added, gave_nothing, view_with}

module _ (v : View) (me : Me Slot SeatView) (engine : EngineValue) (lifted : HasLifted v me engine) where
  -- the view while the pass has the engine
  abbrev pub holder : View
  holder = holding_view v lifted.history

  -- the engine as it was lifted
  found : engine ≡ engine_after v.opening lifted.history
  found = lifted.engine_is

  -- ---- without a step

  pub may_return : MayGive me engine
  may_return = record {
    view = holder;
    me_is = lifted.me_is;
    holds = refl;
    added = [];
    step = inl refl;
    history_is = found ∙ ap (engine_after v.opening) (sym (append-nil lifted.history));
  }

  gave_same : gave_view engine.history holder ≡ record holder { holding = false }
  gave_same = ap (λ (l : List Entry). gave_view l holder) (ap (λ (x : EngineValue). x.history) found ∙ sym (append-nil lifted.history)) ∙ gave_nothing holder

  pub turn_over : (then : Me Slot SeatView) (after : Run) (a b : ℕ) (told : Verdict) → then ≡ (option_map (gave_view engine.history) me.0, []) → IsRunOf engine after → told ≡ verdict_of engine.script engine.config after.world (length engine.history)
      → IsChoice engine after v.known.number a b None → HasTakenTurn v then a b (turn.Over told)
  turn_over then after a b told gave is_run told_is choice =
      let closed : FoundClosed v (record holder { holding = false }) told = record {
        front = lifted.seen;
        then = after;
        is_run = subst (λ (x : EngineValue). IsRunOf x after) found is_run;
        verdict_is = subst (λ (x : EngineValue). told ≡ verdict_of x.script x.config after.world (length x.history)) found told_is;
        closed = λ goes_on. choice.legal (sym told_is ∙ goes_on);
        mine = refl;
        own_is = lifted.own_is;
        at = refl;
        misses = refl;
        found = refl;
      } in
      record {
        after = record holder { holding = false };
        seat = gave ∙ ap (λ (m : Me Slot SeatView). seat_with (option_map (gave_view engine.history) m.0) []) lifted.me_is ∙ ap (λ (w : View). seat_with (Some w) []) gave_same;
        turn = closed;
        kept = record { opening = refl; number = refl; olds = refl; made = refl; at_rest = (lifted.rests, refl); takes = refl };
      }

  -- ---- with a step

  module _ (after : Run) (a b : ℕ) (e : Entry) (is_run : IsRunOf engine after) (choice : IsChoice engine after v.known.number a b (Some e)) where
    was_open : verdict_of engine.script engine.config after.world (length engine.history) ≡ verdict.Open
    was_open = is_open engine after v.known.number a b e choice

    picked : chosen engine.script engine.config after.world v.known.number a b ≡ Some e
    picked = sym (choice.scheduled was_open)

    mine : e.worker ≡ v.known.number
    mine = chosen-worker engine.script engine.config after.world v.known.number a b e picked

    pub may_give : (made : EngineValue) → made ≡ record engine { history = engine.history ++ e ∷ [] } → MayGive me made
    may_give made made_is = record {
      view = holder;
      me_is = lifted.me_is;
      holds = refl;
      added = e ∷ [];
      step = inr (e, refl, mine);
      history_is = made_is ∙ ap (λ (x : EngineValue). record x { history = x.history ++ e ∷ [] }) found;
    }

    -- the view after the step
    abbrev then_view : View
    then_view = view_with holder (lifted.history ++ e ∷ []) (e ∷ [])

    gave_more : (made : EngineValue) → made ≡ record engine { history = engine.history ++ e ∷ [] } → gave_view made.history holder ≡ then_view
    gave_more made made_is =
        ap (λ (x : EngineValue). gave_view x.history holder) made_is
        ∙ ap (λ (x : EngineValue). gave_view (x.history ++ e ∷ []) holder) found
        ∙ gave_added holder (e ∷ [])

    pub turn_made : (then : Me Slot SeatView) (made : EngineValue) → made ≡ record engine { history = engine.history ++ e ∷ [] } → then ≡ (option_map (gave_view made.history) me.0, []) → HasTakenTurn v then a b (turn.Did e)
    turn_made then made made_is gave =
        let step : MadeStep v then_view a b e = record {
          history = lifted.history;
          front = lifted.seen;
          seen = refl;
          then = after;
          is_run = subst (λ (x : EngineValue). IsRunOf x after) found is_run;
          was_open = subst (λ (x : EngineValue). verdict_of x.script x.config after.world (length x.history) ≡ verdict.Open) found was_open;
          chosen_is = subst (λ (x : EngineValue). chosen x.script x.config after.world v.known.number a b ≡ Some e) found picked;
          legal = subst (λ (x : EngineValue). IsRunWith x e) found (chosen-legal engine after v.known.number a b e choice);
          mine = refl;
          own_is = ap (λ (l : List Entry). l ++ e ∷ []) lifted.own_is ∙ sym (own_more v.known.number lifted.history e (eq-eqb e.worker v.known.number mine));
          at = refl;
          misses = refl;
          found = refl;
        } in
        record {
          after = then_view;
          seat = gave ∙ ap (λ (m : Me Slot SeatView). seat_with (option_map (gave_view made.history) m.0) []) lifted.me_is ∙ ap (λ (w : View). seat_with (Some w) []) (gave_more made made_is);
          turn = step;
          kept = record { opening = refl; number = refl; olds = refl; made = refl; at_rest = (lifted.rests, refl); takes = refl };
        }

-- ---- the pass

-- the number of the pass that has the engine
pub lifted_number : (v w : View) (me : Me Slot SeatView) (engine : EngineValue) → HasLifted v me engine → HasLifted w me engine → w.known.number ≡ v.known.number
lifted_number v w me engine l m =
    ap (λ (u : View). u.known.number) (same_Some (holding_view w m.history) (holding_view v l.history) (ap (λ (x : Me Slot SeatView). x.0) (sym m.me_is ∙ l.me_is)))
