-- A pass before and after a turn.
use Rattle.pct_names.proofs.Names.{◌<◌, [], ap, false, MAX_WORKER, refl, Some, subst, sym, ℕ, ◌∙◌, ◌≡◌, ◌≤◌}
use Rattle.atomic_table.specs.Table.{Me}
use Rattle.pct_shared.specs.declared.shared.Turn.{Turn}
use Rattle.pct_shared.specs.declared.shared.Turn.TheVariants as turn
use Rattle.pct_shared.specs.declared.view.Opening.{Opening}
use Rattle.pct_shared.specs.declared.view.View.{View}
use Rattle.pct_shared.specs.Passes.{IsAtRest, IsTurn, KeptByTurn, view_on}
use Rattle.pct_shared.specs.TurnRule.{SeatView, Slot}
use Rattle.pct_shared.specs.TurnSteps.{HasTakenTurn, MissedTurn, missing_view}

-- a turn that found another pass
pub turn_busy : (v : View) (found : ℕ) (me : Me Slot SeatView) (a b : ℕ) → v.holding ≡ false → 0 < found → MissedTurn v found me → HasTakenTurn v me a b (turn.Busy found)
turn_busy v found me a b rests some missed = record {
  after = missing_view v found;
  seat = missed.after_is;
  turn = record { known = refl; misses = refl; found_is = refl; some = some; within = missed.within; another = missed.another; alone = missed.alone };
  kept = record { opening = refl; number = refl; olds = refl; made = refl; at_rest = (rests, rests); takes = refl };
}

-- a pass at rest
pub at_rest : (o : Opening) (number : ℕ) (me : Me Slot SeatView) (w : View) → me ≡ (Some w, []) → w.known.number ≡ number → number ≤ MAX_WORKER → w.holding ≡ false → w.olds ≡ [] → IsAtRest number o me
at_rest o number me w is number_is few rests none =
    subst (IsAtRest number o) (sym is) (record { seat = refl; number_is = number_is; few = few; not_holding = rests; none_old = none })

module _ (o : Opening) (number : ℕ) (me then : Me Slot SeatView) (rest : IsAtRest number o me) (a b : ℕ) (result : Turn) (taken : HasTakenTurn (view_on o me.0) then a b result) where
  -- the view afterwards
  view_then : view_on o then.0 ≡ taken.after
  view_then = ap (λ (m : Me Slot SeatView). view_on o m.0) taken.seat

  pub rests_after : IsAtRest number o then
  rests_after = at_rest o number then taken.after taken.seat (taken.kept.number ∙ rest.number_is) rest.few taken.kept.at_rest.1 (taken.kept.olds ∙ rest.none_old)

  pub kept_by_turn : KeptByTurn (view_on o me.0) (view_on o then.0)
  kept_by_turn = subst (KeptByTurn (view_on o me.0)) (sym view_then) taken.kept

  pub turn_after : IsTurn (view_on o me.0) (view_on o then.0) a b result
  turn_after = subst (λ (w : View). IsTurn (view_on o me.0) w a b result) (sym view_then) taken.turn
