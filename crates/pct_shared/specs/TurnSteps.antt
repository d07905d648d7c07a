-- What the two steps on the turn word tell a pass.
use Rattle.std.specs.Prelude.{◌≡◌, ◌≢◌, ◌⊎◌, ℕ, suc, ◌≤◌, true, false, List, [], ◌∷◌, ◌++◌, map, drop, length, Some, None, option_map}
use Rattle.std.specs.Global.{Box}
use Rattle.atomic_table.specs.Table.{Me, rest}
use Rattle.pct_model.specs.declared.schedule.Entry.{Entry}
use Rattle.pct_engine.specs.EngineStates.{EngineValue}
use Rattle.pct_shared.specs.declared.view.View.{View}
use Rattle.pct_shared.specs.Views.{IsPrefix, engine_after, own}
use Rattle.pct_shared.specs.declared.shared.Turn.{Turn}
use Rattle.pct_shared.specs.Passes.{IsTurn, KeptByTurn}
use Rattle.pct_shared.specs.TurnRule.{SeatView, Slot}

-- ---- the take

-- the view after a take that succeeds: the pass holds the turn, and has seen the whole history
abbrev pub holding_view : View → List Entry → View
holding_view v history = record v { takes = suc v.takes; found = 0; holding = true; known = record v.known { seen = history } }

-- the view after a take that finds another pass
abbrev pub missing_view : View → ℕ → View
missing_view v found = record v { takes = suc v.takes; misses = suc v.misses; found = found }

-- the pass got the turn, and the engine with it
pub record GotTurn (v : View) (after : Me Slot SeatView) : Type 0 where
  pub engine : Box EngineValue
  pub history : List Entry
  pub engine_is : engine.value ≡ engine_after v.opening history
  pub seen : IsPrefix v.known.seen history
  pub own_is : v.known.mine ≡ own v.known.number history
  pub after_is : after ≡ (Some (holding_view v history), (0, Some engine) ∷ [])

-- the pass found another one, and nothing was changed
pub record MissedTurn (v : View) (found : ℕ) (after : Me Slot SeatView) : Type 0 where
  pub within : found ≤ v.opening.workers
  pub another : found ≢ v.known.number
  pub alone : v.opening.workers ≢ 1
  pub after_is : after ≡ (Some (missing_view v found), [])

-- what the take tells a pass
pub record Took (before : Me Slot SeatView) (found : ℕ) (after : Me Slot SeatView) : Type 0 where
  pub got : (v : View) → before ≡ (Some v, []) → found ≡ 0 → GotTurn v after
  pub missed : (v : View) → before ≡ (Some v, []) → found ≢ 0 → MissedTurn v found after

-- ---- the give

-- the history of the engine that a pass gives back
abbrev pub given_history : List (ℕ × Slot) → List Entry
given_history [] = []
given_history ((slot, Some engine) ∷ slots) = engine.value.history
given_history ((slot, None) ∷ slots) = []

-- the view after the turn was given back with an engine that has made these entries: those that the pass has not seen are its own
abbrev pub gave_view : List Entry → View → View
gave_view history v = record v {
  holding = false;
  known = record {
    number = v.known.number;
    seen = history;
    mine = v.known.mine ++ drop (length v.known.seen) history;
    at = v.known.at ++ map (λ e. (length v.known.seen, v.takes)) (drop (length v.known.seen) history);
  };
}

-- what the give tells a pass
abbrev pub Gave : Me Slot SeatView → Me Slot SeatView → Type 0
Gave before after = after ≡ (option_map (gave_view (given_history before.1)) before.0, rest before.1)

-- ---- the parts of a turn

-- a seat of a pass with this view, which holds nothing
abbrev pub IsSeatOf : Me Slot SeatView → View → Type 0
IsSeatOf me v = me ≡ (Some v, [])

-- a pass with this number, on a seat that holds nothing
abbrev pub HasNumber : Me Slot SeatView → ℕ → Type 0
HasNumber me number = (v : View) × IsSeatOf me v × (v.known.number ≡ number) × (v.holding ≡ false)

-- a pass has lifted the engine; before, it had the first view, and did not hold the turn
pub record HasLifted (v : View) (me : Me Slot SeatView) (engine : EngineValue) : Type 0 where
  pub history : List Entry
  pub engine_is : engine ≡ engine_after v.opening history
  pub rests : v.holding ≡ false
  pub seen : IsPrefix v.known.seen history
  pub own_is : v.known.mine ≡ own v.known.number history
  pub me_is : me ≡ (Some (holding_view v history), (0, None) ∷ [])

-- nothing, or one entry with this number
abbrev pub AtMostOne : ℕ → List Entry → Type 0
AtMostOne number entries = (entries ≡ []) ⊎ ((e : Entry) × (entries ≡ e ∷ []) × (e.worker ≡ number))

-- a pass that holds the turn and has lifted the engine gives it back after at most one step
pub record MayGive (me : Me Slot SeatView) (engine : EngineValue) : Type 0 where
  pub view : View
  pub me_is : me ≡ (Some view, (0, None) ∷ [])
  pub holds : view.holding ≡ true
  pub added : List Entry
  pub step : AtMostOne view.known.number added
  pub history_is : engine ≡ engine_after view.opening (view.known.seen ++ added)

-- the pass after a turn; before, it had the first view
pub record HasTakenTurn (v : View) (me : Me Slot SeatView) (a b : ℕ) (result : Turn) : Type 0 where
  pub after : View
  pub seat : IsSeatOf me after
  pub turn : IsTurn v after a b result
  pub kept : KeptByTurn v after
