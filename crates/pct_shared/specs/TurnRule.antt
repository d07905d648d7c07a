-- The rule of the turn: what holds of a host between any two steps on its table.
use Rattle.std.specs.Prelude.{◌≡◌, ◌≢◌, ◌⊎◌, ℕ, suc, ◌+◌, ◌<◌, ◌≤◌, true, List, [], ◌∷◌, ◌++◌, map, length, Option, Some, None, All, Contains}
use Rattle.std.specs.Global.{Box}
use mathlib.Core.Option as maybe
use lib.ListN.{get_elem?}
use Rattle.atomic_table.specs.Table.{State}
use Rattle.pct_model.specs.declared.schedule.Entry.{Entry}
use Rattle.pct_engine.specs.EngineStates.{EngineValue}
use Rattle.pct_shared.specs.declared.view.Opening.{Opening}
use Rattle.pct_shared.specs.declared.view.Known.{Known}
use Rattle.pct_shared.specs.declared.view.View.{View}
use Rattle.pct_shared.specs.Views.{IsPrefix, engine_after, opened, own, places}

-- the seat of a pass has its view, or nothing once another pass took it in
abbrev pub SeatView : Type 0
SeatView = Option View

-- the slot has the engine, or nothing while a pass has lifted it
abbrev pub Slot : Type 0
Slot = Option (Box EngineValue)

-- the seat at an index has this view
abbrev pub HasSeat : List SeatView → ℕ → SeatView → Type 0
HasSeat seats seat view = get_elem? seats seat ≡ maybe.some view

-- ---- what a worker knows

-- what a worker knows agrees with the history: it has seen a prefix of it, which begins with the history at the opening, and every
-- entry with its number is one that it made; past the opening it knows their places
pub record Agrees (o : Opening) (history : List Entry) (k : Known) : Type 0 where
  pub seen : IsPrefix k.seen history
  pub start : IsPrefix (opened o).history k.seen
  pub own_seen : k.mine ≡ own k.number k.seen
  pub own_all : k.mine ≡ own k.number history
  pub places : places k.number (opened o).history ++ map (λ pair. pair.0) k.at ≡ places k.number history

-- what a pass knows that was taken in: its seat is spent
pub record IsOld (o : Opening) (history : List Entry) (seats : List SeatView) (k : Known) : Type 0 where
  pub agrees : Agrees o history k
  pub seat : ℕ
  pub number : k.number ≡ suc seat
  pub spent : HasSeat seats seat None

-- ---- passes

-- a pass on its seat: the k-th pass that was made has the number k; one that holds the turn has seen the whole history; and only the
-- newest may split
pub record IsSeated (o : Opening) (turn : ℕ) (history : List Entry) (newest : ℕ) (seats : List SeatView) (seat : ℕ) (v : View) : Type 0 where
  pub opening : v.opening ≡ o
  pub number : v.known.number ≡ suc seat
  pub agrees : Agrees o history v.known
  pub holding : v.holding ≡ true → (turn ≡ v.known.number) × (v.known.seen ≡ history)
  pub made : v.made ≢ 0 → (seat ≡ newest) × (v.made ≡ length seats)
  pub olds : All (IsOld o history seats) v.olds

-- the engine is at home: it has made the run of the history
pub record IsHome (o : Opening) (history : List Entry) (homes : List (maybe.Option Slot)) : Type 0 where
  pub engine : Box EngineValue
  pub home : homes ≡ maybe.some (Some engine) ∷ []
  pub engine_is : engine.value ≡ engine_after o history

-- the pass with this number holds the turn
pub record IsHeld (turn : ℕ) (seats : List SeatView) : Type 0 where
  pub seat : ℕ
  pub turn_is : turn ≡ suc seat
  pub view : View
  pub seated : HasSeat seats seat (Some view)
  pub holds : view.holding ≡ true

-- a pass that is not spent took in one that knew this
pub record IsTakenIn (seats : List SeatView) (k : Known) : Type 0 where
  pub seat : ℕ
  pub view : View
  pub seated : HasSeat seats seat (Some view)
  pub old : Contains view.olds k

-- this is known to a pass that is not spent, or was to one that is
abbrev pub IsKnown : List SeatView → Known → Type 0
IsKnown seats k = ((seat : ℕ) × (view : View) × HasSeat seats seat (Some view) × (k ≡ view.known)) ⊎ IsTakenIn seats k

-- how many workers the passes know of: each itself, and those that it took in
abbrev pub known_count : List SeatView → ℕ
known_count [] = 0
known_count (Some v ∷ seats) = suc (length v.olds) + known_count seats
known_count (None ∷ seats) = known_count seats

-- all passes on their seats
pub record AreSeated (o : Opening) (turn : ℕ) (history : List Entry) (newest : ℕ) (seats : List SeatView) : Type 0 where
  pub seated : (seat : ℕ) (v : View) → HasSeat seats seat (Some v) → IsSeated o turn history newest seats seat v
  -- each pass that is spent was taken in, and each worker is known once
  pub spent : (seat : ℕ) → HasSeat seats seat None → (k : Known) × IsTakenIn seats k × (k.number ≡ suc seat)
  pub once : known_count seats ≡ length seats
  pub few : length seats ≤ o.workers
  -- the history is the longest list that a worker has seen
  pub longest : (k : Known) × IsKnown seats k × (k.seen ≡ history)
  -- since the opening only the passes that were made made entries
  pub others : (number : ℕ) → (number ≡ 0) ⊎ (length seats < number) → own number history ≡ own number (opened o).history

-- ---- the rule

pub record KeepsTurn (o : Opening) (s : State Slot SeatView) : Type 0 where
  -- the turn word: the number of the pass that holds the turn, or 0
  pub turn : ℕ
  pub words : s.words ≡ turn ∷ []
  pub history : List Entry
  -- the engine is at home if and only if nobody has the turn; else one pass holds it
  pub home : turn ≡ 0 → IsHome o history s.homes
  pub away : turn ≢ 0 → s.homes ≡ maybe.none ∷ []
  pub held : turn ≢ 0 → IsHeld turn s.views
  -- the pass that was made last
  pub newest : ℕ
  pub seats : AreSeated o turn history newest s.views
