-- Hosts and passes, as a contract sees them.
use Rattle.std.specs.Prelude.{◌≡◌, ◌≢◌, ℕ, suc, ◌≤◌, ◌<◌, false, List, [], ◌∷◌, ◌++◌, length, Some, unwrap_or}
use Rattle.atomic_table.specs.Seated.{TableId}
use Rattle.atomic_table.specs.Table.{Me}
use Rattle.pct_model.specs.declared.limits.TheConstants.{MAX_WORKER}
use Rattle.pct_model.specs.declared.schedule.Entry.{Entry}
use Rattle.pct_model.specs.declared.stop.Verdict.{Verdict}
use Rattle.pct_model.specs.declared.stop.Verdict.TheVariants as verdict
use Rattle.pct_model.specs.Chosen.{chosen}
use Rattle.pct_model.specs.Run.{Run, verdict_of}
use Rattle.pct_engine.specs.EngineStates.{IsRunOf, IsRunWith}
use Rattle.pct_shared.specs.declared.view.Opening.{Opening}
use Rattle.pct_shared.specs.declared.view.View.{View}
use Rattle.pct_shared.specs.declared.shared.Turn.{Turn}
use Rattle.pct_shared.specs.declared.shared.Turn.TheVariants as turn
use Rattle.pct_shared.specs.Views.{IsPrefix, engine_after, new_view, opened, own}
use Rattle.pct_shared.specs.TurnRule.{SeatView, Slot}

-- ---- values

-- a host: which table it has, and what it was opened with
pub record SharedValue : Type 0 where
  pub host : TableId
  pub opening : Opening

-- a pass: of which table it is, and its view
pub record PassValue : Type 0 where
  pub host : TableId
  pub view : View

-- the view on a seat; one that is spent has none, and no pass has such a seat
abbrev pub view_on : Opening → SeatView → View
view_on o seat = unwrap_or seat (new_view o 0)

-- a table with one word, which is the turn, and one slot, which has the engine; there are 1 to MAX_WORKER workers
pub record IsDesk (host : TableId) (o : Opening) : Type 0 where
  pub words : host.words ≡ 1
  pub slots : host.slots ≡ 1
  pub some_workers : 0 < o.workers
  pub few_workers : o.workers ≤ MAX_WORKER

-- between the calls a pass holds nothing, and has taken in no other
pub record IsAtRest (number : ℕ) (o : Opening) (me : Me Slot SeatView) : Type 0 where
  pub seat : me ≡ (Some (view_on o me.0), [])
  pub number_is : (view_on o me.0).known.number ≡ number
  pub few : number ≤ MAX_WORKER
  pub not_holding : (view_on o me.0).holding ≡ false
  pub none_old : (view_on o me.0).olds ≡ []

-- a pass of a host
pub record IsPassOf (host : SharedValue) (pass : PassValue) : Type 0 where
  pub same_host : pass.host ≡ host.host
  pub opening : pass.view.opening ≡ host.opening

-- ---- one turn

-- what a turn leaves as it is; it takes the turn word once
pub record KeptByTurn (before after : View) : Type 0 where
  pub opening : after.opening ≡ before.opening
  pub number : after.known.number ≡ before.known.number
  pub olds : after.olds ≡ before.olds
  pub made : after.made ≡ before.made
  pub at_rest : (before.holding ≡ false) × (after.holding ≡ false)
  pub takes : after.takes ≡ suc before.takes

pub record TookOneTurn (before after : PassValue) : Type 0 where
  pub host : after.host ≡ before.host
  pub kept : KeptByTurn before.view after.view

-- the pass made the step of an entry: the one that it chooses by two numbers, in the state after the history that it found, which begins
-- with what it had seen
pub record MadeStep (before after : View) (a b : ℕ) (e : Entry) : Type 0 where
  pub history : List Entry
  pub front : IsPrefix before.known.seen history
  pub seen : after.known.seen ≡ history ++ e ∷ []
  pub then : Run
  pub is_run : IsRunOf (engine_after before.opening history) then
  pub was_open : verdict_of (opened before.opening).script (opened before.opening).config then.world (length history) ≡ verdict.Open
  pub chosen_is : chosen (opened before.opening).script (opened before.opening).config then.world before.known.number a b ≡ Some e
  pub legal : IsRunWith (engine_after before.opening history) e
  pub mine : after.known.mine ≡ before.known.mine ++ e ∷ []
  pub own_is : after.known.mine ≡ own after.known.number after.known.seen
  pub at : after.known.at ≡ before.known.at ++ (length history, after.takes) ∷ []
  pub misses : after.misses ≡ before.misses
  pub found : after.found ≡ 0

-- the pass got the turn, and the run was closed: the verdict of the history that it found is not `Open`
pub record FoundClosed (before after : View) (v : Verdict) : Type 0 where
  pub front : IsPrefix before.known.seen after.known.seen
  pub then : Run
  pub is_run : IsRunOf (engine_after before.opening after.known.seen) then
  pub verdict_is : v ≡ verdict_of (opened before.opening).script (opened before.opening).config then.world (length after.known.seen)
  pub closed : v ≢ verdict.Open
  pub mine : after.known.mine ≡ before.known.mine
  pub own_is : after.known.mine ≡ own after.known.number after.known.seen
  pub at : after.known.at ≡ before.known.at
  pub misses : after.misses ≡ before.misses
  pub found : after.found ≡ 0

-- the pass found the number of another worker in the turn word, and nothing was changed
pub record FoundBusy (before after : View) (found : ℕ) : Type 0 where
  pub known : after.known ≡ before.known
  pub misses : after.misses ≡ suc before.misses
  pub found_is : after.found ≡ found
  pub some : 0 < found
  pub within : found ≤ before.opening.workers
  pub another : found ≢ before.known.number
  pub alone : before.opening.workers ≢ 1

-- what a turn is, by its answer
abbrev pub IsTurn : View → View → ℕ → ℕ → Turn → Type 0
IsTurn before after a b (turn.Did e) = MadeStep before after a b e
IsTurn before after a b (turn.Busy found) = FoundBusy before after found
IsTurn before after a b (turn.Over v) = FoundClosed before after v
