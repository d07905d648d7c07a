-- What a host promises of all its workers: at its opening, and at its closing.
use Rattle.std.specs.Prelude.{◌≡◌, ℕ, suc, ◌<◌, ◌≤◌, false, List, [], ◌++◌, map, length, slice_get, Some, All}
use Rattle.pct_model.specs.declared.schedule.Entry.{Entry}
use Rattle.pct_engine.specs.EngineStates.{EngineValue}
use Rattle.pct_shared.specs.declared.view.Opening.{Opening}
use Rattle.pct_shared.specs.declared.worker.Worker.{Worker}
use Rattle.pct_shared.specs.Passes.{IsDesk, IsPassOf, SharedValue}
use Rattle.pct_scheduled_run.specs.Streams.{stream_of}
use Rattle.pct_shared.specs.Views.{IsPrefix, engine_after, first_view, known_first, opened, own, places}
use Rattle.pct_shared.specs.TurnRule.{SeatView, Slot}
use Rattle.atomic_table.specs.Seated.{TableId}
use Rattle.atomic_table.specs.Table.{Me}

-- ---- the opening

-- a new worker of a host: it has the number, and knows the history of the engine that was given
pub record IsNewWorker (host : SharedValue) (seed number : ℕ) (w : Worker) : Type 0 where
  pub pass_of : IsPassOf host w.pass
  pub known : w.pass.view.known ≡ known_first host.opening number
  pub takes : w.pass.view.takes ≡ 0
  pub misses : w.pass.view.misses ≡ 0
  pub not_holding : w.pass.view.holding ≡ false
  pub picks : w.picks ≡ stream_of seed number

-- the workers have the numbers from 1 on, in order
pub record AreNewWorkers (host : SharedValue) (count seed : ℕ) (workers : List Worker) : Type 0 where
  pub count_is : length workers ≡ count
  pub each : (index : ℕ) (w : Worker) → slice_get workers index ≡ Some w → IsNewWorker host seed (suc index) w

-- the table of a host that is opened, and the seat of its first pass
pub record IsNewDesk (o : Opening) (host : TableId) (key : Opening) (seat_host : TableId) (me : Me Slot SeatView) : Type 0 where
  pub desk : IsDesk host o
  pub key_is : key ≡ o
  pub same_host : seat_host ≡ host
  pub first : me ≡ (Some (first_view o), [])

-- a host that was opened with an engine, and its workers
pub record IsOpening (engine : EngineValue) (count seed : ℕ) (host : SharedValue) (workers : List Worker) : Type 0 where
  pub engine_is : opened host.opening ≡ engine
  pub count_is : host.opening.workers ≡ count
  pub new : AreNewWorkers host count seed workers

-- ---- the closing

-- a worker at the closing: it has seen a prefix of the history, the entries with its number are just those that it made, and past the
-- opening they stand at the places that it knows
pub record IsWorkerOf (o : Opening) (history : List Entry) (w : Worker) : Type 0 where
  pub seen : IsPrefix w.pass.view.known.seen history
  pub own_is : own w.pass.view.known.number history ≡ w.pass.view.known.mine
  pub places_are : places w.pass.view.known.number history ≡ places w.pass.view.known.number (opened o).history ++ map (λ pair. pair.0) w.pass.view.known.at

-- the workers are all those of a host: each number from 1 on is that of one of them
pub record AreAllWorkers (host : SharedValue) (workers : List Worker) : Type 0 where
  pub each : All (λ w. IsPassOf host w.pass) workers
  pub all : (number : ℕ) → 0 < number → number ≤ host.opening.workers → (index : ℕ) × (w : Worker) × (slice_get workers index ≡ Some w) × (w.pass.view.known.number ≡ number)

-- the engine that a host hands out: it has made the run of the longest history that a worker has seen, which begins with that of the
-- opening; each entry past it has the number of a worker
pub record IsClosing (o : Opening) (workers : List Worker) (engine : EngineValue) : Type 0 where
  pub engine_is : engine ≡ engine_after o engine.history
  pub each : All (IsWorkerOf o engine.history) workers
  pub index : ℕ
  pub longest : Worker
  pub in_workers : slice_get workers index ≡ Some longest
  pub history_is : longest.pass.view.known.seen ≡ engine.history
  pub past : List Entry
  pub start : engine.history ≡ (opened o).history ++ past
  pub numbers : All (λ e. (0 < e.worker) × (e.worker ≤ o.workers)) past
