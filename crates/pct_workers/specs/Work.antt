-- What a worker did in its turns.
use Rattle.std.specs.Prelude.{◌≡◌, ◌≢◌, ℕ, suc, ◌+◌, ◌*◌, ◌-◌, ◌<◌, ◌≤◌, Bool, true, false, List, [], ◌∷◌, ◌++◌, map, length, take, slice_get, is_some, Some, if◌then◌else◌, All}
use Rattle.pct_model.specs.declared.schedule.Entry.{Entry}
use Rattle.pct_model.specs.declared.stop.Verdict.TheVariants as verdict
use Rattle.pct_model.specs.Run.{Run, run, verdict_of}
use Rattle.pct_engine.specs.EngineStates.{IsRunOf}
use Rattle.pct_scheduled_run.specs.ScheduledRuns.{IsChosenAt}
use Rattle.pct_scheduled_run.specs.Streams.{after_words, draws}
use Rattle.pct_shared.specs.declared.view.Opening.{Opening}
use Rattle.pct_shared.specs.declared.worker.Worker.{Worker}
use Rattle.pct_shared.specs.Views.{IsPrefix, engine_after, opened}

-- numbers that rise, from above one to at most another
abbrev pub RiseWithin : ℕ → ℕ → List ℕ → Type 0
RiseWithin low high [] = low ≤ high
RiseWithin low high (n ∷ ns) = (low < n) × RiseWithin n high ns

-- the numbers from one on
abbrev pub counted_from : ℕ → List ℕ → Type 0
counted_from n [] = Unit {0}
counted_from n (m ∷ ms) = (m ≡ n) × counted_from (suc n) ms

-- the verdict of the run after these entries is not `Open`
pub record IsClosedAfter (o : Opening) (entries : List Entry) : Type 0 where
  pub after : Run
  pub is_run : IsRunOf (engine_after o entries) after
  pub closed : verdict_of (opened o).script (opened o).config after.world (length entries) ≢ verdict.Open

-- an entry that a worker made, by its place and the number of its take: the worker has seen it, it was legal, and it is the one that the
-- worker chooses by the two words of its turn
pub record IsMadeAt (before : Worker) (seen : List Entry) (pair : ℕ × ℕ) : Type 0 where
  pub within : pair.0 < length seen
  pub chosen : IsChosenAt (draws before.picks) before.pass.view.known.number (opened before.pass.view.opening).script (opened before.pass.view.opening).config seen pair.0 (pair.1 - suc before.pass.view.takes)
  pub legal : is_some (run (opened before.pass.view.opening).script (opened before.pass.view.opening).config (take (suc pair.0) seen)) ≡ true

-- what a worker did in this many turns
pub record TookTurns (taken : ℕ) (before after : Worker) : Type 0 where
  -- the pass is the same, and at rest
  pub host : after.pass.host ≡ before.pass.host
  pub opening : after.pass.view.opening ≡ before.pass.view.opening
  pub number : after.pass.view.known.number ≡ before.pass.view.known.number
  pub olds : after.pass.view.olds ≡ before.pass.view.olds
  pub not_holding : after.pass.view.holding ≡ false
  pub front : IsPrefix before.pass.view.known.seen after.pass.view.known.seen
  -- each turn is a take, and two words of its stream
  pub takes : after.pass.view.takes ≡ before.pass.view.takes + taken
  pub picks : after.picks ≡ after_words (2 * taken) before.picks
  -- those that found the turn taken
  pub missed : ℕ
  pub misses : after.pass.view.misses ≡ before.pass.view.misses + missed
  -- the entries that it made, each with its place and the number of its take; places and takes rise
  pub at : List (ℕ × ℕ)
  pub at_is : after.pass.view.known.at ≡ before.pass.view.known.at ++ at
  pub each : All (IsMadeAt before after.pass.view.known.seen) at
  pub mine : map Some after.pass.view.known.mine ≡ map Some before.pass.view.known.mine ++ map (λ pair. slice_get after.pass.view.known.seen pair.0) at
  pub places_rise : RiseWithin (length before.pass.view.known.seen) (length after.pass.view.known.seen) (map (λ pair. suc pair.0) at)
  pub takes_rise : RiseWithin before.pass.view.takes after.pass.view.takes (map (λ pair. pair.1) at)
  -- a lone worker never finds the turn taken, and makes an entry at each turn
  pub alone : before.pass.view.opening.workers ≡ 1 → (missed ≡ 0) × counted_from (suc before.pass.view.takes) (map (λ pair. pair.1) at)

-- what a worker did in at most `turns` turns
pub record Worked (turns : ℕ) (before after : Worker) : Type 0 where
  pub taken : ℕ
  pub few : taken ≤ turns
  pub took : TookTurns taken before after
  -- whether the last turn found the run closed; each other turn made an entry or found the turn taken
  pub over : Bool
  pub counts : taken ≡ length took.at + took.missed + (if over then 1 else 0)
  pub closed : over ≡ true → IsClosedAfter before.pass.view.opening after.pass.view.known.seen
  pub all_turns : taken < turns → over ≡ true
  pub over_last : over ≡ true → (after.pass.view.found ≡ 0) × RiseWithin before.pass.view.takes (after.pass.view.takes - 1) (map (λ pair. pair.1) took.at)
