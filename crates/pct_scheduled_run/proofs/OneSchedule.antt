-- A seed has one schedule.
use Rattle.pct_names.proofs.Names.{◌+◌, ◌++◌, ◌-◌, ◌<◌, ap, arith, cases_order, Config, Entry, inl, inr, length, List, Run, run, Script, slice_get}
use Rattle.pct_names.proofs.Names.{Some, subst, sym, take, ℕ, ◌∙◌, ◌≡◌, ◌≤◌}
use Rattle.pct_scheduled_run.specs.SeedSchedules.{SeedSchedule}
use Rattle.pct_scheduled_run.specs.ScheduledRuns.{IsChosenAt, IsContinuedBy}
use Rattle.pct_scheduled_run.specs.Streams.{draws, stream_of}
use Rattle.pct_scheduled_run.proofs.ContinuedRuns.{get_front}
use Rattle.pct_scheduled_run.proofs.WholeRuns.{whole_is_one}

-- an entry past the turns of worker 1, by its place
finished_at : (script : Script) (config : Config) (seed turns : ℕ) (entries : List Entry) (k : ℕ) → SeedSchedule script config seed turns entries → turns ≤ k → k < length entries → IsChosenAt (draws (stream_of seed 0)) 0 script config entries k (k - turns)
finished_at script config seed turns entries k schedule past within =
    let place : turns + (k - turns) ≡ k = omega (arith, past) in
    subst (λ (at : ℕ). IsChosenAt (draws (stream_of seed 0)) 0 script config entries at (k - turns)) place (schedule.finished (k - turns) (omega (arith, place, within)))

-- two schedules of a seed go on alike
same_next : (script : Script) (config : Config) (seed turns : ℕ) (one other : List Entry) → SeedSchedule script config seed turns one → SeedSchedule script config seed turns other
    → (k : ℕ) (before : Run) → k < length one → k < length other → run script config (take k one) ≡ Some before → run script config (take k other) ≡ Some before → slice_get one k ≡ slice_get other k
same_next script config seed turns one other of_one of_other k before in_one in_other ran_one ran_other =
    elim (cases_order k turns) [
      | inl last ↦ finished_at script config seed turns one k of_one (omega (arith, last)) in_one before ran_one ∙ sym (finished_at script config seed turns other k of_other (omega (arith, last)) in_other before ran_other)
      | inr (inl worked) ↦ of_one.worked k in_one worked before ran_one ∙ sym (of_other.worked k in_other worked before ran_other)
      | inr (inr past) ↦ finished_at script config seed turns one k of_one (omega (arith, past)) in_one before ran_one ∙ sym (finished_at script config seed turns other k of_other (omega (arith, past)) in_other before ran_other)
    ]

-- a seed has one schedule for one worker with at most this many turns
pub seed_schedule_is_one : (script : Script) (config : Config) (seed turns : ℕ) (one other : List Entry) → SeedSchedule script config seed turns one → SeedSchedule script config seed turns other → one ≡ other
seed_schedule_is_one script config seed turns one other of_one of_other =
    whole_is_one script config one other of_one.whole of_other.whole (same_next script config seed turns one other of_one of_other)

-- given entries go on in one way by the numbers of a scheduler
pub continuation_is_one : (draws : ℕ → ℕ × ℕ) (worker : ℕ) (script : Script) (config : Config) (begun one other : List Entry) → IsContinuedBy draws worker script config begun one → IsContinuedBy draws worker script config begun other → one ≡ other
continuation_is_one draws worker script config begun one other of_one of_other =
    let n = length begun in
    let begins : (rest : List Entry) (k : ℕ) → k < n → slice_get (begun ++ rest) k ≡ slice_get begun k = λ rest k within. get_front begun rest k within in
    let chosen_next : (k : ℕ) (before : Run) → n ≤ k → k < length one → k < length other → run script config (take k one) ≡ Some before → run script config (take k other) ≡ Some before → slice_get one k ≡ slice_get other k =
    λ k before past in_one in_other ran_one ran_other.
    let place : n + (k - n) ≡ k = omega (arith, past) in
    subst (λ at. IsChosenAt draws worker script config one at (k - n)) place (of_one.choices (k - n) (omega (arith, place, in_one))) before ran_one
    ∙ sym (subst (λ at. IsChosenAt draws worker script config other at (k - n)) place (of_other.choices (k - n) (omega (arith, place, in_other))) before ran_other) in
    whole_is_one script config one other of_one.whole of_other.whole
    (λ k before in_one in_other ran_one ran_other.
    elim (cases_order k n) [
      | inl at ↦ chosen_next k before (omega (arith, at)) in_one in_other ran_one ran_other
      | inr (inl given) ↦
          ap (λ (xs : List Entry). slice_get xs k) of_one.begins ∙ begins of_one.rest k given ∙ sym (begins of_other.rest k given) ∙ sym (ap (λ (xs : List Entry). slice_get xs k) of_other.begins)
      | inr (inr past) ↦ chosen_next k before (omega (arith, past)) in_one in_other ran_one ran_other
    ])
