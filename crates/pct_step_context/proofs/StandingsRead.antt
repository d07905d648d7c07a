-- What is read of the standings of a process is what the table of its threads has.
use Rattle.pct_names.proofs.Names.{◌<◌, arith, Bool, exit_value_of, false, is_joining, is_waiting_on, length, List, list_any, None, Option, refl, Some}
use Rattle.pct_names.proofs.Names.{Status, true, ℕ, ◌∙◌, ◌≡◌, ◌≤◌}
use Rattle.pct_model.specs.declared.state.Status.TheVariants as status
use Rattle.pct_set.specs.Slots.{slots_where}
use Rattle.pct_set.proofs.SlotLemmas.{slots_agree}
use Rattle.pct_threads.specs.Slots.{Held, Slot}
use Rattle.pct_threads.specs.Tables.{held_at, is_occupied_at}
use Rattle.pct_threads.proofs.TableLemmas.{within-occupied}
use Rattle.pct_process.specs.declared.standings.Standing.{Standing}
use Rattle.pct_process.specs.declared.standings.Standing.TheVariants as standing
use Rattle.pct_process.specs.Standings.{AreStandings, StandingsValue, joins, standing_at, standing_of, standing_on, waits_on}
use Rattle.pct_process.proofs.StandingsKept.{any_standing, slots_standing}
use Rattle.pct_engine_laws.proofs.ListFacts.{any_agree}
use Rattle.pct_step_context.specs.OtherThreads.{any_on, ended_value}

-- ---- by the status of a thread

pub ended_by : (s : Status) → ended_value (standing_of s) ≡ exit_value_of s
ended_by (status.Ended value) = refl
ended_by s = refl

pub joins_by : (id : ℕ) (s : Status) → joins id (standing_of s) ≡ is_joining id s
joins_by id (status.Joining target) = refl
joins_by id s = refl

waits_by : (c : ℕ) (s : Status) → waits_on c (standing_of s) ≡ is_waiting_on c s
waits_by c (status.Waiting waited mutex) = refl
waits_by c s = refl

waits_here : (c : ℕ) (here : Option Held) → waits_on c (standing_on here) ≡ any_on (λ t. is_waiting_on c t.status) here
waits_here c None = refl
waits_here c (Some h) = waits_by c h.thread.status

-- ---- in a table

-- an occupied slot is one of 64
pub small_slot : (threads : List Slot) (count slot : ℕ) → count ≡ length threads → count ≤ 64 → is_occupied_at threads slot ≡ true → slot < 64
small_slot threads count slot is few occupied = omega (arith, is, few, within-occupied threads slot occupied)

module _ (v : StandingsValue) (threads : List Slot) (are : AreStandings v threads) where
  -- the slots of the threads that wait
  pub waiting_slots : (c : ℕ) → slots_where (λ k. waits_on c (standing_at v k)) ≡ slots_where (λ s. any_on (λ t. is_waiting_on c t.status) (held_at threads s))
  waiting_slots c = slots_standing v threads are (waits_on c) ∙ slots_agree _ _ (λ k small. waits_here c (held_at threads k))

  module _ (test : Standing → Bool) where
    on_here : test standing.Other ≡ false → (here : Option Held) → test (standing_on here) ≡ any_on (λ t. test (standing_of t.status)) here
    on_here none None = none
    on_here none (Some h) = refl

    -- some thread stands so
    pub any_stands : length threads ≤ 64 → test standing.Other ≡ false → list_any test v.of ≡ list_any (λ s. any_on (λ t. test (standing_of t.status)) s.here) threads
    any_stands few none =
        any_standing v threads are test few none
        ∙ any_agree (λ (s : Slot). test (standing_on s.here)) (λ s. any_on (λ t. test (standing_of t.status)) s.here) (λ s. on_here none s.here) threads
