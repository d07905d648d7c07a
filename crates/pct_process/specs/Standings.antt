-- How the threads of a process stand, as far as other threads ask for it (XSH pthread_cond_wait, pthread_join).
use Rattle.std.specs.Prelude.{◌≡◌, ℕ, ◌%◌, ◌<◌, Bool, false, not, ◌&&◌, if◌then◌else◌, List, length, map, nat_eq, nat_lt, replicate, slice_index_or, slice_set, Option, []}
use Rattle.std.specs.Option.{option_map_or}
use Rattle.pct_model.specs.declared.state.Status.{Status}
use Rattle.pct_model.specs.declared.state.Status.TheVariants as status
use Rattle.pct_set.specs.declared.keyed_sets.TheConstants.{NO_KEY}
use Rattle.pct_set.specs.Slots.{slots_where, with_slot, without_slot}
use Rattle.pct_threads.specs.Slots.{Held, Slot}
use Rattle.pct_threads.specs.Tables.{held_at}
use Rattle.pct_process.specs.declared.standings.Standing.{Standing}
use Rattle.pct_process.specs.declared.standings.Standing.TheVariants as standing

-- ---- one thread

-- how a thread with this status stands
abbrev pub standing_of : Status → Standing
standing_of (status.Waiting cond mutex) = standing.Waiting cond mutex
standing_of (status.Joining id) = standing.Joining id
standing_of (status.Ended value) = standing.Ended value
standing_of _ = standing.Other

-- it waits on this condition variable
abbrev pub waits_on : ℕ → Standing → Bool
waits_on cond (standing.Waiting waited released) = nat_eq waited cond
waits_on cond _ = false

-- it waits, and released this mutex
abbrev pub waits_with : ℕ → Standing → Bool
waits_with mutex (standing.Waiting waited released) = nat_eq released mutex
waits_with mutex _ = false

-- it waits on this condition variable, and released another mutex than this
abbrev pub waits_with_another : (cond mutex : ℕ) → Standing → Bool
waits_with_another cond mutex s = waits_on cond s && not (waits_with mutex s)

-- it is suspended in pthread_join for this id
abbrev pub joins : ℕ → Standing → Bool
joins id (standing.Joining target) = nat_eq target id
joins id _ = false

-- how the thread that holds a slot stands; a free slot has no thread
abbrev pub standing_on : Option Held → Standing
standing_on here = option_map_or (λ h. standing_of h.thread.status) here standing.Other

-- a thread holds the slot, and has not ended
abbrev pub is_unfinished : Option Held → Bool
is_unfinished here = option_map_or (λ h. not h.thread.ended) here false

-- ---- all

-- how the threads on 64 slots stand, and the slots whose threads have not ended
pub record StandingsValue : Type 0 where
  pub of : List Standing
  pub unfinished : List ℕ

-- no thread holds a slot
abbrev pub no_standings : StandingsValue
no_standings = record { of = replicate 64 standing.Other; unfinished = [] }

-- how the thread on slot k stands
abbrev pub standing_at : StandingsValue → ℕ → Standing
standing_at v k = slice_index_or v.of k standing.Other

-- with another standing of the thread on a slot, which has ended or not
abbrev pub with_standing : ℕ → Standing → Bool → StandingsValue → StandingsValue
with_standing slot standing unfinished v = record { of = slice_set v.of slot standing; unfinished = if unfinished then with_slot slot v.unfinished else without_slot slot v.unfinished }

-- these are the standings of the threads of a table
pub record AreStandings (v : StandingsValue) (threads : List Slot) : Type 0 where
  pub all : length v.of ≡ 64
  pub each : (k : ℕ) → k < 64 → standing_at v k ≡ standing_on (held_at threads k)
  pub unfinished : v.unfinished ≡ slots_where (λ k. is_unfinished (held_at threads k))

-- ---- sets by key

-- the key of an index; indexes from 32 on have one together
abbrev pub index_key : ℕ → ℕ
index_key index = if nat_lt index 32 then index else 32

-- the key of the condition variable on which a thread waits
abbrev pub cond_key : Standing → ℕ
cond_key (standing.Waiting cond mutex) = index_key cond
cond_key _ = NO_KEY

-- of the mutex that it released
abbrev pub mutex_key : Standing → ℕ
mutex_key (standing.Waiting cond mutex) = index_key mutex
mutex_key _ = NO_KEY

-- of the id that it joins
abbrev pub target_key : Standing → ℕ
target_key (standing.Joining id) = id % 64
target_key _ = NO_KEY

-- the sets by key have the slots of the threads that stand so
pub record AreIndexed (of : List Standing) (by_cond by_mutex by_target : List ℕ) : Type 0 where
  pub all : length of ≡ 64
  pub conds : by_cond ≡ map cond_key of
  pub mutexes : by_mutex ≡ map mutex_key of
  pub targets : by_target ≡ map target_key of
