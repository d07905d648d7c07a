-- The choice of the scheduler, of one process after the other.
use Rattle.std.specs.Prelude.{◌≡◌, ℕ, ◌+◌, ◌-◌, ◌%◌, Bool, true, false, if◌then◌else◌, List, [], ◌∷◌, length, map, flat_map, Option, Some, None, is_some, nat_lt, slice_get, option_map, option_and_then}
use Rattle.pct_model.specs.declared.script.Script.{Script}
use Rattle.pct_model.specs.Chosen.{Candidate}
use Rattle.pct_model.specs.OtherProcesses.{Family}
use Rattle.pct_engine_laws.specs.Seen.{SeenProcess}
use Rattle.pct_engine_laws.specs.SeenSteps.{ready_in, candidate_in}
use Rattle.pct_process.specs.ProcessViews.{thread_on_slot}
use Rattle.pct_place.specs.ProcessSteps.{IsOnlySlot}
use Rattle.pct_machine.specs.declared.scheduler.Seat.{Seat}
use Rattle.pct_machine.specs.declared.scheduler.Pick.{Pick}
use Rattle.pct_machine.specs.declared.scheduler.Pick.TheVariants as pick

-- the threads of a process that are ready, as candidates, where the time of a wait may expire or not
abbrev pub candidates_of : Script → Bool → Family → SeenProcess → List Candidate
candidates_of script timeouts family p = map (candidate_in script timeouts (length p.slots) family p) (ready_in script timeouts (length p.slots) family p)

-- those of some processes, each of which sees other processes by its id
abbrev pub candidates_among : Script → Bool → (ℕ → Family) → List SeenProcess → List Candidate
candidates_among script timeouts seen_by ps = flat_map (λ p. candidates_of script timeouts (seen_by p.pid) p) ps

-- one of some candidates, if there are any, or one of others before them by its index
pub data Picked : Type 0 where
  Here : Option Candidate → Picked
  Before : ℕ → Picked

-- the candidate at an index, of a number of other candidates and of these after them
abbrev pub pick_at : ℕ → ℕ → List Candidate → Picked
pick_at before index cs = if nat_lt index before then Before index else Here (slice_get cs (index - before))

-- what a number chooses of these candidates and of the others before them, modulo their number
unfoldable pub pick_after : ℕ → ℕ → List Candidate → Picked
pick_after before number cs = pick_at before (number % (before + length cs)) cs

-- a seat among some processes: the process has not ended, and a thread holds the slot
pub record IsSeat (ps : List SeenProcess) (seat : Seat) : Type 0 where
  pub process : SeenProcess
  pub here : slice_get ps seat.place ≡ Some process
  pub live : is_some process.ended ≡ false
  pub held : is_some (thread_on_slot process.slots seat.slot) ≡ true

-- the seat of the only thread of the only process, which has not ended
pub record IsOnlySeat (ps : List SeenProcess) (seat : Seat) : Type 0 where
  pub process : SeenProcess
  pub alone : ps ≡ process ∷ []
  pub first : seat.place ≡ 0
  pub only : IsOnlySlot process seat.slot

-- the thread on a seat, as a candidate
abbrev pub candidate_on : Script → Bool → (ℕ → Family) → List SeenProcess → Seat → Option Candidate
candidate_on script timeouts seen_by ps seat = option_and_then (λ p. option_map (candidate_in script timeouts (length p.slots) (seen_by p.pid) p) (thread_on_slot p.slots seat.slot)) (slice_get ps seat.place)

-- what was chosen, by its seat among the processes
abbrev pub picked : Script → Bool → (ℕ → Family) → List SeenProcess → Pick → Picked
picked script timeouts seen_by ps pick.Nobody = Here None
picked script timeouts seen_by ps (pick.Here seat) = Here (candidate_on script timeouts seen_by ps seat)
picked script timeouts seen_by ps (pick.Before index) = Before index

-- the seat that was chosen, if one was, has a property
abbrev pub IfHere : Pick → (Seat → Type 0) → Type 0
IfHere (pick.Here seat) holds = holds seat
IfHere _ holds = Unit {0}
