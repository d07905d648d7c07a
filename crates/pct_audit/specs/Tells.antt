-- What the judge keeps of the events that it has seen.
use Rattle.std.specs.Prelude.{◌≡◌, ℕ, ◌<◌, ◌^◌, ◌&&◌, List, nat_eq}
use Rattle.std.specs.List.{list_any}
use Rattle.pct_model.specs.declared.event.Event.{Event}
use Rattle.pct_model.specs.ThreadSlots.{slot_of}
use Rattle.pct_laws.specs.JoinLaw.{is_live}
use Rattle.pct_laws.specs.MutexOwners.{owner_of}
use Rattle.pct_laws.specs.Once.{is_pair}
use Rattle.pct_laws.specs.OnceControls.{once_of}
use Rattle.pct_laws.specs.ThreadSummary.{summary_of}
use Rattle.pct_holders.specs.Holds.{holds}
use Rattle.pct_process_maps.specs.Values.{value_in}
use Rattle.pct_audit.specs.declared.judge.Judge.{Judge}
use Rattle.pct_audit.specs.CondTests.{newest_of}
use Rattle.pct_audit.specs.Controls.{state_in}
use Rattle.pct_audit.specs.DestroyedKeys.{is_destroyed}
use Rattle.pct_audit.specs.IsRow.{IsThread}
use Rattle.pct_audit.specs.Rows.{row_of}

-- the judge keeps what some events report, newest first
pub record Tells (j : Judge) (events : List Event) : Type 0 where
  -- of each thread
  pub rows : (pid tid : ℕ) → IsThread j.stacks (row_of j.rows pid tid) pid tid events
  -- the destructors that were called
  pub destroyed : (pid tid pass key : ℕ) → is_destroyed j.destroyed pid tid pass key ≡ list_any (is_pair pass key) (summary_of pid tid events).destroyed
  -- the owners of mutexes
  pub owners : (pid m : ℕ) → m < 2 ^ 32 → value_in j.owners pid m ≡ owner_of pid m events
  -- the states of once controls
  pub controls : (pid o : ℕ) → o < 2 ^ 32 → state_in j.controls pid o ≡ once_of pid o events
  -- the newest event
  pub last : j.last ≡ newest_of events
  -- the threads that hold their slots
  pub some_slots : 0 < j.slots
  pub holders : (pid slot tid : ℕ) → holds j.holders pid slot tid ≡ (is_live pid tid events && nat_eq (slot_of j.slots tid) slot)

-- the stacks of handlers, by their numbers
abbrev pub handler_stacks : Judge → List (List (ℕ × ℕ))
handler_stacks j = j.stacks

-- the number of thread slots of a process
abbrev pub slot_count : Judge → ℕ
slot_count j = j.slots
