-- The threads of a table: tests of them, how they stand, and their ids.
use Rattle.std.specs.Prelude.{ℕ, Bool, false, List, map, Option, Some, None}
use Rattle.std.specs.Option.{option_map_or}
use Rattle.pct_model.specs.World.{Thread}
use Rattle.pct_threads.specs.Slots.{Held, Slot}
use Rattle.pct_threads.specs.Tables.{held_at}
use Rattle.pct_process.specs.declared.standings.Standing.{Standing}
use Rattle.pct_process.specs.declared.standings.Standing.TheVariants as standing
use Rattle.pct_process.specs.ThreadViews.{thread_of}

-- the thread on a slot passes a test; a free slot has no thread
abbrev pub any_on : (Thread → Bool) → Option Held → Bool
any_on test here = option_map_or (λ h. test (thread_of h)) here false

-- the exit value of a thread that stands so, once it has ended
abbrev pub ended_value : Standing → Option ℕ
ended_value (standing.Ended value) = Some value
ended_value _ = None

-- the id of the thread on a slot; 0 on a free slot
abbrev pub id_at : List Slot → ℕ → ℕ
id_at threads s = option_map_or (λ h. h.id) (held_at threads s) 0

-- the ids of the threads on some slots
abbrev pub ids_on : List Slot → List ℕ → List ℕ
ids_on threads slots = map (id_at threads) slots
