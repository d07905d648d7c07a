-- The record of a run.
use Rattle.std.specs.Prelude.{ℕ, ◌*◌, ◌≤◌, List}
use Rattle.pct_model.specs.declared.schedule.Entry.{Entry}
use Rattle.pct_model.specs.declared.event.Event.{Event}

-- the entries and the events of a run so far, in order, the entries that are planned for it, and the number of entries that there can be
pub record TraceValue : Type 0 where
  pub budget : ℕ
  pub history : List Entry
  pub planned : List Entry
  pub events : List Event

-- the number of entries that were made, and the lengths and the capacities of the lists of entries and of events: there is room for
-- `budget` entries, with three events each
pub record HasRoom (budget made entries entries_capacity events events_capacity : ℕ) : Type 0 where
  pub made_within : made ≤ entries
  pub entries_within : entries ≤ budget
  pub entries_room : budget ≤ entries_capacity
  pub events_within : events ≤ 3 * made
  pub events_room : 3 * budget ≤ events_capacity
