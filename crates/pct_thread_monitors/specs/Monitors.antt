-- What the monitor keeps of the events so far.
use Rattle.std.specs.Prelude.{◌≡◌, ℕ, List}
use Rattle.pct_model.specs.declared.event.Event.{Event}
use Rattle.pct_holders.specs.Holds.{holds}
use Rattle.pct_thread_monitors.specs.declared.monitor.ThreadMonitor.{ThreadMonitor}
use Rattle.pct_thread_monitors.specs.IsNote.{IsNote}
use Rattle.pct_thread_monitors.specs.Notes.{is_unended}
use Rattle.pct_thread_monitors.specs.NotesOf.{note_of}

-- the threads at slot 0 are those that are known and have not ended, by their notes
abbrev pub HasUnended : ThreadMonitor → Type 0
HasUnended monitor = (pid tid : ℕ) → holds monitor.unended pid 0 tid ≡ is_unended (note_of monitor pid tid)

-- the monitor keeps what some events report, newest first
pub record Monitors (monitor : ThreadMonitor) (events : List Event) : Type 0 where
  pub notes : (pid tid : ℕ) → IsNote (note_of monitor pid tid) pid tid events
  pub unended : HasUnended monitor
