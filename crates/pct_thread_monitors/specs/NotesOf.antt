-- Notes by the ids of processes and threads.
use Rattle.std.specs.Prelude.{ℕ, unwrap_or}
use Rattle.std.specs.Ordering.{nat_cmp, ordering_then}
use Rattle.std.specs.BTreeMap.{BTreeMap, get}
use Rattle.pct_thread_monitors.specs.declared.monitor.ThreadMonitor.{ThreadMonitor}
use Rattle.pct_thread_monitors.specs.declared.note.Note.{Note}
use Rattle.pct_thread_monitors.specs.Notes.{no_events_note}

-- the note of a thread in a map
abbrev pub note_in : BTreeMap (ℕ × ℕ) Note → ℕ → ℕ → Note
note_in map pid tid = unwrap_or (get (λ x y. ordering_then (nat_cmp x.0 y.0) (nat_cmp x.1 y.1)) map (pid, tid)) (no_events_note pid tid)

-- the note of a thread
abbrev pub note_of : ThreadMonitor → ℕ → ℕ → Note
note_of monitor = note_in monitor.notes
