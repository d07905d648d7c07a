-- What events change in the notes of threads.
use Rattle.std.specs.Prelude.{ℕ, Bool, true, false, not, ◌&&◌, Some, None, nat_eq}
use Rattle.pct_model.specs.declared.event.What.{What}
use Rattle.pct_model.specs.declared.event.What.TheVariants as what
use Rattle.pct_thread_monitors.specs.declared.note.Note.{Note}

-- the note of a thread without events
abbrev pub no_events_note : ℕ → ℕ → Note
no_events_note pid tid = record {
  requested = false;
  enabled = true;
  begun = false;
  exiting = false;
  ended = false;
  known = nat_eq 1 pid && nat_eq 1 tid;
  newest = None;
}

-- the event creates the thread with an id, or requests its end
abbrev pub names : ℕ → What → Bool
names tid (what.Created id detached) = nat_eq id tid
names tid (what.Request id) = nat_eq id tid
names tid _ = false

-- the note of a thread that an event names
abbrev pub marked : What → Note → Note
marked (what.Created id detached) note = record note { known = true }
marked (what.Request id) note = record note { requested = true }
marked _ note = note

-- the note of a replica of a thread
abbrev pub copied : Note → Note → Note
copied caller note = record note { enabled = caller.enabled; known = true }

-- what an event of a thread changes in its note, but for the newest event
abbrev pub changed : What → Note → Note
changed (what.StateSet enable) note = record note { enabled = enable }
changed (what.EndingExit v) note = record note { begun = true }
changed what.EndingCanceled note = record note { begun = true }
changed (what.EndingInWait c m) note = record note { begun = true }
changed (what.ExitBegun v) note = record note { exiting = true }
changed (what.EndedWith v) note = record note { ended = true }
changed _ note = note

-- the note of a thread after an event of its own
abbrev pub next_note : What → Note → Note
next_note w note = changed w (record note { newest = Some w })

-- ---- tests

-- the thread is known and has not ended
abbrev pub is_unended : Note → Bool
is_unended note = note.known && not note.ended

-- the thread has neither begun to end nor begun to exit its process
abbrev pub has_not_begun : Note → Bool
has_not_begun note = not note.begun && not note.exiting

-- the thread acts on a request at the next cancellation point that it calls
abbrev pub has_to_act : Note → Bool
has_to_act note = note.requested && (note.enabled && has_not_begun note)
