-- What the slots of a table of threads represent: the part of the machine's state that an engine keeps of the threads.
use Rattle.std.specs.Prelude.{ℕ, Bool, true, false, ◌||◌, List, [], ◌∷◌, Option, Some, None, nat_eq}
use Rattle.std.specs.Option.{option_map_or}
use Rattle.pct_model.specs.declared.state.Reason.TheVariants as reason
use Rattle.pct_model.specs.Actions.{in_child}
use Rattle.pct_model.specs.Keys.{KeyValues, no_values}
use Rattle.pct_model.specs.World.{Thread}
use Rattle.pct_threads.specs.declared.record.Thread.{Thread as Record}
use Rattle.pct_threads.specs.Slots.{Held, Slot}
use Rattle.pct_engine_laws.specs.Seen.{SeenSlot}

-- a thread that holds a slot, but for its thread-specific data, which the row of its slot has. It was not joined, since a thread
-- that was joined gives back its slot, and it is in no child process.
abbrev pub thread_of : Held → Thread
thread_of h = record { id = h.id; detached = h.detached; joined = false; status = h.thread.status; ended = h.thread.ended; frames = h.frames; state = h.thread.cancel.state; mode = h.thread.cancel.mode; pending = h.thread.cancel.pending; handlers = h.thread.handlers; reason = h.thread.reason; pass = h.thread.pass; specific = no_values; kept = h.thread.kept; gone = false }

-- a thread with this thread-specific data
abbrev pub with_specific : KeyValues → Thread → Thread
with_specific own t = record t { specific = own }

-- the thread on a slot, if there is one
abbrev pub threads_of : Option Held → List Thread
threads_of None = []
threads_of (Some h) = thread_of h ∷ []

-- a slot
abbrev pub slot_view : Slot → SeenSlot
slot_view s = record { made = s.made; here = threads_of s.here }

-- no thread holds the slot, or the one that does has ended or has this id
abbrev pub has_no_other : ℕ → Option Held → Bool
has_no_other tid here = option_map_or (λ h. h.thread.ended || nat_eq h.id tid) here true

-- the record of the thread of a child process, where this is the record of the thread that called fork
abbrev pub record_inherited : Record → Record
record_inherited t = record t { status = in_child t.status; cancel = record t.cancel { pending = false }; reason = reason.None; pass = 0; kept = None; ended = false }
