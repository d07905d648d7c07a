-- What a transition changes in the tables for the thread that makes it.
use Rattle.std.specs.Prelude.{ℕ, false, List, [], Option, Some, slice_index_or, slice_set}
use Rattle.pct_model.specs.declared.frame.Frame.{Frame}
use Rattle.pct_model.specs.declared.transition.OwnAction.{OwnAction}
use Rattle.pct_model.specs.declared.transition.OwnAction.TheVariants as own_action
use Rattle.pct_model.specs.declared.transition.Transition.{Transition}
use Rattle.pct_model.specs.Actions.{moved, own_after, thread_at}
use Rattle.pct_model.specs.Keys.{KeyValues, key_place, with_value, without_value, with_pass}
use Rattle.pct_model.specs.World.{Thread}
use Rattle.pct_threads.specs.declared.record.Thread.{Thread as Record}
use Rattle.pct_threads.specs.Records.{new_record}
use Rattle.pct_threads.specs.Slots.{Held, Slot, after_change, unless_reclaimed}
use Rattle.pct_threads.specs.Tables.{on_held, on_slot}
use Rattle.pct_keys.specs.Tables.{no_row}
use Rattle.pct_process.specs.ThreadViews.{thread_of}

-- the record of a thread
abbrev pub record_of : Thread → Record
record_of t = record { status = t.status; cancel = record { state = t.state; mode = t.mode; pending = t.pending }; handlers = t.handlers; reason = t.reason; pass = t.pass; kept = t.kept; ended = t.ended }

-- a thread that holds a slot, but for its thread-specific data, which the row of its slot has
abbrev pub held_of : Thread → Held
held_of t = record { id = t.id; detached = t.detached; frames = t.frames; thread = record_of t }

-- some thread with these frames and this record
abbrev pub thread_from : List Frame → Record → Thread
thread_from frames kept = thread_of (record { id = 0; detached = false; frames = frames; thread = kept })

-- ---- the frames

-- the table of threads with a change of the frames of the thread on a slot
abbrev pub on_frames : ℕ → (List Frame → List Frame) → List Slot → List Slot
on_frames slot change threads = on_held slot (λ h. record h { frames = change h.frames }) threads

-- the frames of a thread after it went on at a program counter, if it does
abbrev pub frames_at : Option ℕ → List Frame → List Frame
frames_at next frames = (thread_at next (thread_from frames new_record)).frames

-- after its own action, if it has one
abbrev pub frames_acted : Option OwnAction → List Frame → List Frame
frames_acted action frames = (own_after action (thread_from frames new_record)).frames

-- and after its transition
abbrev pub frames_moved : Transition → List Frame → List Frame
frames_moved o frames = (moved o (thread_from frames new_record)).frames

-- ---- the record

-- the table of threads with a change of the record of the thread on a slot
abbrev pub on_record : ℕ → (Record → Record) → List Slot → List Slot
on_record slot change threads = on_held slot (λ h. record h { thread = change h.thread }) threads

-- the record of a thread after its own action, if it has one
abbrev pub record_acted : Option OwnAction → Record → Record
record_acted action kept = record_of (own_after action (thread_from [] kept))

-- and after its transition
abbrev pub record_moved : Transition → Record → Record
record_moved o kept = record_of (moved o (thread_from [] kept))

-- ---- the tables

-- the rows of thread-specific data after the action of the thread on a slot, if it has one
unfoldable pub own_rows : ℕ → Option OwnAction → List KeyValues → List KeyValues
own_rows slot (Some (own_action.SetSpecific k v)) rows = slice_set rows slot (with_value (key_place k) v (slice_index_or rows slot no_row))
own_rows slot (Some own_action.BeginPass) rows = slice_set rows slot (with_pass (slice_index_or rows slot no_row))
own_rows slot (Some (own_action.RunDestructor k f v)) rows = slice_set rows slot (without_value (key_place k) (slice_index_or rows slot no_row))
own_rows slot _ rows = rows

-- the table of threads after a transition of the thread on a slot
abbrev pub own_moved : ℕ → Transition → List Slot → List Slot
own_moved slot o threads = on_slot slot (after_change (λ h. unless_reclaimed (held_of (moved o (thread_of h))))) threads
