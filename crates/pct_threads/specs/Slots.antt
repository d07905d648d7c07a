-- A slot of the table of the threads of a process, and what each call does to it. A thread holds its slot from its creation
-- until it is reclaimed (XSH 2.9.2, pthread_join, pthread_detach). Frames are listed newest first.
use Rattle.std.specs.Prelude.{ℕ, ◌+◌, ◌-◌, Bool, true, false, not, ◌&&◌, if◌then◌else◌, List, [], ◌∷◌, length, Option, Some, None, is_some, option_map, option_and_then, slice_index_or, slice_set, nat_eq}
use Rattle.std.specs.Option.{option_map_or}
use Rattle.pct_model.specs.declared.frame.Frame.{Frame}
use Rattle.pct_model.specs.declared.state.FrameKind.{FrameKind}
use Rattle.pct_model.specs.declared.state.FrameKind.TheVariants.{Start, Call}
use Rattle.pct_model.specs.Actions.{at_pc, set_local, without_first}
use Rattle.pct_model.specs.ThreadSlots.{is_ended_status}
use Rattle.pct_model.specs.World.{new_frame}
use Rattle.pct_threads.specs.declared.record.Thread.{Thread}
use Rattle.pct_threads.specs.declared.record.Place.{Place}
use Rattle.pct_threads.specs.FrameWords.{kind_of, with_word}
use Rattle.pct_threads.specs.Records.{new_record, ended_record}

-- a thread that holds a slot
pub record Held : Type 0 where
  pub id : ℕ
  pub detached : Bool
  pub frames : List Frame
  pub thread : Thread

-- a slot
pub record Slot : Type 0 where
  -- the number of threads ever created on it
  pub made : ℕ
  -- the thread that holds it
  pub here : Option Held

-- ---- what it holds

-- the slot on which no thread was created
abbrev pub unused : Slot
unused = record { made = 0; here = None }

-- a thread holds the slot
abbrev pub is_occupied : Slot → Bool
is_occupied slot = is_some slot.here

-- the thread that holds the slot passes the test
abbrev pub holds_thread : (Held → Bool) → Slot → Bool
holds_thread test slot = option_map_or test slot.here false

-- the thread that holds the slot has this id
abbrev pub has_id : ℕ → Slot → Bool
has_id id slot = holds_thread (λ held. nat_eq held.id id) slot

-- the frames of the thread that holds the slot
abbrev pub frames_of : Slot → List Frame
frames_of slot = option_map_or (λ held. held.frames) slot.here []

-- the place of a thread
abbrev pub place_of : Held → Place
place_of held = record { id = held.id; detached = held.detached; depth = length held.frames }

-- the thread has ended, and is not detached
abbrev pub is_reclaimable : Held → Bool
is_reclaimable held = is_ended_status held.thread.status && not held.detached

-- ---- frames

-- the frame with this number, counted from the oldest
abbrev pub frame_at : List Frame → ℕ → Frame
frame_at frames number = slice_index_or frames (length frames - 1 - number) (new_frame 0 0 Call)

-- the frames after a change of one of them
abbrev pub on_frame : ℕ → (Frame → Frame) → List Frame → List Frame
on_frame number change frames = slice_set frames (length frames - 1 - number) (change (frame_at frames number))

-- ---- changes of a thread that holds a slot

-- with another record
abbrev pub with_record : Thread → Held → Held
with_record thread held = record held { thread = thread }

-- with a new frame of a kind
abbrev pub with_call : ℕ → ℕ → FrameKind → Held → Held
with_call func arg kind held = record held { frames = new_frame func arg kind ∷ held.frames }

-- with a new frame, of the kind with this number
abbrev pub with_frame : (func arg number : ℕ) → Held → Held
with_frame func arg number = with_call func arg (kind_of number)

-- with one frame, of a kind
abbrev pub with_call_alone : ℕ → ℕ → FrameKind → Held → Held
with_call_alone func arg kind held = record held { frames = new_frame func arg kind ∷ [] }

-- with its newest frame at a program counter
abbrev pub with_pc : ℕ → Held → Held
with_pc pc held = record held { frames = at_pc pc held.frames }

-- with a new value of a local of its newest frame
abbrev pub with_local : ℕ → ℕ → Held → Held
with_local i value held = record held { frames = set_local i value held.frames }

-- without its newest frame
abbrev pub without_frame : Held → Held
without_frame held = record held { frames = without_first held.frames }

-- without frames
abbrev pub without_frames : Held → Held
without_frames held = record held { frames = [] }

-- with another value of a word of a frame
abbrev pub with_frame_word : (number i value : ℕ) → Held → Held
with_frame_word number i value held = record held { frames = on_frame number (with_word i value) held.frames }

-- after its end: a detached thread gives back its slot (XSH pthread_detach)
abbrev pub after_end : ℕ → Held → Option Held
after_end value held = if held.detached then None else Some (record held { thread = ended_record value held.thread })

-- after pthread_detach: a thread that has ended gives back its slot
abbrev pub after_detach : Held → Option Held
after_detach held = if is_ended_status held.thread.status then None else Some (record held { detached = true })

-- a thread that has ended and is detached gives back its slot (XSH pthread_detach)
abbrev pub unless_reclaimed : Held → Option Held
unless_reclaimed held = if is_ended_status held.thread.status && held.detached then None else Some held

-- a new thread, with one frame of its start routine (XSH pthread_create)
abbrev pub new_held : (id func arg : ℕ) → Bool → Held
new_held id func arg detached = record { id = id; detached = detached; frames = new_frame func arg Start ∷ []; thread = new_record }

-- ---- changes of a slot

-- the slot after a change of its thread, which gives back the slot if the change is None; a free slot stays as it is
abbrev pub after_change : (Held → Option Held) → Slot → Slot
after_change change slot = record slot { here = option_and_then change slot.here }

-- the slot after a change of its thread; a free slot stays as it is
abbrev pub with_change : (Held → Held) → Slot → Slot
with_change change slot = record slot { here = option_map change slot.here }

-- the slot, given back
abbrev pub freed : Slot → Slot
freed slot = record slot { here = None }

-- the slot with a new thread
abbrev pub created : (id func arg : ℕ) → Bool → Slot → Slot
created id func arg detached slot = record { made = slot.made + 1; here = Some (new_held id func arg detached) }
