-- The frames of a thread in the words of its stack slot: frame k, counted from the oldest, has the twelve words from word 12 * k on.
-- Frames are listed newest first. No public clause cites this module.
use Rattle.std.specs.Prelude.{◌≡◌, ℕ, zero, suc, ◌+◌, ◌*◌, ◌<◌, true, if◌then◌else◌, List, [], ◌∷◌, nat_eq, slice_index_or}
use Rattle.pct_model.specs.declared.frame.Frame.{Frame}
use Rattle.pct_model.specs.declared.state.FrameKind.{FrameKind}
use Rattle.pct_model.specs.declared.state.FrameKind.TheVariants as kind
use Rattle.pct_stack.specs.Stacks.{Stacks, is_taken, words_at, with_words}

-- the kind with this number, if it is below 8; else that of an init routine of this once control
abbrev pub kind_in : ℕ → ℕ → FrameKind
kind_in number once =
    if nat_eq number 0 then kind.Main
    else if nat_eq number 1 then kind.Start
    else if nat_eq number 2 then kind.Call
    else if nat_eq number 3 then kind.PopHandler
    else if nat_eq number 4 then kind.Handler
    else if nat_eq number 5 then kind.Destructor
    else if nat_eq number 6 then kind.ForkFn
    else if nat_eq number 7 then kind.ExitFn
    else kind.OnceFn once

-- the word at an index, counted from that of the first
abbrev pub word_in : List ℕ → ℕ → ℕ → ℕ
word_in words first i = slice_index_or words (first + i) 0

-- the frame in the words from the first on
abbrev pub frame_from : List ℕ → ℕ → Frame
frame_from words first = record {
  func = word_in words first 0;
  pc = word_in words first 1;
  locals = word_in words first 3 ∷ word_in words first 4 ∷ word_in words first 5 ∷ word_in words first 6 ∷ word_in words first 7 ∷ word_in words first 8 ∷ word_in words first 9 ∷ word_in words first 10 ∷ [];
  kind = kind_in (word_in words first 2) (word_in words first 11);
}

-- the frame with this number, counted from the oldest
abbrev pub frame_in : List ℕ → ℕ → Frame
frame_in words k = frame_from words (12 * k)

-- so many frames
abbrev pub frames_in : List ℕ → ℕ → List Frame
frames_in words zero = []
frames_in words (suc n) = frame_in words n ∷ frames_in words n

-- the slot is taken, and has words for 17 frames
pub record IsStack (stacks : Stacks) (slot : ℕ) : Type 0 where
  pub taken : is_taken stacks slot ≡ true
  pub width : stacks.width ≡ 204

-- the words of the slot alone have changed
pub record IsChanged (old new : Stacks) (slot : ℕ) : Type 0 where
  pub stack : IsStack new slot
  pub words : new ≡ with_words slot (words_at new slot) old

-- the twelve words of a frame are those of a list, and those of the frames below it are the same
pub record IsWritten (old new : Stacks) (slot k : ℕ) (words : List ℕ) : Type 0 where
  pub changed : IsChanged old new slot
  pub frame : (i : ℕ) → i < 12 → word_in (words_at new slot) (12 * k) i ≡ slice_index_or words i 0
  pub below : (i : ℕ) → i < 12 * k → slice_index_or (words_at new slot) i 0 ≡ slice_index_or (words_at old slot) i 0
