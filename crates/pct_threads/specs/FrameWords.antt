-- A frame as eleven words: the function, the program counter, the number of the kind, and the eight locals.
use Rattle.std.specs.Prelude.{ℕ, ◌+◌, ◌-◌, ◌%◌, if◌then◌else◌, List, ◌∷◌, slice_index, slice_set, nat_eq}
use Rattle.pct_model.specs.declared.frame.Frame.{Frame}
use Rattle.pct_model.specs.declared.state.FrameKind.{FrameKind}
use Rattle.pct_model.specs.declared.state.FrameKind.TheVariants as kind

-- the number of a kind, which has 32 bits; the index of a once control is at most 31
abbrev pub kind_number : FrameKind → ℕ
kind_number kind.Main = 0
kind_number kind.Start = 1
kind_number kind.Call = 2
kind_number kind.PopHandler = 3
kind_number kind.Handler = 4
kind_number kind.Destructor = 5
kind_number kind.ForkFn = 6
kind_number kind.ExitFn = 7
kind_number (kind.OnceFn o) = (8 + o) % 4294967296

-- the kind with this number
abbrev pub kind_of : ℕ → FrameKind
kind_of n =
    if nat_eq n 0 then kind.Main
    else if nat_eq n 1 then kind.Start
    else if nat_eq n 2 then kind.Call
    else if nat_eq n 3 then kind.PopHandler
    else if nat_eq n 4 then kind.Handler
    else if nat_eq n 5 then kind.Destructor
    else if nat_eq n 6 then kind.ForkFn
    else if nat_eq n 7 then kind.ExitFn
    else kind.OnceFn (n - 8)

-- the words of a frame
abbrev pub words_of : Frame → List ℕ
words_of frame = frame.func ∷ frame.pc ∷ kind_number frame.kind ∷ frame.locals

-- the word of a frame at an index
abbrev pub frame_word_of : Frame → ℕ → ℕ
frame_word_of frame i = slice_index (words_of frame) i

-- the frame with a new value of one word
abbrev pub with_word : ℕ → ℕ → Frame → Frame
with_word i value frame =
    if nat_eq i 0 then record frame { func = value }
    else if nat_eq i 1 then record frame { pc = value }
    else if nat_eq i 2 then record frame { kind = kind_of value }
    else record frame { locals = slice_set frame.locals (i - 3) value }
