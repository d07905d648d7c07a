-- The prefix of a piece that a sink accepts.
use Rattle.std.specs.Prelude.{ℕ, ◌<◌, ◌≤◌, List, [], length, take, Option, Result, Ok, Err}
use Rattle.std.specs.Io.KnownBytes.{Appends}

-- n bytes of the piece were accepted: at most all of them, and at least one unless the piece is empty
pub record Accepts (n : ℕ) (piece : List ℕ) : Type 0 where
  pub bound : n ≤ length piece
  pub some : 0 < length piece → 0 < n

-- the bytes of the piece that a write accepted
abbrev pub accepted_of : {E : Type 0} → Result ℕ E → List ℕ → List ℕ
accepted_of (Ok n) piece = take n piece
accepted_of (Err e) piece = []

-- the reported bytes grow by a prefix of the text
abbrev pub AppendsPrefix : Option (List ℕ) → Option (List ℕ) → List ℕ → Type 0
AppendsPrefix old new text = (n : ℕ) × (n ≤ length text) × Appends old new (take n text)
