-- A number before a space.
use Rattle.std.specs.Prelude.{ℕ, List, Option, Some}
use Rattle.pct_model.specs.Lines.{◌>>=◌, split_once, number_of}

-- the number before the first space, and the bytes after that space
unfoldable pub split_number : List ℕ → Option (ℕ × List ℕ)
split_number bytes = do
  parts ← split_once 32 bytes
  n ← number_of parts.0
  Some (n, parts.1)
