-- Writing of a text before the bytes at the end of a buffer.
use Rattle.std.specs.Prelude.{◌≡◌, ℕ, ◌<◌, ◌≤◌, List, ◌++◌, length, drop, Option, IfSome, IfNone}

-- At Some the text was written so that it ends at `end`, the result is where it starts, and the bytes after it are the same.
-- At None the text does not fit before `end`: with the bytes after it, it is longer than the buffer.
pub record Prepends (old new : List ℕ) (end : ℕ) (text : List ℕ) (result : Option ℕ) : Type 0 where
  pub len : length new ≡ length old
  pub start : IfSome result (λ start. start ≤ end)
  pub written : IfSome result (λ start. drop start new ≡ text ++ drop end old)
  pub none : IfNone result (length old < length (text ++ drop end old))
