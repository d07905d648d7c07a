-- Stacks of handlers by their numbers.
use Rattle.std.specs.Prelude.{ℕ, List, [], ◌∷◌, Option, Some, None, unwrap_or, slice_get}

-- the stack with a number
abbrev pub stack_at : List (List (ℕ × ℕ)) → ℕ → List (ℕ × ℕ)
stack_at all k = unwrap_or (slice_get all k) []

-- the newest handler on a stack
abbrev pub newest : List (ℕ × ℕ) → Option (ℕ × ℕ)
newest [] = None
newest (handler ∷ older) = Some handler
