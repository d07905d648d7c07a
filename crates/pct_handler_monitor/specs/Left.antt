-- What is left of open handlers after some handlers ran. Open handlers are listed newest first, and those that ran in order.
use Rattle.std.specs.Prelude.{ℕ, if◌then◌else◌, List, [], ◌∷◌, Option, Some, None, option_and_then}
use Rattle.pct_laws.specs.Once.{is_pair}

-- the open handlers without the newest one, if it is this one
abbrev pub take_off : ℕ × ℕ → List (ℕ × ℕ) → Option (List (ℕ × ℕ))
take_off handler [] = None
take_off handler (newest ∷ older) = if is_pair newest.0 newest.1 handler then Some older else None

-- the open handlers without those that ran, if these are the newest of them, in order
abbrev pub left_after : List (ℕ × ℕ) → List (ℕ × ℕ) → Option (List (ℕ × ℕ))
left_after [] handlers = Some handlers
left_after (handler ∷ ran) handlers = option_and_then (left_after ran) (take_off handler handlers)
