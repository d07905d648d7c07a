-- How a `SlotSet` represents its set: slot s is in it if bit s is set. No public clause cites this module.
use Rattle.std.specs.Prelude.{ℕ, ◌+◌, ◌^◌, List, [], ◌∷◌, Bool, nat_eq}
use Rattle.std.specs.Int.{bit_at}
use Rattle.pct_set.specs.Slots.{slots_where}

-- bit s is set
abbrev pub has_bit : ℕ → ℕ → Bool
has_bit bits s = nat_eq (bit_at bits s) 1

-- the set that the bits represent
abbrev pub slots_of : ℕ → List ℕ
slots_of bits = slots_where (has_bit bits)

-- the bits that represent the set
abbrev pub bits_of : List ℕ → ℕ
bits_of [] = 0
bits_of (s ∷ set) = 2 ^ s + bits_of set
