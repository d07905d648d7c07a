-- Sets of slots. A slot is a number below 64, and a set is the list of its slots in rising order.
use Rattle.std.specs.Prelude.{ℕ, Bool, ◌&&◌, ◌||◌, not, List, filter, nat_eq}
use Rattle.std.specs.List.{range_with_len, list_any}

-- the slots that pass the test, in rising order
unfoldable pub slots_where : (ℕ → Bool) → List ℕ
slots_where test = filter test (range_with_len 0 64)

-- the slot is in the set
unfoldable pub has_slot : List ℕ → ℕ → Bool
has_slot set slot = list_any (λ s. nat_eq s slot) set

-- the set and this slot
abbrev pub with_slot : ℕ → List ℕ → List ℕ
with_slot slot set = slots_where (λ s. nat_eq s slot || has_slot set s)

-- the set except this slot
abbrev pub without_slot : ℕ → List ℕ → List ℕ
without_slot slot set = slots_where (λ s. not (nat_eq s slot) && has_slot set s)

-- the slots in either set
abbrev pub union_of : List ℕ → List ℕ → List ℕ
union_of a b = slots_where (λ s. has_slot a s || has_slot b s)

-- the slots in the first set and not in the second
abbrev pub difference_of : List ℕ → List ℕ → List ℕ
difference_of a b = slots_where (λ s. has_slot a s && not (has_slot b s))
