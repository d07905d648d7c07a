-- Stack slots: which are taken, the words of each of those, and the order in which the free ones are handed out.
use Rattle.std.specs.Prelude.{ℕ, Bool, not, ◌&&◌, List, [], ◌∷◌, length, filter, replicate, nat_eq, nat_lt, slice_index_or, slice_set, Option, Some, None, is_some}
use Rattle.std.specs.List.{range_with_len}
use Rattle.std.specs.Option.{unwrap_or}

-- the slots of a block
pub record Stacks : Type 0 where
  -- the number of words of a slot
  pub width : ℕ
  -- the free slots, the next to be handed out first
  pub free : List ℕ
  -- the words of each slot that is taken
  pub slots : List (Option (List ℕ))

-- the words of a slot, if it is taken
abbrev pub slot_at : Stacks → ℕ → Option (List ℕ)
slot_at stacks slot = slice_index_or stacks.slots slot None

-- whether the slot is taken
abbrev pub is_taken : Stacks → ℕ → Bool
is_taken stacks slot = is_some (slot_at stacks slot)

-- whether there is such a slot, and it is not taken
abbrev pub is_free : Stacks → ℕ → Bool
is_free stacks slot = nat_lt slot (length stacks.slots) && not (is_taken stacks slot)

-- the words of a slot that is taken
abbrev pub words_at : Stacks → ℕ → List ℕ
words_at stacks slot = unwrap_or (slot_at stacks slot) []

-- the list without a slot
abbrev pub without : ℕ → List ℕ → List ℕ
without slot free = filter (λ s. not (nat_eq s slot)) free

-- all slots are free, in rising order
abbrev pub all_free : ℕ → ℕ → Stacks
all_free count width = record { width = width; free = range_with_len 0 count; slots = replicate count None }

-- the slot is taken, with these words
abbrev pub with_taken : ℕ → List ℕ → Stacks → Stacks
with_taken slot words stacks = record { width = stacks.width; free = without slot stacks.free; slots = slice_set stacks.slots slot (Some words) }

-- the slot is free, and the next to be handed out
abbrev pub with_given : ℕ → Stacks → Stacks
with_given slot stacks = record { width = stacks.width; free = slot ∷ stacks.free; slots = slice_set stacks.slots slot None }

-- the words of a slot that is taken are these
abbrev pub with_words : ℕ → List ℕ → Stacks → Stacks
with_words slot words stacks = record { width = stacks.width; free = stacks.free; slots = slice_set stacks.slots slot (Some words) }

-- all slots are free, in rising order, but the one to keep
abbrev pub with_kept_alone : Option ℕ → Stacks → Stacks
with_kept_alone None stacks = all_free (length stacks.slots) stacks.width
with_kept_alone (Some slot) stacks = with_taken slot (words_at stacks slot) (all_free (length stacks.slots) stacks.width)
