-- How a block keeps its free slots: word 0 of a free slot is the next free slot, and word 1 the one before it. A number that is no
-- slot stands for none. No public clause cites this module.
use Rattle.std.specs.Prelude.{◌≡◌, ℕ, zero, suc, ◌<◌, ◌≤◌, Bool, false, cond, List, [], ◌∷◌, length, map, nat_eq, nat_lt, Option, Some, None}
use Rattle.std.specs.List.{list_any, range_with_len}
use Rattle.pct_stack.specs.Rows.{Rows, row_at, word_at, with_word}
use Rattle.pct_stack.specs.Stacks.{Stacks, all_free}
use Rattle.pct_stack.specs.declared.stack_block.TheConstants.{NO_SLOT}

-- the slot is in the list
abbrev pub is_in : List ℕ → ℕ → Bool
is_in slots slot = list_any (nat_eq slot) slots

module _ (count : ℕ) (next before : ℕ → ℕ) where
  -- the slots below `count` that the links lead to from a slot on, at most `fuel` of them
  abbrev pub follow : ℕ → ℕ → List ℕ
  follow zero slot = []
  follow (suc fuel) slot = cond (nat_lt slot count) (slot ∷ follow fuel (next slot)) []

  -- from the slot on the links lead over this list, of different slots, and back to the one before
  abbrev pub AreLinked : ℕ → ℕ → List ℕ → Type 0
  AreLinked last slot [] = count ≤ slot
  AreLinked last slot (s ∷ rest) = (slot ≡ s) × (s < count) × (before s ≡ last) × (is_in rest s ≡ false) × AreLinked s (next s) rest

-- the free slots, from the first one on
abbrev pub free_of : Rows → ℕ → List ℕ
free_of grid head = follow (length grid.rows) (λ s. word_at grid s 0) (λ s. word_at grid s 1) (length grid.rows) head

-- the words of each slot that is not free
abbrev pub slots_of : Rows → List ℕ → List (Option (List ℕ))
slots_of grid free = map (λ slot. cond (is_in free slot) None (Some (row_at grid slot))) (range_with_len 0 (length grid.rows))

-- the block with these rows, and this first free slot
abbrev pub stacks_of : Rows → ℕ → Stacks
stacks_of grid head = record { width = grid.width; free = free_of grid head; slots = slots_of grid (free_of grid head) }

-- the same where the rows were written; before that all slots are free
abbrev pub stacks_seen : Rows → ℕ → Stacks
stacks_seen grid head = cond (nat_eq (length grid.rows) 0) (all_free grid.room grid.width) (stacks_of grid head)

-- the links of the rows lead over the list
abbrev pub IsChain : Rows → ℕ → List ℕ → Type 0
IsChain grid head free = AreLinked (length grid.rows) (λ s. word_at grid s 0) (λ s. word_at grid s 1) NO_SLOT head free

-- each row has as many words as the width says
abbrev pub AreEven : Rows → Type 0
AreEven grid = (row : ℕ) → row < length grid.rows → length (row_at grid row) ≡ grid.width

pub record IsBlock (grid : Rows) (head : ℕ) : Type 0 where
  pub some : 1 ≤ grid.room
  pub few : grid.room ≤ 64
  pub count : length grid.rows ≤ 64
  pub width : 2 ≤ grid.width
  pub even : AreEven grid
  pub chain : IsChain grid head (free_of grid head)

-- the slot stands before the free slots from `head` on
abbrev pub with_front : ℕ → ℕ → Rows → Rows
with_front head slot grid = with_word head 1 slot (with_word slot 1 NO_SLOT (with_word slot 0 head grid))

-- the links lead past the slot
abbrev pub with_bypass : ℕ → Rows → Rows
with_bypass slot grid = with_word (word_at grid slot 0) 1 (word_at grid slot 1) (with_word (word_at grid slot 1) 0 (word_at grid slot 0) grid)

-- the first free slot where the links lead past the slot
abbrev pub head_without : ℕ → Rows → ℕ → ℕ
head_without slot grid head = cond (nat_lt (word_at grid slot 1) (length grid.rows)) head (word_at grid slot 0)
