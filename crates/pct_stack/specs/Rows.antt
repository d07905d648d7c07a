-- Rows of words, and how they lie in one list. No public clause cites this module.
use Rattle.std.specs.Prelude.{ℕ, zero, suc, ◌+◌, List, [], ◌∷◌, take, drop, slice_index_or, slice_set}

-- words in a block of memory: how many there is room for, and the words if they were written
pub record BlockWords : Type 0 where
  pub room : ℕ
  pub words : List ℕ

-- rows of `width` words each, and how many there is room for
pub record Rows : Type 0 where
  pub room : ℕ
  pub width : ℕ
  pub rows : List (List ℕ)

-- the words of a row
abbrev pub row_at : Rows → ℕ → List ℕ
row_at grid row = slice_index_or grid.rows row []

-- a word of a row
abbrev pub word_at : Rows → ℕ → ℕ → ℕ
word_at grid row i = slice_index_or (row_at grid row) i 0

-- the row has these words
abbrev pub with_row : ℕ → List ℕ → Rows → Rows
with_row row words grid = record { room = grid.room; width = grid.width; rows = slice_set grid.rows row words }

-- the word of the row has this value
abbrev pub with_word : ℕ → ℕ → ℕ → Rows → Rows
with_word row i value grid = with_row row (slice_set (row_at grid row) i value) grid

-- the rows of a list of words
abbrev pub rows_of : ℕ → ℕ → List ℕ → List (List ℕ)
rows_of zero width words = []
rows_of (suc n) width words = take width words ∷ rows_of n width (drop width words)

-- so many items from the first on are this one
abbrev pub set_from : {X : Type 0} → X → ℕ → ℕ → List X → List X
set_from x first zero items = items
set_from x first (suc n) items = slice_set (set_from x first n items) (first + n) x
