-- Cells that are empty or have a value.
use Rattle.std.specs.Prelude.{◌≡◌, ◌≢◌, ℕ, List, [], ◌∷◌, map, get_or, Option, Some, None}

module _ {X : Type 0} where
  -- the values of the cells that have one
  abbrev pub somes : List (Option X) → List X
  somes [] = []
  somes (None ∷ cells) = somes cells
  somes (Some x ∷ cells) = x ∷ somes cells

  -- the cell has a value
  abbrev pub IsFilled : List (Option X) → ℕ → Type 0
  IsFilled cells i = (x : X) × (get_or cells i None ≡ Some x)

  -- each cell has a value
  abbrev pub AreFilled : List (Option X) → Type 0
  AreFilled cells = cells ≡ map Some (somes cells)

  -- each cell has a value, or none
  abbrev pub AreAlike : List (Option X) → Type 0
  AreAlike cells = somes cells ≢ [] → AreFilled cells
