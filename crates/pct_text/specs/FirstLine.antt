-- The first line of a text.
use Rattle.std.specs.Prelude.{◌≡◌, ◌⊎◌, ℕ, ◌<◌, List, [], ◌∷◌, ◌++◌, length}
use Rattle.pct_model.specs.Lines.{lines_of}

-- a text begins with a line, and the rest of the text is after it
pub record IsFirstLine (text line rest : List ℕ) : Type 0 where
  -- the other lines of the text are the lines of the rest
  pub lines : lines_of text ≡ line ∷ lines_of rest
  -- the line ends with an LF, or it is the whole text
  pub split : (text ≡ line ++ 10 ∷ rest) ⊎ ((text ≡ line) × (rest ≡ []))
  pub shorter : length rest < length text
