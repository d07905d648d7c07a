-- The lines that are left, as the code has them. No public clause cites this file.
use Rattle.std.specs.Prelude.{◌≡◌, ℕ, ◌+◌, ◌<◌, ◌≤◌, ◌^◌, List, ◌∷◌, length}
use Rattle.pct_tallies.specs.declared.count.Count.{Count}
use Rattle.pct_tallies.specs.declared.reader.Lines.{Lines}
use Rattle.pct_tallies.specs.Readings.{Left, lines_in}

-- the number of the first line that is left, and the lines
abbrev pub left_of : Lines → Left
left_of lines = (lines.number, lines_in lines.text.now)

-- the numbers of all lines that are left have 32 bits
abbrev pub Fits : Lines → Type 0
Fits lines = lines.number + length lines.text.now < 2 ^ 32

-- some lines were read: fewer bytes are left, and at least one for each line
pub record IsAfter (before after : Lines) : Type 0 where
  pub within : after.number + length after.text.now ≤ before.number + length before.text.now
  pub shorter : length after.text.now < length before.text.now

-- no line or some lines were read
pub record IsNotBefore (before after : Lines) : Type 0 where
  pub within : after.number + length after.text.now ≤ before.number + length before.text.now
  pub no_longer : length after.text.now ≤ length before.text.now

-- a count, and the lines after it
abbrev pub with_left : Lines → Count → Count × Left
with_left after count = (count, left_of after)

-- the first line that is left, and those after it
pub record IsNextLine (before : Lines) (line : List ℕ) (after : Lines) : Type 0 where
  pub lines : lines_in before.text.now ≡ line ∷ lines_in after.text.now
  pub number : after.number ≡ before.number + 1
  pub is_after : IsAfter before after
