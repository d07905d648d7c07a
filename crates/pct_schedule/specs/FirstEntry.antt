-- An entry in the first line of a text.
use Rattle.std.specs.Prelude.{◌≡◌, ℕ, false, List, Some}
use Rattle.pct_model.specs.declared.schedule.Entry.{Entry}
use Rattle.pct_model.specs.declared.schedule.Format.{Format}
use Rattle.pct_model.specs.declared.keyword.Keyword.TheVariants as keyword
use Rattle.pct_model.specs.Keywords.{keyword_text}
use Rattle.pct_model.specs.Lines.{strip_cr}
use Rattle.pct_model.specs.Schedule.{begins, entry_in}
use Rattle.pct_text.specs.FirstLine.{IsFirstLine}
use Rattle.pct_text.specs.FirstNumber.{split_number}

-- a text begins with two numbers, each with a space after it
pub record AreFirstNumbers (text : List ℕ) (a b : ℕ) (after : List ℕ) : Type 0 where
  pub next : List ℕ
  pub first : split_number text ≡ Some (a, next)
  pub second : split_number next ≡ Some (b, after)

-- the first line of a text has no CR at its end, and is an entry in a schedule of every format; the text after it is given
pub record IsFirstEntry (text : List ℕ) (e : Entry) (after : List ℕ) : Type 0 where
  pub line : List ℕ
  pub first : IsFirstLine text line after
  pub whole : strip_cr line ≡ line
  pub goes_on : begins (keyword_text keyword.End) line ≡ false
  pub entry : (format : Format) → entry_in format line ≡ Some e
