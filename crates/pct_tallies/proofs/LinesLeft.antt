-- The next of the lines that are left.
use Rattle.std.proofs.Common.{◌≡◌, ◌+◌, ℕ, List, [], ◌∷◌, Option, Some, None, ap, refl, ◌∙◌}
use Rattle.std.specs.Prelude.{Result, Ok, Err}
use Rattle.std.specs.Option.{option_map}
use Rattle.pct_model.specs.declared.stop.Why.{Why}
use Rattle.pct_tallies.specs.declared.fault.TallyWhy.TheVariants as why
use Rattle.pct_tallies.specs.declared.reader.Lines.{Lines}
use Rattle.pct_tallies.specs.declared.seeds.Seeds.{Seeds}
use Rattle.pct_tallies.specs.LinesLeft.{IsNextLine, left_of}
use Rattle.pct_tallies.specs.Readings.{Read, given, lines_in, next_by, stop_count_for, stop_from}

-- a reading of the next line
pub next_is : {A : Type 0} (f : List ℕ → Option A) (before after : Lines) (line : List ℕ) → IsNextLine before line after → next_by f (left_of before) ≡ given before.number (f line) (lines_in after.text.now)
unfolding next_by
next_is f before after line next = ap (λ (ls : List (List ℕ)). next_by f (before.number, ls)) next.lines

-- without a line the next one is refused
pub none_next : {A : Type 0} (f : List ℕ → Option A) (before : Lines) → lines_in before.text.now ≡ [] → next_by f (left_of before) ≡ Err (before.number, why.BadLine)
unfolding next_by
none_next f before none = ap (λ (ls : List (List ℕ)). next_by f (before.number, ls)) none

-- a line of a stop
pub next_stop : (w : Why) (seeds : Seeds) (before after : Lines) (line : List ℕ) → IsNextLine before line after
    → stop_from w seeds (left_of before) ≡ option_map (λ count. (count, (before.number + 1, lines_in after.text.now))) (stop_count_for w seeds line)
unfolding stop_from
next_stop w seeds before after line next = ap (λ (ls : List (List ℕ)). stop_from w seeds (before.number, ls)) next.lines

pub no_stop : (w : Why) (seeds : Seeds) (before : Lines) → lines_in before.text.now ≡ [] → stop_from w seeds (left_of before) ≡ None
unfolding stop_from
no_stop w seeds before none = ap (λ (ls : List (List ℕ)). stop_from w seeds (before.number, ls)) none
