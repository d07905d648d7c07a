-- Reading tallies. A line is given without its LF and without a CR at its end.
use Rattle.std.specs.Prelude.{ℕ, zero, suc, ◌+◌, Bool, not, ◌&&◌, ◌||◌, if◌then◌else◌, List, [], ◌∷◌, length, map, Option, Some, None, option_map, Result, Ok, Err, nat_eq, nat_le, bytes_eq, codes, decimal}
use Rattle.std.specs.List.{list_all}
use Rattle.std.specs.Option.{option_map_or}
use Rattle.std.specs.Str.Parse.{digits_value}
use Rattle.pct_model.specs.declared.keyword.Keyword.{Keyword}
use Rattle.pct_model.specs.declared.keyword.Keyword.TheVariants as keyword
use Rattle.pct_model.specs.declared.stop.Why.{Why}
use Rattle.pct_model.specs.Keywords.{keyword_text}
use Rattle.pct_model.specs.LineParsing.{is_empty}
use Rattle.pct_model.specs.Lines.{◌>>=◌, lines_of, number_of, split_once, strip_cr}
use Rattle.pct_model.specs.StopTexts.{class_of_stop, name_of_stop}
use Rattle.pct_tallies.specs.declared.count.Count.{Count}
use Rattle.pct_tallies.specs.declared.count.StopCount.{StopCount}
use Rattle.pct_tallies.specs.declared.fault.TallyWhy.{TallyWhy}
use Rattle.pct_tallies.specs.declared.fault.TallyWhy.TheVariants as why
use Rattle.pct_tallies.specs.declared.range_tally.Limits.{Limits}
use Rattle.pct_tallies.specs.declared.range_tally.PlacedTally.{PlacedTally}
use Rattle.pct_tallies.specs.declared.range_tally.RangeTally.{RangeTally}
use Rattle.pct_tallies.specs.declared.range_tally.Subject.{Subject}
use Rattle.pct_tallies.specs.declared.seeds.Seeds.{Seeds}
use Rattle.pct_tallies.specs.declared.tally.Tally.{Tally}
use Rattle.pct_tallies.specs.Faults.{Fault}
use Rattle.pct_tallies.specs.Seeds.{is_in, is_range}
use Rattle.pct_tallies.specs.Sums.{no_runs}
use Rattle.pct_tallies.specs.Tallies.{all_stops}

-- ---- words

-- the number of at most 64 bits whose decimal text is the word; a decimal text has no leading zeros
unfoldable pub count_of : List ℕ → Option ℕ
count_of word =
    if bytes_eq (decimal (digits_value 10 word)) word && nat_le (digits_value 10 word) 18446744073709551615
    then Some (digits_value 10 word)
    else None

-- what comes after a word and a space
unfoldable pub after_word : List ℕ → List ℕ → Option (List ℕ)
after_word word line = split_once 32 line >>= λ parts. if bytes_eq parts.0 word then Some parts.1 else None

-- a lower-case hexadecimal digit
abbrev pub is_hex : ℕ → Bool
is_hex b = nat_le 48 b && nat_le b 57 || nat_le 97 b && nat_le b 102

-- ---- lines

-- `WORD N`
unfoldable pub number_for : Keyword → List ℕ → Option ℕ
number_for word line = after_word (keyword_text word) line >>= count_of

-- the same, with a number of at most 32 bits
unfoldable pub small_number_for : Keyword → List ℕ → Option ℕ
small_number_for word line = after_word (keyword_text word) line >>= number_of

-- a range, if there is a seed in it
abbrev pub if_range : Seeds → Option Seeds
if_range s = if is_range s then Some s else None

-- `tally FIRST LAST`
unfoldable pub seeds_of : List ℕ → Option Seeds
seeds_of line = do
  rest ← after_word (codes "tally") line
  parts ← split_once 32 rest
  first ← count_of parts.0
  last ← count_of parts.1
  if_range (record { first = first; last = last })

-- 64 lower-case hexadecimal digits
abbrev pub is_digest : List ℕ → Bool
is_digest digits = nat_eq (length digits) 64 && list_all is_hex digits

-- `script HEX`
unfoldable pub digest_of : List ℕ → Option (List ℕ)
digest_of line = after_word (keyword_text keyword.Script) line >>= λ digits. if is_digest digits then Some digits else None

-- `limits BUDGET PASSES SLOTS`
unfoldable pub limits_of : List ℕ → Option Limits
limits_of line = do
  rest ← after_word (codes "limits") line
  first ← split_once 32 rest
  second ← split_once 32 first.1
  budget ← number_of first.0
  passes ← number_of second.0
  slots ← number_of second.1
  Some (record { budget = budget; passes = passes; slots = slots })

-- a count of some runs, the first of which is under one of these seeds
abbrev pub if_counted : Seeds → Count → Option Count
if_counted seeds count = if not (nat_eq count.runs 0) && is_in seeds count.first then Some count else None

-- `N first S`
unfoldable pub first_in : Seeds → List ℕ → Option Count
first_in seeds text = do
  parts ← split_once 32 text
  runs ← count_of parts.0
  rest ← after_word (keyword_text keyword.First) parts.1
  first ← count_of rest
  if_counted seeds (record { runs = runs; first = first })

-- `0`, or `N first S`
unfoldable pub written_count : Seeds → List ℕ → Option Count
written_count seeds text = if bytes_eq text (codes "0") then Some no_runs else first_in seeds text

-- `WORD 0`, or `WORD N first S`
unfoldable pub count_for : Keyword → Seeds → List ℕ → Option Count
count_for word seeds line = after_word (keyword_text word) line >>= written_count seeds

-- `CLASS NAME N first S`, of a stop
unfoldable pub stop_count_for : Why → Seeds → List ℕ → Option Count
stop_count_for w seeds line = do
  rest ← after_word (keyword_text (class_of_stop w)) line
  text ← after_word (keyword_text (name_of_stop w)) rest
  first_in seeds text

-- ---- the lines of a tally

-- the lines that are left: the number of the first of them, and they
abbrev pub Left : Type 0
Left = ℕ × List (List ℕ)

-- what the next lines give, and the lines that are left after them; or the fault
abbrev pub Read : Type 0 → Type 0
Read A = Result (A × Left) Fault

-- bind of Read: f reads on, where the first reading left off
infixl 10 ◌>>>◌
abbrev pub ◌>>>◌ : {A B : Type 0} → Read A → (A → Left → Read B) → Read B
Ok read >>> f = f read.0 read.1
Err fault >>> f = Err fault

-- the value that was read from line n, and the lines after it; or line n is refused
abbrev pub given : {A : Type 0} → ℕ → Option A → List (List ℕ) → Read A
given n (Some value) after = Ok (value, (n + 1, after))
given n None after = Err (n, why.BadLine)

-- the next line, by a reading of it
unfoldable pub next_by : {A : Type 0} → (List ℕ → Option A) → Left → Read A
next_by f (n, []) = Err (n, why.BadLine)
next_by f (n, line ∷ lines) = given n (f line) lines

-- what is run
unfoldable pub subject_from : Left → Read Subject
subject_from left = next_by digest_of left >>> λ digest left. next_by limits_of left >>> λ limits left. Ok (record { digest = digest; limits = limits }, left)

-- the line of a stop, if it is the next one
unfoldable pub stop_from : Why → Seeds → Left → Option (Count × Left)
stop_from w seeds (n, []) = None
stop_from w seeds (n, line ∷ lines) = option_map (λ count. (count, (n + 1, lines))) (stop_count_for w seeds line)

-- the lines of these stops, of each if it is the next one, and the lines that are left
unfoldable pub stops_from : List Why → Seeds → Left → List StopCount × Left
stops_from [] seeds left = ([], left)
stops_from (w ∷ whys) seeds left =
    option_map_or
    (λ found. (record { why = w; count = found.0 } ∷ (stops_from whys seeds found.1).0, (stops_from whys seeds found.1).1))
    (stop_from w seeds left)
    (stops_from whys seeds left)

-- the totals, after the counts of a tally
unfoldable pub totals_from : Tally → Left → Read Tally
totals_from counts left =
    next_by (number_for keyword.Joined) left >>> λ joined left.
    next_by (number_for keyword.Canceled) left >>> λ canceled left.
    next_by (small_number_for keyword.Least) left >>> λ least left.
    next_by (small_number_for keyword.Most) left >>> λ most left.
    Ok (record counts { joined = joined; canceled = canceled; least = least; most = most }, left)

-- what is counted, of runs under these seeds
unfoldable pub counts_from : Seeds → Left → Read Tally
counts_from seeds left =
    next_by (count_for keyword.Complete seeds) left >>> λ complete left.
    next_by (count_for keyword.Deadlock seeds) left >>> λ deadlock left.
    next_by (count_for keyword.Budget seeds) left >>> λ budget left.
    totals_from (record {
      complete = complete;
      deadlock = deadlock;
      budget = budget;
      stops = (stops_from all_stops seeds left).0;
      joined = 0;
      canceled = 0;
      least = 0;
      most = 0;
    }) (stops_from all_stops seeds left).1

-- the tally of a range
unfoldable pub range_from : Left → Read RangeTally
range_from left =
    next_by seeds_of left >>> λ seeds left.
    subject_from left >>> λ subject left.
    counts_from seeds left >>> λ tally left.
    Ok (record { seeds = seeds; subject = subject; tally = tally }, left)

-- ---- the tallies of a text

-- the tally that begins at a line, before others
abbrev pub prepend : PlacedTally → Result (List PlacedTally) Fault → Result (List PlacedTally) Fault
prepend placed (Ok tallies) = Ok (placed ∷ tallies)
prepend placed (Err fault) = Err fault

-- the tally that was read, which begins at line n, before those of the lines after it
abbrev pub with_others : ℕ → (Left → Result (List PlacedTally) Fault) → Read RangeTally → Result (List PlacedTally) Fault
with_others n others (Ok read) = prepend (record { line = n; range = read.0 }) (others read.1)
with_others n others (Err fault) = Err fault

-- the tallies of at most so many ranges, one after the other, to the last line
unfoldable pub tallies_from : ℕ → Left → Result (List PlacedTally) Fault
tallies_from zero left = Ok []
tallies_from (suc ranges) (n, []) = Ok []
tallies_from (suc ranges) (n, line ∷ lines) = with_others n (tallies_from ranges) (range_from (n, line ∷ lines))

-- tallies, if there is one; else line 1 is refused
abbrev pub if_some : Result (List PlacedTally) Fault → Result (List PlacedTally) Fault
if_some (Ok []) = Err (1, why.NoTally)
if_some (Ok (placed ∷ tallies)) = Ok (placed ∷ tallies)
if_some (Err fault) = Err fault

-- the lines of a text
abbrev pub lines_in : List ℕ → List (List ℕ)
lines_in text = map strip_cr (lines_of text)

-- the tallies in a text: there are not more of them than bytes
unfoldable pub tallies_in : List ℕ → Result (List PlacedTally) Fault
tallies_in text = if_some (tallies_from (length text) (1, lines_in text))
