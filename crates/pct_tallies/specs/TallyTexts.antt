-- The text of a tally.
use Rattle.std.specs.Prelude.{ℕ, if◌then◌else◌, List, [], ◌∷◌, ◌++◌, map, codes, decimal, nat_eq}
use Rattle.pct_model.specs.declared.keyword.Keyword.{Keyword}
use Rattle.pct_model.specs.declared.keyword.Keyword.TheVariants as keyword
use Rattle.pct_model.specs.Keywords.{keyword_text}
use Rattle.pct_model.specs.StopTexts.{stop_words}
use Rattle.pct_tallies.specs.declared.count.Count.{Count}
use Rattle.pct_tallies.specs.declared.count.StopCount.{StopCount}
use Rattle.pct_tallies.specs.declared.range_tally.RangeTally.{RangeTally}
use Rattle.pct_tallies.specs.declared.range_tally.Subject.{Subject}
use Rattle.pct_tallies.specs.declared.tally.Tally.{Tally}

-- a word and a number
abbrev pub number_line : Keyword → ℕ → List (List ℕ)
number_line word number = keyword_text word ∷ decimal number ∷ []

-- `N first S`: how many runs there are of a kind, and the seed of the first of them; `0` where there is none
unfoldable pub count_words : Count → List (List ℕ)
count_words count = if nat_eq count.runs 0 then decimal count.runs ∷ [] else decimal count.runs ∷ keyword_text keyword.First ∷ decimal count.first ∷ []

-- the runs with a verdict
abbrev pub verdict_count_line : Keyword → Count → List (List ℕ)
verdict_count_line word count = keyword_text word ∷ count_words count

-- the runs that a stop ended: its words, as in the verdict of a report, and the count
abbrev pub stop_line : StopCount → List (List ℕ)
stop_line s = stop_words s.why ++ count_words s.count

-- the runs that no stop ended
unfoldable pub verdict_lines : Tally → List (List (List ℕ))
verdict_lines t = verdict_count_line keyword.Complete t.complete ∷ verdict_count_line keyword.Deadlock t.deadlock ∷ verdict_count_line keyword.Budget t.budget ∷ []

-- the joins, those of canceled threads, and the least and the greatest number of entries of a run
unfoldable pub total_lines : Tally → List (List (List ℕ))
total_lines t =
    number_line keyword.Joined t.joined
    ∷ number_line keyword.Canceled t.canceled
    ∷ number_line keyword.Least t.least
    ∷ number_line keyword.Most t.most
    ∷ []

-- the lines of what is counted: `complete N`, `deadlock N` and `budget N`; for each stop met its words and `N`; each of these N is followed by
-- `first S` unless it is 0; `joined N`, `canceled N`, `least N` and `most N`
unfoldable pub count_lines : Tally → List (List (List ℕ))
count_lines t = verdict_lines t ++ map stop_line t.stops ++ total_lines t

-- the lines of a tally of the runs under the seeds 1 to a number: `sample K`, and what is counted
unfoldable pub tally_lines : ℕ → Tally → List (List (List ℕ))
tally_lines seeds t = number_line keyword.Sample seeds ∷ count_lines t

-- what is run: `script HEX`, and `limits BUDGET PASSES SLOTS`
unfoldable pub subject_lines : Subject → List (List (List ℕ))
subject_lines s =
    (keyword_text keyword.Script ∷ s.digest ∷ [])
    ∷ (codes "limits" ∷ decimal s.limits.budget ∷ decimal s.limits.passes ∷ decimal s.limits.slots ∷ [])
    ∷ []

-- the lines of the tally of a range: `tally FIRST LAST`, what is run, and what is counted
unfoldable pub range_lines : RangeTally → List (List (List ℕ))
range_lines r = (codes "tally" ∷ decimal r.seeds.first ∷ decimal r.seeds.last ∷ []) ∷ subject_lines r.subject ++ count_lines r.tally
