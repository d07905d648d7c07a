-- The laws of the texts of tallies.
use Rattle.std.specs.Prelude.{◌≡◌, ◌⊎◌, ℕ, ◌+◌, ◌<◌, ◌^◌, true, List, [], ◌∷◌, length, map, flat_map, Ok}
use Rattle.std.specs.List.{join_with_byte}
use Rattle.pct_model.specs.declared.stop.Why.{Why}
use Rattle.pct_model.specs.Keywords.{text_of}
use Rattle.pct_tallies.specs.declared.count.Count.{Count}
use Rattle.pct_tallies.specs.declared.count.StopCount.{StopCount}
use Rattle.pct_tallies.specs.declared.range_tally.Limits.{Limits}
use Rattle.pct_tallies.specs.declared.range_tally.PlacedTally.{PlacedTally}
use Rattle.pct_tallies.specs.declared.range_tally.RangeTally.{RangeTally}
use Rattle.pct_tallies.specs.declared.seeds.Seeds.{Seeds}
use Rattle.pct_tallies.specs.declared.tally.Tally.{Tally}
use Rattle.pct_tallies.specs.Readings.{is_digest, lines_in, tallies_in}
use Rattle.pct_tallies.specs.Seeds.{IsRange, is_in}
use Rattle.pct_tallies.specs.Sums.{no_runs}
use Rattle.pct_tallies.specs.Tallies.{all_stops}
use Rattle.pct_tallies.specs.TallyTexts.{range_lines}

-- ---- which tallies are written

-- a number of runs that is not 0, of 64 bits, and the first of their seeds, which is in the range
pub record IsSome (seeds : Seeds) (count : Count) : Type 0 where
  pub some : 0 < count.runs
  pub runs_fit : count.runs < 2 ^ 64
  pub first_fits : count.first < 2 ^ 64
  pub of_range : is_in seeds count.first ≡ true

-- a count of no runs, or of some
pub data IsCount (seeds : Seeds) (count : Count) : Type 0 where
  NoRuns : count ≡ no_runs → IsCount seeds count
  SomeRuns : IsSome seeds count → IsCount seeds count

-- stops that ended a run, in the order of these, each at most once
abbrev pub AreStops : Seeds → List Why → List StopCount → Type 0
AreStops seeds [] [] = Unit {0}
AreStops seeds [] (s ∷ stops) = ⊥
AreStops seeds (w ∷ whys) [] = Unit {0}
AreStops seeds (w ∷ whys) (s ∷ stops) = ((s.why ≡ w) × IsSome seeds s.count × AreStops seeds whys stops) ⊎ AreStops seeds whys (s ∷ stops)

-- limits of 32 bits
pub record AreLimits (l : Limits) : Type 0 where
  pub budget : l.budget < 2 ^ 32
  pub passes : l.passes < 2 ^ 32
  pub slots : l.slots < 2 ^ 32

-- what is counted of runs under seeds of the range
pub record IsCounted (seeds : Seeds) (t : Tally) : Type 0 where
  pub complete : IsCount seeds t.complete
  pub deadlock : IsCount seeds t.deadlock
  pub budget : IsCount seeds t.budget
  pub stops : AreStops seeds all_stops t.stops
  pub joined : t.joined < 2 ^ 64
  pub canceled : t.canceled < 2 ^ 64
  pub least : t.least < 2 ^ 32
  pub most : t.most < 2 ^ 32

-- the tally of a range that has a text
pub record IsWritable (r : RangeTally) : Type 0 where
  pub seeds : IsRange r.seeds
  pub digest : is_digest r.subject.digest ≡ true
  pub limits : AreLimits r.subject.limits
  pub counted : IsCounted r.seeds r.tally

-- ---- reading what is written

-- each has a text
abbrev pub AreWritable : List RangeTally → Type 0
AreWritable [] = Unit {0}
AreWritable (r ∷ ranges) = IsWritable r × AreWritable ranges

-- the tallies of a text, of which the first begins at line n
abbrev pub placed_from : ℕ → List RangeTally → List PlacedTally
placed_from n [] = []
placed_from n (r ∷ ranges) = record { line = n; range = r } ∷ placed_from (n + length (range_lines r)) ranges

-- the ranges of tallies, in the order of the text
abbrev pub ranges_of : List PlacedTally → List RangeTally
ranges_of tallies = map (λ placed. placed.range) tallies

-- what is read as tallies is their text: the lines, without a CR at their end, are those of the tallies, one after the other
abbrev pub ReadIsSpelled : Type 0
ReadIsSpelled = (text : List ℕ) (tallies : List PlacedTally) → tallies_in text ≡ Ok tallies → lines_in text ≡ map (join_with_byte 32) (flat_map range_lines (ranges_of tallies))

-- the text of tallies, one after the other, is read as these tallies
abbrev pub SpelledIsRead : Type 0
SpelledIsRead = (ranges : List RangeTally) → 0 < length ranges → AreWritable ranges → tallies_in (text_of (flat_map range_lines ranges)) ≡ Ok (placed_from 1 ranges)
