-- The sum of two tallies: the tally of the runs of both, of which those of the first have the smaller seeds.
use Rattle.std.specs.Prelude.{ℕ, ◌+◌, ◌<◌, ◌^◌, min, max, Bool, ◌&&◌, if◌then◌else◌, List, map, filter, find, nat_eq, nat_lt, option_map, unwrap_or}
use Rattle.std.specs.List.{list_all}
use Rattle.pct_model.specs.declared.stop.Why.{Why}
use Rattle.pct_model.specs.contracts.stop.WhyPartialEq.TheImpl as why_eq
use Rattle.pct_tallies.specs.declared.count.Count.{Count}
use Rattle.pct_tallies.specs.declared.count.StopCount.{StopCount}
use Rattle.pct_tallies.specs.declared.tally.Tally.{Tally}
use Rattle.pct_tallies.specs.Tallies.{all_stops, is_met}

-- the count of no runs
abbrev pub no_runs : Count
no_runs = record { runs = 0; first = 0 }

-- the runs of two counts: the first of all is the first of the smaller seeds, if there is one
abbrev pub sum_of_counts : Count → Count → Count
sum_of_counts earlier later = record { runs = earlier.runs + later.runs; first = if nat_eq earlier.runs 0 then later.first else earlier.first }

-- the runs are those that this stop ended, by the equality that `Why` derives
unfoldable pub is_stop : Why → StopCount → Bool
is_stop w s = why_eq.ghosts.eq s.why w

-- the runs that a stop ended, of those that are listed; no runs if it is not listed
unfoldable pub count_at : Why → List StopCount → Count
count_at w stops = unwrap_or (option_map (λ s. s.count) (find (is_stop w) stops)) no_runs

-- the runs that a stop ended
abbrev pub stop_sum : List StopCount → List StopCount → Why → StopCount
stop_sum earlier later w = record { why = w; count = sum_of_counts (count_at w earlier) (count_at w later) }

-- those of these stops that ended a run, in order
unfoldable pub sums_among : List StopCount → List StopCount → List Why → List StopCount
sums_among earlier later whys = filter is_met (map (stop_sum earlier later) whys)

-- the sum of two tallies
abbrev pub sum_of : Tally → Tally → Tally
sum_of earlier later = record {
  complete = sum_of_counts earlier.complete later.complete;
  deadlock = sum_of_counts earlier.deadlock later.deadlock;
  budget = sum_of_counts earlier.budget later.budget;
  stops = sums_among earlier.stops later.stops all_stops;
  joined = earlier.joined + later.joined;
  canceled = earlier.canceled + later.canceled;
  least = min earlier.least later.least;
  most = max earlier.most later.most;
}

-- ---- which sums have numbers of 64 bits

-- the sum of two numbers has at most 64 bits
abbrev pub number_fits : ℕ → ℕ → Bool
number_fits a b = nat_lt (a + b) (2 ^ 64)

-- the number of the runs of two counts has
abbrev pub count_fits : Count → Count → Bool
count_fits earlier later = number_fits earlier.runs later.runs

-- that of the runs that a stop ended has
abbrev pub stop_fits : List StopCount → List StopCount → Why → Bool
stop_fits earlier later w = count_fits (count_at w earlier) (count_at w later)

-- so it is for each stop
abbrev pub stops_fit : List StopCount → List StopCount → Bool
stops_fit earlier later = list_all (stop_fits earlier later) all_stops

-- each number of the sum has at most 64 bits
abbrev pub fits : Tally → Tally → Bool
fits earlier later =
    count_fits earlier.complete later.complete && count_fits earlier.deadlock later.deadlock && count_fits earlier.budget later.budget
    && stops_fit earlier.stops later.stops && number_fits earlier.joined later.joined && number_fits earlier.canceled later.canceled
