-- The lines of stops, one after the other.
use Rattle.std.proofs.Common.{◌≡◌, ℕ, ◌+◌, ◌<◌, List, [], ◌∷◌, ◌++◌, Some, None, append-nil, append_assoc, ap, drop, get_or, length, refl, sym, ◌∙◌}
use Rattle.std.proofs.lemmas.List.{at_drop_more, at_drop_all}
use Rattle.pct_model.specs.declared.stop.Why.{Why}
use Rattle.pct_tallies.specs.declared.count.Count.{Count}
use Rattle.pct_tallies.specs.declared.count.StopCount.{StopCount}
use Rattle.pct_tallies.specs.declared.seeds.Seeds.{Seeds}
use Rattle.pct_tallies.specs.Readings.{Left, stop_from, stops_from}

-- what was read before what is read of the rest
abbrev pub after_stops : List StopCount → List StopCount × Left → List StopCount × Left
after_stops before rest = (before ++ rest.0, rest.1)

pub stop_read : (w : Why) (whys : List Why) (seeds : Seeds) (left rest : Left) (count : Count) (before : List StopCount) → stop_from w seeds left ≡ Some (count, rest)
    → after_stops before (stops_from (w ∷ whys) seeds left) ≡ after_stops (before ++ record { why = w; count = count } ∷ []) (stops_from whys seeds rest)
unfolding stops_from
stop_read w whys seeds left rest count before is =
    let stop : StopCount = record { why = w; count = count } in
    let more = stops_from whys seeds rest in
    rw is (λ i. (sym (append_assoc before (stop ∷ []) more.0) i, more.1))

pub stop_left : (w : Why) (whys : List Why) (seeds : Seeds) (left : Left) (before : List StopCount) → stop_from w seeds left ≡ None
    → after_stops before (stops_from (w ∷ whys) seeds left) ≡ after_stops before (stops_from whys seeds left)
unfolding stops_from
stop_left w whys seeds left before is = rw is refl

pub no_more_stops : (seeds : Seeds) (left : Left) (before : List StopCount) → after_stops before (stops_from [] seeds left) ≡ (before, left)
unfolding stops_from
no_more_stops seeds left before = λ i. (append-nil before i, left)
