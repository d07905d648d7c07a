use Rattle.pct_names.proofs.Names.{is_left, left_places, slice_get, ◌≡◌}
use Rattle.pct_keys.specs.Tables.{row_at}
use Rattle.pct_keys.proofs.Scan.{places_from}
use Rattle.pct_keys.proofs.keys.Keys.left_nth.Given as goal

abbrev pub invariant-loop-place : goal.invariant-loop-place
invariant-loop-place l = slice_get (places_from (is_left l.self.places (row_at l.self l.slot)) l.place) l.rest ≡ slice_get (left_places l.self.places (row_at l.self l.slot)) l.n
