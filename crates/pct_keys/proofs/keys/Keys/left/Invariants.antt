use Rattle.pct_names.proofs.Names.{◌+◌, is_left, left_places, length, ◌≡◌, ◌≤◌}
use Rattle.pct_keys.specs.Tables.{row_at}
use Rattle.pct_keys.proofs.Scan.{places_from}
use Rattle.pct_keys.proofs.keys.Keys.left.Given as goal

abbrev pub invariant-loop-place : goal.invariant-loop-place
invariant-loop-place l = record {
  few : l.count ≤ l.place;
  counted : l.count + length (places_from (is_left l.self.places (row_at l.self l.slot)) l.place) ≡ length (left_places l.self.places (row_at l.self l.slot));
}
