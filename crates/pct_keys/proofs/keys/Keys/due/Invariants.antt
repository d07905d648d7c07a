use Rattle.pct_names.proofs.Names.{◌+◌, due_places, is_due, length, ◌≡◌, ◌≤◌}
use Rattle.pct_keys.specs.Tables.{row_at}
use Rattle.pct_keys.proofs.Scan.{places_from}
use Rattle.pct_keys.proofs.keys.Keys.due.Given as goal

abbrev pub invariant-loop-place : goal.invariant-loop-place
invariant-loop-place l = record {
  few : l.count ≤ l.place;
  counted : l.count + length (places_from (is_due l.self.places (row_at l.self l.slot)) l.place) ≡ length (due_places l.self.places (row_at l.self l.slot));
}
