use Rattle.pct_names.proofs.Names.{◌+◌, free_places, is_none, key_at, length, ◌≡◌, ◌≤◌}
use Rattle.pct_keys.proofs.Scan.{places_from}
use Rattle.pct_keys.proofs.keys.Keys.live.Given as goal

abbrev pub invariant-loop-place : goal.invariant-loop-place
invariant-loop-place l = record {
  few : l.count ≤ l.place;
  counted : l.count + length (free_places l.self.places) ≡ l.place + length (places_from (λ place. is_none (key_at l.self.places place)) l.place);
}
