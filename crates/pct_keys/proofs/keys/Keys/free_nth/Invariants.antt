use Rattle.pct_names.proofs.Names.{free_places, is_none, key_at, slice_get, ◌≡◌}
use Rattle.pct_keys.proofs.Scan.{places_from}
use Rattle.pct_keys.proofs.keys.Keys.free_nth.Given as goal

abbrev pub invariant-loop-place : goal.invariant-loop-place
invariant-loop-place l = slice_get (places_from (λ place. is_none (key_at l.self.places place)) l.place) l.rest ≡ slice_get (free_places l.self.places) l.n
