use Rattle.pct_names.proofs.Names.{List, option_map, slice_get, ℕ, ◌<◌, ◌≡◌, ◌≤◌}
use Rattle.pct_ready_sets.specs.ReadyGroups.{ReadyValue, with_stale}
use Rattle.pct_ready_sets.proofs.all_ready_sets.mark_places.Given as goal

-- the slots are stale on the places before this one, and the others are as they were
pub record AreMarked (touched : List ℕ) (before now : List ReadyValue) (place : ℕ) : Type 0 where
  pub done : (i : ℕ) → i < place → slice_get now i ≡ option_map (with_stale touched) (slice_get before i)
  pub left : (i : ℕ) → place ≤ i → slice_get now i ≡ slice_get before i

abbrev pub invariant-loop-place : goal.invariant-loop-place
invariant-loop-place l = AreMarked l.touched l.initial.sets.items l.sets.items l.place
