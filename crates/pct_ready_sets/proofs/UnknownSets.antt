-- Sets of which nothing is known: each slot is stale, and stays so.
use Rattle.pct_names.proofs.Names.{◌≡◌, ℕ, zero, suc, Bool, true, List, Some, option_map, replicate, slice_get, refl, ap, sym}
use Rattle.pct_set.specs.Slots.{slots_where}
use Rattle.pct_ready_sets.specs.ReadyGroups.{unknown, with_stale}
use Rattle.pct_ready_sets.proofs.TouchedSlots.{union_where}

still_unknown : (touched : ℕ → Bool) → with_stale (slots_where touched) unknown ≡ unknown
still_unknown touched = ap (λ (stale : List ℕ). record unknown { stale = stale }) (union_where (λ _. true) touched)

-- slots that become stale were stale
pub marked_unknown : (touched : ℕ → Bool) (n i : ℕ) → slice_get (replicate n unknown) i ≡ option_map (with_stale (slots_where touched)) (slice_get (replicate n unknown) i)
marked_unknown touched zero i = refl
marked_unknown touched (suc n) zero = ap Some (sym (still_unknown touched))
marked_unknown touched (suc n) (suc i) = marked_unknown touched n i
