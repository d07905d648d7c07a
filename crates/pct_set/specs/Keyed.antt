-- A key for each of 64 slots, and for each key the set of its slots.
use Rattle.std.specs.Prelude.{◌≡◌, ℕ, ◌<◌, List, [], length, nat_eq, slice_index_or}
use Rattle.pct_set.specs.Slots.{slots_where}
use Rattle.pct_set.specs.declared.keyed_sets.TheConstants.{KEYS}

-- the key of slot k
abbrev pub key_at : List ℕ → ℕ → ℕ
key_at keys k = slice_index_or keys k 0

-- each set has the slots with its key
pub record AreKeyed (keys : List ℕ) (sets : List (List ℕ)) : Type 0 where
  pub all : length keys ≡ 64
  pub every : length sets ≡ KEYS
  pub few : (k : ℕ) → key_at keys k < KEYS
  pub each : (j : ℕ) → j < KEYS → slice_index_or sets j [] ≡ slots_where (λ k. nat_eq (key_at keys k) j)
