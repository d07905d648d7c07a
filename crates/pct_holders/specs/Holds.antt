-- The threads that hold their slots, in the order of process, slot and id.
use Rattle.std.specs.Prelude.{ℕ, Bool}
use Rattle.std.specs.Ordering.{nat_cmp, ordering_then}
use Rattle.std.specs.declared.cmp.Ordering.{Ordering}
use Rattle.std.specs.BTreeSet.{contains}
use Rattle.pct_holders.specs.declared.holders.Holders.{Holders}

-- a thread: its process, its slot and its id
abbrev pub Holder : Type 0
Holder = (ℕ × ℕ) × ℕ

-- the order of threads
abbrev pub holder_cmp : Holder → Holder → Ordering
holder_cmp x y = ordering_then (ordering_then (nat_cmp x.0.0 y.0.0) (nat_cmp x.0.1 y.0.1)) (nat_cmp x.1 y.1)

-- thread tid of process pid holds this slot
abbrev pub holds : Holders → ℕ → ℕ → ℕ → Bool
holds holders pid slot tid = contains holder_cmp holders.threads ((pid, slot), tid)
