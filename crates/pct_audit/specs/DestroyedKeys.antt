-- The destructors that were called.
use Rattle.std.specs.Prelude.{ℕ, Bool}
use Rattle.std.specs.Ordering.{nat_cmp, ordering_then}
use Rattle.std.specs.BTreeSet.{contains}
use Rattle.pct_audit.specs.declared.destroyed.Destroyed.{Destroyed}

abbrev pub is_destroyed : Destroyed → ℕ → ℕ → ℕ → ℕ → Bool
is_destroyed d pid tid pass key =
    contains (λ x y. ordering_then (ordering_then (nat_cmp x.0.0 y.0.0) (nat_cmp x.0.1 y.0.1)) (ordering_then (nat_cmp x.1.0 y.1.0) (nat_cmp x.1.1 y.1.1))) d.set ((pid, tid), (pass, key))
