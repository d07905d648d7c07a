-- Sets of processes, and of processes and their children.
use Rattle.std.specs.Prelude.{ℕ, Bool}
use Rattle.std.specs.Ordering.{nat_cmp, ordering_then}
use Rattle.std.specs.BTreeSet.{BTreeSet, contains}

-- the set has a process
abbrev pub has_process : BTreeSet ℕ → ℕ → Bool
has_process set pid = contains nat_cmp set pid

-- the set has a process and its child
abbrev pub has_child : BTreeSet (ℕ × ℕ) → ℕ → ℕ → Bool
has_child set pid child = contains (λ x y. ordering_then (nat_cmp x.0 y.0) (nat_cmp x.1 y.1)) set (pid, child)
