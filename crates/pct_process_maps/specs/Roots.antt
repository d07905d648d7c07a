-- The maps of processes as versions of one map.
use Rattle.std.specs.Prelude.{ℕ, zero, suc, List, unwrap_or}
use Rattle.std.specs.Ordering.{nat_cmp}
use Rattle.std.specs.BTreeMap.{BTreeMap, get}
use Rattle.std.specs.Coded.{×_prop, Π_prop, Unit-prop, le_prop}
use Rattle.pct_versions.specs.declared.versions.Node.{Node}
use Rattle.pct_versions.specs.declared.versions.Versions.{Versions}
use Rattle.pct_versions.specs.Tries.{nodes_of, child_of, value_at, IsTrie}

-- the version of a process, 0 if it has none
abbrev pub root_of : BTreeMap ℕ ℕ → ℕ → ℕ
root_of roots pid = unwrap_or (get nat_cmp roots pid) 0

-- the value at a key in the map of process pid
abbrev pub value_by : Versions → BTreeMap ℕ ℕ → ℕ → ℕ → ℕ
value_by versions roots pid key = value_at (nodes_of versions) 32 (root_of roots pid) key

-- each process has a version of the map
abbrev pub AreRoots : Versions → BTreeMap ℕ ℕ → Type 0
AreRoots versions roots = (pid : ℕ) → IsTrie (nodes_of versions) 32 (root_of roots pid)

-- a root is that of a trie in at most one way
IsTrie-prop : (nodes : List Node) (height root : ℕ) → IsProp (IsTrie nodes height root)
unfolding IsTrie
IsTrie-prop nodes zero root = Unit-prop
IsTrie-prop nodes (suc height) root = ×_prop le_prop (×_prop (IsTrie-prop nodes height (child_of nodes root 0)) (IsTrie-prop nodes height (child_of nodes root 1)))

-- each process has a version of the map in at most one way
pub AreRoots-prop : (versions : Versions) (roots : BTreeMap ℕ ℕ) → IsProp (AreRoots versions roots)
AreRoots-prop versions roots = Π_prop (λ pid. IsTrie-prop (nodes_of versions) 32 (root_of roots pid))
