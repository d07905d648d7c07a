-- Maps from numbers to numbers as binary tries in one list of nodes. A trie is the number of its root, counted from 1; 0 is the trie whose
-- values are all 0. The last bit of a key picks the half, and at height 0 the root is the value itself.
use Rattle.std.specs.Prelude.{◌≡◌, ℕ, zero, suc, ◌-◌, ◌/◌, ◌%◌, ◌≤◌, ◌<◌, ◌^◌, if◌then◌else◌, List, length, ◌++◌, Option, Some, None, slice_get, nat_eq}
use Rattle.pct_versions.specs.declared.versions.Node.{Node}
use Rattle.pct_versions.specs.declared.versions.Versions.{Versions}

-- the nodes of all versions, oldest first
abbrev pub nodes_of : Versions → List Node
nodes_of versions = versions.nodes.items

-- the half of a node that has the key; 0 without a node
abbrev pub half_of : Option Node → ℕ → ℕ
half_of None key = 0
half_of (Some node) key = if nat_eq (key % 2) 0 then node.even else node.odd

-- the half of a trie that has the key
abbrev pub child_of : List Node → ℕ → ℕ → ℕ
child_of nodes root key = if nat_eq root 0 then 0 else half_of (slice_get nodes (root - 1)) key

-- the value of a trie of a height at a key
unfoldable pub value_at : List Node → ℕ → ℕ → ℕ → ℕ
value_at nodes zero root key = root
value_at nodes (suc height) root key = value_at nodes height (child_of nodes root key) (key / 2)

-- the root is that of a trie of a height: it and the roots of its halves are numbers of nodes, or 0
unfoldable pub IsTrie : List Node → ℕ → ℕ → Type 0
IsTrie nodes zero root = Unit {0}
IsTrie nodes (suc height) root = (root ≤ length nodes) × (IsTrie nodes height (child_of nodes root 0) × IsTrie nodes height (child_of nodes root 1))

-- the nodes are those from before, with others after them
pub record Extends (before after : List Node) : Type 0 where
  pub more : List Node
  pub is : after ≡ before ++ more

-- the version has the value at the key, and at the other keys the values of the one from before
pub record IsVersionWith (before after : List Node) (height root version key value : ℕ) : Type 0 where
  pub values : (k : ℕ) → k < 2 ^ height → value_at after height version k ≡ (if nat_eq key k then value else value_at before height root k)
