-- Stacks as nodes that share what is below them.
use Rattle.std.specs.Prelude.{◌≡◌, ℕ, ◌≤◌, ◌+◌, List, [], ◌∷◌, ◌++◌, length, Some, slice_get}
use Rattle.pct_audit.specs.declared.stacks.Node.{Node}
use Rattle.pct_audit.specs.Stacks.{stack_at}

-- the stacks after more nodes
abbrev pub grown : List (List (ℕ × ℕ)) → List Node → List (List (ℕ × ℕ))
grown all [] = all
grown all (n ∷ nodes) = grown (all ++ ((n.f, n.a) ∷ stack_at all n.below) ∷ []) nodes

abbrev pub stacks_of : List Node → List (List (ℕ × ℕ))
stacks_of nodes = grown ([] ∷ []) nodes

-- node k is the top of stack k + 1
pub record IsTop (all : List (List (ℕ × ℕ))) (k : ℕ) (n : Node) : Type 0 where
  pub below : n.below ≤ k
  pub depth : n.depth ≡ length (stack_at all n.below) + 1
  pub few : n.depth ≤ k + 1
  pub is : stack_at all (k + 1) ≡ (n.f, n.a) ∷ stack_at all n.below

pub record AreStacks (nodes : List Node) : Type 0 where
  pub count : length (stacks_of nodes) ≡ length nodes + 1
  pub tops : (k : ℕ) (n : Node) → slice_get nodes k ≡ Some n → IsTop (stacks_of nodes) k n
