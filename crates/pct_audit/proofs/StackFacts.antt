-- Facts on stacks that share nodes.
use Rattle.std.proofs.Common.{◌≡◌, ◌≢◌, ℕ, ◌+◌, ◌-◌, ◌<◌, ◌≤◌, List, [], ◌∷◌, ◌++◌, length, Some, refl, sym, ap, ◌∙◌, subst, arith, get_or, length-append, ◌⊎◌, inl, inr}
use Rattle.std.specs.Prelude.{slice_get}
use Rattle.std.proofs.Math.ListN.{get_or-append}
use Rattle.std.proofs.Math.Seq.{get_or-append_seam}
use Rattle.std.proofs.lemmas.Option.{unwrap_or-slice_get, slice_get_within, get_or_from_slice_get, slice_get_read}
use Rattle.std.proofs.lemmas.Bool.{cases_lt}
use Rattle.pct_audit.specs.declared.stacks.Node.{Node}
use Rattle.pct_audit.specs.Stacks.{stack_at}
use Rattle.pct_audit.specs.StackNodes.{grown, stacks_of, IsTop, AreStacks}

abbrev Stack : Type 0
Stack = List (ℕ × ℕ)

grown-push : (all : List Stack) (nodes : List Node) (n : Node) → grown all (nodes ++ n ∷ []) ≡ grown all nodes ++ ((n.f, n.a) ∷ stack_at (grown all nodes) n.below) ∷ []
grown-push all [] n = refl
grown-push all (m ∷ nodes) n = grown-push (all ++ ((m.f, m.a) ∷ stack_at all m.below) ∷ []) nodes n

pub stacks-push : (nodes : List Node) (n : Node) → stacks_of (nodes ++ n ∷ []) ≡ stacks_of nodes ++ ((n.f, n.a) ∷ stack_at (stacks_of nodes) n.below) ∷ []
stacks-push nodes n = grown-push ([] ∷ []) nodes n

pub front : (all xs : List Stack) (k : ℕ) → k < length all → stack_at (all ++ xs) k ≡ stack_at all k
front all xs k within = unwrap_or-slice_get (all ++ xs) k [] ∙ get_or-append all xs [] k within ∙ sym (unwrap_or-slice_get all k [])

pub last : (all : List Stack) (x : Stack) (k : ℕ) → k ≡ length all → stack_at (all ++ x ∷ []) k ≡ x
last all x k is = ap (stack_at (all ++ x ∷ [])) is ∙ unwrap_or-slice_get (all ++ x ∷ []) (length all) [] ∙ get_or-append_seam all x [] []

grown-first : (all : List Stack) (nodes : List Node) → 0 < length all → stack_at (grown all nodes) 0 ≡ stack_at all 0
grown-first all [] some = refl
grown-first all (n ∷ nodes) some =
    let more = ((n.f, n.a) ∷ stack_at all n.below) ∷ [] in
    grown-first (all ++ more) nodes (omega (arith, some, length-append all more)) ∙ front all more 0 some

pub empty : (nodes : List Node) → stack_at (stacks_of nodes) 0 ≡ []
empty nodes = grown-first ([] ∷ []) nodes (omega arith)

top_front : (all : List Stack) (xs : List Stack) (k : ℕ) (n : Node) → k + 1 < length all → IsTop all k n → IsTop (all ++ xs) k n
top_front all xs k n within top =
    let same : stack_at (all ++ xs) n.below ≡ stack_at all n.below = front all xs n.below (omega (arith, within, top.below)) in
    record { below = top.below; depth = top.depth ∙ ap (λ s. length s + 1) (sym same); few = top.few; is = front all xs (k + 1) within ∙ top.is ∙ ap (λ s. (n.f, n.a) ∷ s) (sym same) }

-- the stacks are one more than the nodes
more_stacks : (nodes : List Node) (n : Node) → length (stacks_of nodes) ≡ length nodes + 1 → length (stacks_of (nodes ++ n ∷ [])) ≡ length (nodes ++ n ∷ []) + 1
more_stacks nodes n count =
    let top = (n.f, n.a) ∷ stack_at (stacks_of nodes) n.below in
    ap length (stacks-push nodes n) ∙ omega (arith, count, length-append (stacks_of nodes) (top ∷ []), length-append nodes (n ∷ []))

pub nodes-push : (nodes : List Node) (n : Node) → n.below ≤ length nodes → n.depth ≡ length (stack_at (stacks_of nodes) n.below) + 1 → n.depth ≤ length nodes + 1 → AreStacks nodes → AreStacks (nodes ++ n ∷ [])
nodes-push nodes n below depth few are =
    let all = stacks_of nodes in
    let top = (n.f, n.a) ∷ stack_at all n.below in
    record {
      count = more_stacks nodes n are.count;
      tops = λ k m at.
          subst (λ stacks. IsTop stacks k m) (sym (stacks-push nodes n))
          (place nodes n below depth few are k m (slice_get_within (nodes ++ n ∷ []) k m at) at (cases_lt k (length nodes)));
    }
  where
    place : (nodes : List Node) (n : Node) → n.below ≤ length nodes → n.depth ≡ length (stack_at (stacks_of nodes) n.below) + 1 → n.depth ≤ length nodes + 1 → AreStacks nodes
        → (k : ℕ) (m : Node) → k < length (nodes ++ n ∷ []) → slice_get (nodes ++ n ∷ []) k ≡ Some m → (k < length nodes) ⊎ (length nodes ≤ k)
        → IsTop (stacks_of nodes ++ ((n.f, n.a) ∷ stack_at (stacks_of nodes) n.below) ∷ []) k m
    place nodes n below depth few are k m within at (inl less) =
        let same : m ≡ get_or nodes k m = sym (get_or_from_slice_get (nodes ++ n ∷ []) k m m at) ∙ get_or-append nodes (n ∷ []) m k less in
        top_front (stacks_of nodes) (((n.f, n.a) ∷ stack_at (stacks_of nodes) n.below) ∷ []) k m (omega (arith, less, are.count))
        (are.tops k m (slice_get_read nodes (length nodes) k m refl less same))
    place nodes n below depth few are k m within at (inr past) =
        let is_last : k ≡ length nodes = omega (arith, within, past, length-append nodes (n ∷ [])) in
        let same : n ≡ m = sym (ap (λ i. get_or (nodes ++ n ∷ []) i m) is_last ∙ get_or-append_seam nodes n [] m) ∙ get_or_from_slice_get (nodes ++ n ∷ []) k m m at in
        let all = stacks_of nodes in
        let top = (n.f, n.a) ∷ stack_at all n.below in
        let old : stack_at (all ++ top ∷ []) n.below ≡ stack_at all n.below = front all (top ∷ []) n.below (omega (arith, below, are.count)) in
        subst (λ x. IsTop (all ++ top ∷ []) k x) same
        (record {
          below = omega (arith, below, is_last);
          depth = depth ∙ ap (λ s. length s + 1) (sym old);
          few = omega (arith, few, is_last);
          is = last all top (k + 1) (omega (arith, is_last, are.count)) ∙ ap (λ s. (n.f, n.a) ∷ s) (sym old);
        })

-- what a node says of the stack with the number i
pub top_at : (nodes : List Node) (i : ℕ) (n : Node) → AreStacks nodes → i ≢ 0 → i < length (stacks_of nodes) → n ≡ get_or nodes (i - 1) n → IsTop (stacks_of nodes) (i - 1) n
top_at nodes i n are some within at = are.tops (i - 1) n (slice_get_read nodes (length nodes) (i - 1) n refl (omega (arith, some, within, are.count)) at)

pub is_at : (nodes : List Node) (i : ℕ) (n : Node) → AreStacks nodes → i ≢ 0 → i < length (stacks_of nodes) → n ≡ get_or nodes (i - 1) n → stack_at (stacks_of nodes) i ≡ (n.f, n.a) ∷ stack_at (stacks_of nodes) n.below
is_at nodes i n are some within at =
    let same : i ≡ i - 1 + 1 = omega (arith, some) in
    ap (stack_at (stacks_of nodes)) same ∙ (top_at nodes i n are some within at).is

-- ---- of stacks that nodes stand for

module _ (all : List Stack) (nodes : List Node) (view : stacks_of nodes ≡ all) (are : AreStacks nodes) where
  pub none_at : (i : ℕ) → i ≡ 0 → stack_at all i ≡ []
  none_at i is = ap (stack_at all) is ∙ ap (λ stacks. stack_at stacks 0) (sym view) ∙ empty nodes

  pub node_at : (i : ℕ) (n : Node) → i ≢ 0 → i < length all → n ≡ get_or nodes (i - 1) n → stack_at all i ≡ (n.f, n.a) ∷ stack_at all n.below
  node_at i n some within at = subst (λ stacks. i < length stacks → stack_at stacks i ≡ (n.f, n.a) ∷ stack_at stacks n.below) view (λ inside. is_at nodes i n are some inside at) within

  pub depth_at : (i : ℕ) (n : Node) → i ≢ 0 → i < length all → n ≡ get_or nodes (i - 1) n → n.depth ≡ length (stack_at all i)
  depth_at i n some within at =
      (subst (λ stacks. i < length stacks → n.depth ≡ length (stack_at stacks n.below) + 1) view (λ inside. (top_at nodes i n are some inside at).depth) within)
      ∙ omega arith ∙ ap length (sym (node_at i n some within at))

  pub low_at : (i : ℕ) (n : Node) → i ≢ 0 → i < length all → n ≡ get_or nodes (i - 1) n → n.below < i
  low_at i n some within at =
      let low : n.below ≤ i - 1 = subst (λ stacks. i < length stacks → n.below ≤ i - 1) view (λ inside. (top_at nodes i n are some inside at).below) within in
      omega (arith, low, some)

  pub few_at : (i : ℕ) (n : Node) → i ≢ 0 → i < length all → n ≡ get_or nodes (i - 1) n → n.depth ≤ i
  few_at i n some within at =
      let few : n.depth ≤ i - 1 + 1 = subst (λ stacks. i < length stacks → n.depth ≤ i - 1 + 1) view (λ inside. (top_at nodes i n are some inside at).few) within in
      omega (arith, few, some)
