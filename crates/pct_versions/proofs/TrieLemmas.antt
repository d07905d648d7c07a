-- Tries that share nodes: what stays as nodes are added, and the trie with a new root.
use Rattle.std.proofs.lemmas.Bool.{eq-eqb, ne_eqb, eqb-true, eqb-false}
use Rattle.std.proofs.lemmas.Bool.Decides.{eqb_tells}
use Rattle.std.proofs.Common.{◌≡◌, ◌≢◌, ℕ, zero, suc, ◌+◌, ◌-◌, ◌/◌, ◌%◌, ◌^◌, ◌≤◌, ◌<◌, Bool, true, false, cond, ⊎_elim, append_assoc, List, [], ◌∷◌, ◌++◌, length, Option, Some, None, refl, sym, ap, ◌∙◌, subst, arith, nat_eq, length-append}
use Rattle.std.specs.Prelude.{slice_get}
use Rattle.std.proofs.Math.ListN.{get_or-append}
use Rattle.std.proofs.Math.Seq.{get_or-append_seam}
use Rattle.std.proofs.lemmas.Option.{slice_get-get_or}
use Rattle.pct_versions.specs.declared.versions.Node.{Node}
use Rattle.pct_versions.specs.Tries.{half_of, child_of, value_at, IsTrie, Extends, IsVersionWith}

-- ---- halves

-- the last bit of a key picks the half
half-bit : (node : Option Node) (a b : ℕ) → a % 2 ≡ b % 2 → half_of node a ≡ half_of node b
half-bit None a b bits = refl
half-bit (Some node) a b bits = ap (λ bit. cond (nat_eq bit 0) node.even node.odd) bits

child-bit : (nodes : List Node) (root a b : ℕ) → a % 2 ≡ b % 2 → child_of nodes root a ≡ child_of nodes root b
child-bit nodes root a b bits = ap (cond (nat_eq root 0) 0) (half-bit (slice_get nodes (root - 1)) a b bits)

-- each half of a trie is a trie
half_by : (bit : Bool) (nodes : List Node) (height root key : ℕ) → nat_eq (key % 2) 0 ≡ bit → IsTrie nodes (suc height) root → IsTrie nodes height (child_of nodes root key)
unfolding IsTrie
half_by true nodes height root key is trie = subst (IsTrie nodes height) (child-bit nodes root 0 key (sym (eqb-true (key % 2) 0 is))) trie.1.0
half_by false nodes height root key is trie = subst (IsTrie nodes height) (child-bit nodes root 1 key (omega (arith, eqb-false (key % 2) 0 is))) trie.1.1

half-trie : (nodes : List Node) (height root key : ℕ) → IsTrie nodes (suc height) root → IsTrie nodes height (child_of nodes root key)
half-trie nodes height root key trie = half_by (nat_eq (key % 2) 0) nodes height root key refl trie

-- ---- more nodes

no_node : Node
no_node = record { even = 0; odd = 0 }

get-more : (a more : List Node) (i : ℕ) → i < length a → slice_get (a ++ more) i ≡ slice_get a i
get-more a more i within =
    slice_get-get_or (a ++ more) i no_node (omega (arith, within, length-append a more))
    ∙ ap (λ (node : Node). Some node) (get_or-append a more no_node i within) ∙ sym (slice_get-get_or a i no_node within)

child_by : (none : Bool) (a more : List Node) (root key : ℕ) → nat_eq root 0 ≡ none → root ≤ length a → cond none 0 (half_of (slice_get (a ++ more) (root - 1)) key) ≡ cond none 0 (half_of (slice_get a (root - 1)) key)
child_by true a more root key is within = refl
child_by false a more root key is within = ap (λ (node : Option Node). half_of node key) (get-more a more (root - 1) (grind (arith, is, within)))

child-more : (a more : List Node) (root key : ℕ) → root ≤ length a → child_of (a ++ more) root key ≡ child_of a root key
child-more a more root key within = child_by (nat_eq root 0) a more root key refl within

value-more : (a more : List Node) (height root key : ℕ) → IsTrie a height root → value_at (a ++ more) height root key ≡ value_at a height root key
unfolding value_at IsTrie
value-more a more zero root key trie = refl
value-more a more (suc height) root key trie =
    ap (λ r. value_at (a ++ more) height r (key / 2)) (child-more a more root key trie.0) ∙ value-more a more height (child_of a root key) (key / 2) (half-trie a height root key trie)

trie-more : (a more : List Node) (height root : ℕ) → IsTrie a height root → IsTrie (a ++ more) height root
unfolding IsTrie
trie-more a more zero root trie = tt
trie-more a more (suc height) root trie = (
  omega (arith, trie.0, length-append a more),
  (
    subst (IsTrie (a ++ more) height) (sym (child-more a more root 0 trie.0)) (trie-more a more height (child_of a root 0) trie.1.0),
    subst (IsTrie (a ++ more) height) (sym (child-more a more root 1 trie.0)) (trie-more a more height (child_of a root 1) trie.1.1),
  ),
)

-- the values of a trie stay as nodes are added
pub value-Extends : (before after : List Node) (height root key : ℕ) → Extends before after → IsTrie before height root → value_at after height root key ≡ value_at before height root key
value-Extends before after height root key extends trie = ap (λ nodes. value_at nodes height root key) extends.is ∙ value-more before extends.more height root key trie

pub trie-Extends : (before after : List Node) (height root : ℕ) → Extends before after → IsTrie before height root → IsTrie after height root
trie-Extends before after height root extends trie = subst (λ nodes. IsTrie nodes height root) (sym extends.is) (trie-more before extends.more height root trie)

Extends-push : (before middle after : List Node) (node : Node) → Extends before middle → after ≡ middle ++ node ∷ [] → Extends before after
Extends-push before middle after node extends pushed =
    record { more = extends.more ++ node ∷ []; is = pushed ∙ ap (λ nodes. nodes ++ node ∷ []) extends.is ∙ append_assoc before extends.more (node ∷ []) }

-- ---- the node added last

last_by : (none : Bool) (node : Node) (found : Option Node) (root key : ℕ) → nat_eq root 0 ≡ none → 0 < root → found ≡ Some node → cond none 0 (half_of found key) ≡ half_of (Some node) key
last_by true node found root key is some same = absurd (grind (arith, is, some))
last_by false node found root key is some same = ap (λ (n : Option Node). half_of n key) same

child-last : (nodes : List Node) (node : Node) (key : ℕ) → child_of (nodes ++ node ∷ []) (length (nodes ++ node ∷ [])) key ≡ half_of (Some node) key
child-last nodes node key =
    let all = nodes ++ node ∷ [] in
    let len : length all ≡ length nodes + 1 = omega (arith, length-append nodes (node ∷ [])) in
    let index : length all - 1 ≡ length nodes = omega (arith, len) in
    last_by (nat_eq (length all) 0) node (slice_get all (length all - 1)) (length all) key refl (omega (arith, len))
    (ap (slice_get all) index ∙ slice_get-get_or all (length nodes) no_node (omega (arith, len)) ∙ ap (λ (n : Node). Some n) (get_or-append_seam nodes node [] no_node))

-- ---- a version with another value at a key

-- keys with the same last bit are equal exactly if the rest of them is
equal-rest : (a b : ℕ) → a % 2 ≡ b % 2 → nat_eq a b ≡ nat_eq (a / 2) (b / 2)
equal-rest a b bits = ⊎_elim
    (λ e. e.0 ∙ sym (eq-eqb (a / 2) (b / 2) (ap (λ n. n / 2) e.1)))
    (λ e. e.0 ∙ sym (ne_eqb (a / 2) (b / 2) (λ same. e.1 (omega (arith, bits, same))))) (eqb_tells a b)

half_below : (height key : ℕ) → key < 2 ^ suc height → key / 2 < 2 ^ height
half_below height key below = omega (arith, below)

-- the half that the key is not in is that of the version before
abbrev pub OtherStays : List Node → ℕ → ℕ → Node → Type 0
OtherStays before root key node = (k : ℕ) → k % 2 ≢ key % 2 → half_of (Some node) k ≡ child_of before root k

module _ (before middle : List Node) (height root changed key value : ℕ) (node : Node)
    (trie : IsTrie before (suc height) root) (extends : Extends before middle) (half : IsTrie middle height changed)
    (set : IsVersionWith before middle height (child_of before root key) changed (key / 2) value)
    (here : half_of (Some node) key ≡ changed) (other : OtherStays before root key node) where
  abbrev pub after : List Node
  after = middle ++ node ∷ []

  value_by : (k : ℕ) (same : Bool) → nat_eq (k % 2) (key % 2) ≡ same → k < 2 ^ suc height
      → value_at after height (half_of (Some node) k) (k / 2) ≡ cond (nat_eq key k) value (value_at before height (child_of before root k) (k / 2))
  value_by k true is below =
      let bits = eqb-true (k % 2) (key % 2) is in
      ap (λ r. value_at after height r (k / 2)) (half-bit (Some node) k key bits ∙ here) ∙ value-more middle (node ∷ []) height changed (k / 2) half ∙ set.values (k / 2) (half_below height k below)
      ∙ ap (λ t. cond t value (value_at before height (child_of before root key) (k / 2))) (sym (equal-rest key k (sym bits)))
      ∙ ap (λ r. cond (nat_eq key k) value (value_at before height r (k / 2))) (child-bit before root key k (sym bits))
  value_by k false is below =
      let bits = eqb-false (k % 2) (key % 2) is in
      ap (λ r. value_at after height r (k / 2)) (other k bits)
      ∙ value-Extends before after height (child_of before root k) (k / 2) (Extends-push before middle after node extends refl) (half-trie before height root k trie)
      ∙ ap (λ t. cond t value (value_at before height (child_of before root k) (k / 2))) (sym (ne_eqb key k (λ same. bits (ap (λ n. n % 2) (sym same)))))

  pub version-push : IsVersionWith before after (suc height) root (length after) key value
  unfolding value_at
  version-push = record {
    values = λ k below.
        ap (λ r. value_at after height r (k / 2)) (child-last middle node k) ∙ value_by k (nat_eq (k % 2) (key % 2)) refl below;
  }

  stays : (k : ℕ) (same : Bool) → nat_eq (k % 2) (key % 2) ≡ same → IsTrie after height (half_of (Some node) k)
  stays k true is = subst (IsTrie after height) (sym (half-bit (Some node) k key (eqb-true (k % 2) (key % 2) is) ∙ here)) (trie-more middle (node ∷ []) height changed half)
  stays k false is = subst (IsTrie after height) (sym (other k (eqb-false (k % 2) (key % 2) is)))
      (trie-Extends before after height (child_of before root k) (Extends-push before middle after node extends refl) (half-trie before height root k trie))

  pub trie-push : IsTrie after (suc height) (length after)
  unfolding IsTrie
  trie-push = (
    omega arith,
    (
      subst (IsTrie after height) (sym (child-last middle node 0)) (stays 0 (nat_eq (0 % 2) (key % 2)) refl),
      subst (IsTrie after height) (sym (child-last middle node 1)) (stays 1 (nat_eq (1 % 2) (key % 2)) refl),
    ),
  )

-- ---- at a height that is not 0, and at height 0

before_suc : (height : ℕ) → suc height - 1 ≡ height
before_suc height = omega arith

pub value_at_half : (height : ℕ) (nodes : List Node) (root key : ℕ) → height ≢ 0 → value_at nodes (height - 1) (child_of nodes root key) (key / 2) ≡ value_at nodes height root key
unfolding value_at
value_at_half zero nodes root key some = absurd (some refl)
value_at_half (suc height) nodes root key some = ap (λ h. value_at nodes h (child_of nodes root key) (key / 2)) (before_suc height)

pub half_at : (height : ℕ) (nodes : List Node) (root key : ℕ) → height ≢ 0 → key < 2 ^ height → IsTrie nodes height root → IsTrie nodes (height - 1) (child_of nodes root key) × (key / 2 < 2 ^ (height - 1))
half_at zero nodes root key some below trie = absurd (some refl)
half_at (suc height) nodes root key some below trie =
    subst (λ h. IsTrie nodes h (child_of nodes root key) × (key / 2 < 2 ^ h)) (sym (before_suc height)) (half-trie nodes height root key trie, half_below height key below)

-- the node has the new root in the half of the key, and in the other half the root from before
abbrev pub HasHalves : List Node → ℕ → ℕ → ℕ → Node → Type 0
HasHalves before root key changed node = (half_of (Some node) key ≡ changed) × OtherStays before root key node

pub halves_even : (before : List Node) (root key changed other : ℕ) (node : Node) → key % 2 ≡ 0 → other ≡ child_of before root (1 - key % 2) → node ≡ record { even = changed; odd = other } → HasHalves before root key changed node
halves_even before root key changed other node even is made = subst (HasHalves before root key changed) (sym made) (
  ap (λ t. cond t changed other) (eq-eqb (key % 2) 0 even),
  λ k differs. ap (λ t. cond t changed other) (ne_eqb (k % 2) 0 (λ same. differs (same ∙ sym even))) ∙ is ∙ child-bit before root (1 - key % 2) k (omega (arith, even, differs)),
)

pub halves_odd : (before : List Node) (root key changed other : ℕ) (node : Node) → key % 2 ≢ 0 → other ≡ child_of before root (1 - key % 2) → node ≡ record { even = other; odd = changed } → HasHalves before root key changed node
halves_odd before root key changed other node odd is made = subst (HasHalves before root key changed) (sym made) (
  ap (λ t. cond t other changed) (ne_eqb (key % 2) 0 odd),
  λ k differs. ap (λ t. cond t other changed) (eq-eqb (k % 2) 0 (omega (arith, odd, differs))) ∙ is ∙ child-bit before root (1 - key % 2) k (omega (arith, odd, differs)),
)

pub pushed : (height : ℕ) (before middle now : List Node) (root changed key value version : ℕ) (node : Node) → height ≢ 0 → IsTrie before height root → Extends before middle → IsTrie middle (height - 1) changed
    → IsVersionWith before middle (height - 1) (child_of before root key) changed (key / 2) value → HasHalves before root key changed node → now ≡ middle ++ node ∷ [] → version ≡ length now
    → IsTrie now height version × IsVersionWith before now height root version key value
pushed zero before middle now root changed key value version node some trie extends half set halves made number = absurd (some refl)
pushed (suc height) before middle now root changed key value version node some trie extends half set halves made number =
    let half_trie = subst (λ h. IsTrie middle h changed) (before_suc height) half in
    let half_set = subst (λ h. IsVersionWith before middle h (child_of before root key) changed (key / 2) value) (before_suc height) set in
    subst (λ v. IsTrie now (suc height) v × IsVersionWith before now (suc height) root v key value) (sym number)
    (subst (λ nodes. IsTrie nodes (suc height) (length nodes) × IsVersionWith before nodes (suc height) root (length nodes) key value) (sym made) (
      trie-push before middle height root changed key value node trie extends half_trie half_set halves.0 halves.1,
      version-push before middle height root changed key value node trie extends half_trie half_set halves.0 halves.1,
    ))

pub value_at_zero : (height : ℕ) (nodes : List Node) (root key : ℕ) → height ≡ 0 → value_at nodes height root key ≡ root
unfolding value_at
value_at_zero zero nodes root key none = refl
value_at_zero (suc height) nodes root key none = absurd (omega (arith, none))

pub trie_zero : (height : ℕ) (nodes : List Node) (root : ℕ) → height ≡ 0 → IsTrie nodes height root
unfolding IsTrie
trie_zero zero nodes root none = tt
trie_zero (suc height) nodes root none = absurd (omega (arith, none))

pub version_zero : (height : ℕ) (nodes : List Node) (root key value : ℕ) → height ≡ 0 → key < 2 ^ height → IsVersionWith nodes nodes height root value key value
unfolding value_at
version_zero zero nodes root key value none below = record { values = λ k k_below. ap (λ t. cond t value root) (sym (eq-eqb key k (omega (arith, below, k_below)))) }
version_zero (suc height) nodes root key value none below = absurd (omega (arith, none))
