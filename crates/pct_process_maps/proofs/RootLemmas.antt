-- The versions of processes, after one of them has another version.
use Rattle.std.proofs.Common.{◌≡◌, ℕ, zero, suc, ◌/◌, ◌^◌, ◌<◌, Bool, true, false, ◌&&◌, cond, List, [], Option, Some, Result, Ok, Err, refl, sym, ap, ◌∙◌, subst, arith, nat_eq}
use Rattle.std.specs.Prelude.{unwrap_or, OnOk, OnErr}
use Rattle.std.specs.Cmp.{unsigned_tied}
use Rattle.std.specs.Ordering.{nat_cmp}
use Rattle.std.specs.BTreeMap.{BTreeMap, Updates, IsUnchanged, get, is_at}
use Rattle.std.specs.Map.{lookup}
use Rattle.std.proofs.lemmas.Bool.{eqb-true}
use Rattle.pct_versions.specs.declared.versions.Node.{Node}
use Rattle.pct_versions.specs.declared.versions.Versions.{Versions}
use Rattle.pct_versions.specs.Tries.{nodes_of, value_at, IsTrie, IsVersionWith, Extends}
use Rattle.pct_versions.proofs.TrieLemmas.{value-Extends, trie-Extends}
use Rattle.pct_process_maps.specs.Roots.{root_of, value_by, AreRoots}

-- ---- the map with the value 0 at every key

pub value_at-zero : (height key : ℕ) → value_at [] height 0 key ≡ 0
unfolding value_at
value_at-zero zero key = refl
value_at-zero (suc height) key = value_at-zero height (key / 2)

pub trie-zero : (height : ℕ) → IsTrie [] height 0
unfolding IsTrie
trie-zero zero = tt
trie-zero (suc height) = (omega arith, (trie-zero height, trie-zero height))

-- ---- a process with another version

root_by : (same : Bool) (changed : ℕ) (old : Option ℕ) → unwrap_or (cond same (Some changed) old) 0 ≡ cond same changed (unwrap_or old 0)
root_by true changed old = refl
root_by false changed old = refl

root-Updates : (old new : BTreeMap ℕ ℕ) (pid changed q : ℕ) → Updates nat_cmp old new pid (Some changed) → root_of new q ≡ cond (nat_eq pid q) changed (root_of old q)
root-Updates old new pid changed q updates =
    ap (λ (found : Option ℕ). unwrap_or found 0) (updates.0 q ∙ ap (λ (same : Bool). cond same (Some changed) (get nat_cmp old q)) (unsigned_tied pid q)) ∙ root_by (nat_eq pid q) changed (get nat_cmp old q)

trie_by : (after : List Node) (same : Bool) (changed root : ℕ) → IsTrie after 32 changed → IsTrie after 32 root → IsTrie after 32 (cond same changed root)
trie_by after true changed root there here = there
trie_by after false changed root there here = here

-- the values stay as there are more versions
module _ (before after : Versions) (roots : BTreeMap ℕ ℕ) (extends : Extends (nodes_of before) (nodes_of after)) (kept : AreRoots before roots) where
  pub AreRoots-Extends : AreRoots after roots
  AreRoots-Extends q = trie-Extends (nodes_of before) (nodes_of after) 32 (root_of roots q) extends (kept q)

  pub value_by-Extends : (q k : ℕ) → value_by after roots q k ≡ value_by before roots q k
  value_by-Extends q k = value-Extends (nodes_of before) (nodes_of after) 32 (root_of roots q) k extends (kept q)

  pub value_by-unchanged : (now : BTreeMap ℕ ℕ) → IsUnchanged roots now → (q k : ℕ) → value_by after now q k ≡ value_by before roots q k
  value_by-unchanged now same q k = ap (λ entries. value_at (nodes_of after) 32 (unwrap_or (lookup (is_at (nat_cmp q)) entries) 0) k) same ∙ value_by-Extends q k

  pub AreRoots-inserted : {T E : Type 0} (result : Result T E) (now : BTreeMap ℕ ℕ) (pid changed : ℕ) → OnOk result (Updates nat_cmp roots now pid (Some changed)) → OnErr result (IsUnchanged roots now) → IsTrie (nodes_of after) 32 changed → AreRoots after now
  AreRoots-inserted (Ok old) now pid changed updates same trie q = subst (IsTrie (nodes_of after) 32) (sym (root-Updates roots now pid changed q updates)) (trie_by (nodes_of after) (nat_eq pid q) changed (root_of roots q) trie (AreRoots-Extends q))
  AreRoots-inserted (Err e) now pid changed updates same trie q = subst (λ entries. IsTrie (nodes_of after) 32 (unwrap_or (lookup (is_at (nat_cmp q)) entries) 0)) (sym same) (AreRoots-Extends q)

  value_set_by : (pid q changed m k value : ℕ) (same : Bool) → nat_eq pid q ≡ same → IsVersionWith (nodes_of before) (nodes_of after) 32 (root_of roots pid) changed m value → k < 2 ^ 32
      → value_at (nodes_of after) 32 (cond same changed (root_of roots q)) k ≡ cond (same && nat_eq m k) value (value_by before roots q k)
  value_set_by pid q changed m k value true is set low = set.values k low ∙ ap (λ p. cond (nat_eq m k) value (value_by before roots p k)) (eqb-true pid q is)
  value_set_by pid q changed m k value false is set low = value_by-Extends q k

  pub value_by-set : (now : BTreeMap ℕ ℕ) (pid changed m value : ℕ) → Updates nat_cmp roots now pid (Some changed) → IsVersionWith (nodes_of before) (nodes_of after) 32 (root_of roots pid) changed m value → (q k : ℕ) → k < 2 ^ 32
      → value_by after now q k ≡ cond (nat_eq pid q && nat_eq m k) value (value_by before roots q k)
  value_by-set now pid changed m value updates set q k low =
      ap (λ root. value_at (nodes_of after) 32 root k) (root-Updates roots now pid changed q updates) ∙ value_set_by pid q changed m k value (nat_eq pid q) refl set low

pub any_error : {T E P : Type 0} (result : Result T E) → P → OnErr result P
any_error (Ok value) p = tt
any_error (Err e) p = p
