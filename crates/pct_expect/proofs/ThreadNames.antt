-- The names in a set of threads.
use Rattle.std.proofs.Common.{Bor}
use Rattle.std.proofs.lemmas.Map.Text.{is_eq-slice_cmp}
use Rattle.std.specs.BTreeMap.{is_at}
use Rattle.std.specs.BTreeSet.{insert_key}
use Rattle.std.specs.Cmp.Lexicographic.{slice_cmp}
use Rattle.std.specs.Ordering.{is_eq, nat_cmp}
use Rattle.std.specs.declared.cmp.Ordering.{Ordering}
use Rattle.pct_names.proofs.Names.{◌||◌, [], ap, ap₂, Bool, bytes_eq, List, list_any, map, refl, sym, ℕ, ◌∙◌, ◌∷◌, ◌≡◌}
use Rattle.pct_model.proofs.Bytes.{same_bytes}
use Rattle.pct_expect.proofs.InsertedKeys.{any_inserted}

abbrev order_of : Bor (List ℕ) → Bor (List ℕ) → Ordering
order_of x y = slice_cmp nat_cmp x.now y.now

pub any_seen : (name : List ℕ) (keys : List (Bor (List ℕ))) → list_any (is_at (λ key. slice_cmp nat_cmp name key.now)) keys ≡ list_any (bytes_eq name) (map (λ key. key.now) keys)
any_seen name [] = refl
any_seen name (key ∷ keys) = ap₂ (λ (s t : Bool). s || t) (is_eq-slice_cmp name key.now) (any_seen name keys)

any_named : (name : List ℕ) (keys : List (Bor (List ℕ))) → list_any (λ key. bytes_eq name key.now) keys ≡ list_any (bytes_eq name) (map (λ key. key.now) keys)
any_named name [] = refl
any_named name (key ∷ keys) = ap (λ (t : Bool). bytes_eq name key.now || t) (any_named name keys)

pub put_in : (old new : List (Bor (List ℕ))) (key : Bor (List ℕ)) → new ≡ insert_key order_of old key → (other : List ℕ)
    → list_any (bytes_eq other) (map (λ k. k.now) new) ≡ (bytes_eq other key.now || list_any (bytes_eq other) (map (λ k. k.now) old))
put_in old new key keys other =
    ap (λ (ks : List (Bor (List ℕ))). list_any (bytes_eq other) (map (λ k. k.now) ks)) keys
    ∙ sym (any_named other (insert_key order_of old key))
    ∙ any_inserted order_of (λ (k : Bor (List ℕ)). bytes_eq other k.now) (λ k x same. ap (bytes_eq other) (same_bytes k.now x.now (sym (is_eq-slice_cmp k.now x.now) ∙ ap is_eq same))) old key
    ∙ ap (λ (t : Bool). bytes_eq other key.now || t) (any_named other old)
