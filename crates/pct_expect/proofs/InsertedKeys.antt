-- Which keys an ordered set has after one was put in.
use Rattle.std.specs.BTreeSet.{insert_key}
use Rattle.std.specs.Ordering.{match_ordering}
use Rattle.std.specs.declared.cmp.Ordering.{Ordering}
use Rattle.std.specs.declared.cmp.Ordering.TheVariants.{Less, Equal, Greater}
use Rattle.pct_names.proofs.Names.{◌||◌, [], ap, Bool, false, false≢true, List, list_any, refl, sym, true, ◌∙◌, ◌∷◌, ◌≡◌}

module _ {K : Type 0} (cmp : K → K → Ordering) (has : K → Bool) (alike : (k x : K) → cmp k x ≡ Equal → has k ≡ has x) where
  swapped : (a b c : Bool) → (a || (b || c)) ≡ (b || (a || c))
  swapped true true c = refl
  swapped true false c = refl
  swapped false true c = refl
  swapped false false c = refl

  again : (a b c : Bool) → a ≡ b → (b || c) ≡ (a || (b || c))
  again true true c e = refl
  again false false c e = refl
  again true false c e = absurd (false≢true (sym e))
  again false true c e = refl

  by_order : (keys : List K) (k x : K) (o : Ordering) → cmp k x ≡ o → list_any has (insert_key cmp keys k) ≡ (has k || list_any has keys)
      → list_any has (match_ordering o (k ∷ x ∷ keys) (x ∷ keys) (x ∷ insert_key cmp keys k)) ≡ (has k || list_any has (x ∷ keys))
  by_order keys k x Less is more = refl
  by_order keys k x Equal is more = again (has k) (has x) (list_any has keys) (alike k x is)
  by_order keys k x Greater is more = ap (λ (t : Bool). has x || t) more ∙ swapped (has x) (has k) (list_any has keys)

  -- what is there after a key is put in
  pub any_inserted : (keys : List K) (k : K) → list_any has (insert_key cmp keys k) ≡ (has k || list_any has keys)
  any_inserted [] k = refl
  any_inserted (x ∷ keys) k = by_order keys k x (cmp k x) refl (any_inserted keys k)
