-- Items of a list by their indexes.
use Rattle.pct_names.proofs.Names.{◌++◌, [], ap, Bool, cond, false, find, List, list_any, map, nat_eq, none-some, refl, same_Some}
use Rattle.pct_names.proofs.Names.{slice_get, Some, subst, suc, sym, true, zero, ℕ, ◌∙◌, ◌∷◌, ◌≡◌}
use Rattle.std.proofs.Common.{eq-eqb, eqb-true}
use Rattle.pct_thread_invariants.proofs.lift.KeyedLists.{AreDistinct, not_found}

-- an item of a list is at its index once the items are changed, and others come after them
pub item_changed : {A : Type 0} (change : A → A) (xs new : List A) (i : ℕ) (x : A) → slice_get xs i ≡ Some x → slice_get (map change xs ++ new) i ≡ Some (change x)
item_changed change [] new i x at = absurd (none-some x at)
item_changed change (y ∷ xs) new zero x at = ap (λ z. Some (change z)) (same_Some y x at)
item_changed change (y ∷ xs) new (suc i) x at = item_changed change xs new i x at

module _ {A : Type 0} (key : A → ℕ) where
  found_by : (y x : A) (xs : List A) (same : Bool) → nat_eq (key y) (key x) ≡ same → list_any (λ m. nat_eq m (key y)) (map key xs) ≡ false → find (λ z. nat_eq (key z) (key x)) xs ≡ Some x
      → cond same (Some y) (find (λ z. nat_eq (key z) (key x)) xs) ≡ Some x
  found_by y x xs true same absent found =
      absurd (none-some x (sym (not_found key (key x) xs (subst (λ (n : ℕ). list_any (λ m. nat_eq m n) (map key xs) ≡ false) (eqb-true (key y) (key x) same) absent)) ∙ found))
  found_by y x xs false differs absent found = found

  -- where no number is there twice, the item at an index is the one with its number
  pub found_at_index : (xs : List A) (i : ℕ) (x : A) → AreDistinct (map key xs) → slice_get xs i ≡ Some x → find (λ z. nat_eq (key z) (key x)) xs ≡ Some x
  found_at_index [] i x distinct at = absurd (none-some x at)
  found_at_index (y ∷ xs) zero x distinct at = ap (λ b. cond b (Some y) (find (λ z. nat_eq (key z) (key x)) xs)) (eq-eqb (key y) (key x) (ap key (same_Some y x at))) ∙ at
  found_at_index (y ∷ xs) (suc i) x distinct at = found_by y x xs (nat_eq (key y) (key x)) refl distinct.0 (found_at_index xs i x distinct.1 at)
