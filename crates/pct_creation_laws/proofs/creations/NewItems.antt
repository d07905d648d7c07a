-- A list after a change of its items, with new ones after them.
use Rattle.pct_names.proofs.Names.{ap, drop, drop-append_seam, length, length-map, List, map, sym, take, take-append_seam, ◌++◌, ◌∙◌}
use Rattle.pct_names.proofs.Names.{◌≡◌}

module _ {A : Type 0} (change : A → A) (items new : List A) where
  -- its first items are the changed ones
  pub first_items : take (length items) (map change items ++ new) ≡ map change items
  first_items = ap (λ n. take n (map change items ++ new)) (sym (length-map items change)) ∙ take-append_seam (map change items) new

  -- those after them are the new ones
  pub new_items : drop (length items) (map change items ++ new) ≡ new
  new_items = ap (λ n. drop n (map change items ++ new)) (sym (length-map items change)) ∙ drop-append_seam (map change items) new
