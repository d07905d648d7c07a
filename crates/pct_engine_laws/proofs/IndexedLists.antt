-- Lists that a function of the index makes, with one item at each index below a number.
use Rattle.pct_names.proofs.Names.{◌+◌, ◌<◌, ap, cases_eq, get_or, get_or-map-range_with_len, get_or-range_with_len, inl, inr, length}
use Rattle.pct_names.proofs.Names.{length-map-range_with_len, length-range_with_len, List, list_any, list_any_at, map, nat_eq}
use Rattle.pct_names.proofs.Names.{range_with_len, refl, replicate, slice_get, slice_get-get_or, slice_set, Some, suc, sym, true, zero, ℕ}
use Rattle.pct_names.proofs.Names.{◌∙◌, ◌∷◌, ◌≡◌, ◌⊎◌}
use Rattle.std.proofs.Common.{zero-add, get_or-set_same, get_or-set_other, length-set, ext_get_or, eq-eqb}

-- the list of a function of the index
abbrev pub by_index : {X : Type 0} → (ℕ → X) → ℕ → List X
by_index f n = map f (range_with_len 0 n)

-- the number of its items
pub length-by_index : {X : Type 0} (f : ℕ → X) (n : ℕ) → length (by_index f n) ≡ n
length-by_index f n = length-map-range_with_len f 0 n

item_or : {X : Type 0} (f : ℕ → X) (n k : ℕ) (d : X) → k < n → get_or (by_index f n) k d ≡ f k
item_or f n k d low = get_or-map-range_with_len f 0 n k k d low (zero-add k)

within : {X : Type 0} (f : ℕ → X) (n k : ℕ) → k < n → k < length (by_index f n)
within f n k low = rw (length-by_index f n) low

-- the item at an index
pub item_by_index : {X : Type 0} (f : ℕ → X) (n k : ℕ) → k < n → slice_get (by_index f n) k ≡ Some (f k)
item_by_index f n k low = slice_get-get_or (by_index f n) k (f k) (within f n k low) ∙ ap Some (item_or f n k (f k) low)

changed_item : {X : Type 0} (f g : ℕ → X) (n i k : ℕ) (d : X) → i < n → k < n → ((s : ℕ) → (s ≡ i → ⊥) → g s ≡ f s) → (k ≡ i) ⊎ (k ≡ i → ⊥) → g k ≡ get_or (slice_set (by_index f n) i (g i)) k d
changed_item {X} f g n i k d low below others (inl same) =
    ap g same ∙ sym (ap (λ (j : ℕ). get_or (slice_set (by_index f n) i (g i)) j d) same ∙ get_or-set_same (by_index f n) i (g i) d (within f n i low))
changed_item f g n i k d low below others (inr other) =
    others k other ∙ sym (get_or-set_other (by_index f n) i k (g i) d other ∙ item_or f n k d below)

-- the lists of two functions that agree at all indexes but one
pub changed_by_index : {X : Type 0} (f g : ℕ → X) (n i : ℕ) → i < n → ((s : ℕ) → (s ≡ i → ⊥) → g s ≡ f s) → by_index g n ≡ slice_set (by_index f n) i (g i)
changed_by_index f g n i low others =
    ext_get_or (f i) (by_index g n) (slice_set (by_index f n) i (g i)) (length-by_index g n ∙ sym (length-set (by_index f n) i (g i) ∙ length-by_index f n)) (λ k h.
    let below : k < n = rw (← length-by_index g n) h in
    item_or g n k (f i) below ∙ changed_item f g n i k (f i) low below others (cases_eq k i))

-- the list of a constant
pub constant_range : {X : Type 0} (x : X) (start n : ℕ) → map (λ (s : ℕ). x) (range_with_len start n) ≡ replicate n x
constant_range x start zero = refl
constant_range {X} x start (suc n) = ap (λ (rest : List X). x ∷ rest) (constant_range x (start + 1) n)

-- an index below the number is among the indexes
pub index_among : (k n : ℕ) → k < n → list_any (nat_eq k) (range_with_len 0 n) ≡ true
index_among k n low =
    let long : k < length (range_with_len 0 n) = rw (length-range_with_len 0 n) low in
    list_any_at (nat_eq k) (range_with_len 0 n) k 0 long (eq-eqb k (get_or (range_with_len 0 n) k 0) (sym (get_or-range_with_len 0 n k 0 low ∙ zero-add k)))
