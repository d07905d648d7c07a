-- A text has at most as many lines as bytes.
use Rattle.pct_names.proofs.Names.{[], arith, Bool, cond, false, length, lines_of, List, onto_first, slice_split, suc, true}
use Rattle.pct_names.proofs.Names.{without_empty_last, ℕ, ◌∷◌, ◌≤◌}

few_after : (t : Bool) (b n : ℕ) (pieces : List (List ℕ)) → length (without_empty_last pieces) ≤ n → length (without_empty_last (cond t ([] ∷ pieces) (onto_first b pieces))) ≤ suc n
few_after true b n [] few = omega arith
few_after true b n (piece ∷ pieces) few = omega (arith, few)
few_after false b n [] few = omega arith
few_after false b n ([] ∷ []) few = omega arith
few_after false b n ([] ∷ next ∷ pieces) few = omega (arith, few)
few_after false b n ((c ∷ bytes) ∷ []) few = omega arith
few_after false b n ((c ∷ bytes) ∷ next ∷ pieces) few = omega (arith, few)

few_pieces : (ends : ℕ → Bool) (bytes : List ℕ) → length (without_empty_last (slice_split ends bytes)) ≤ length bytes
few_pieces ends [] = omega arith
few_pieces ends (b ∷ bytes) = few_after (ends b) b (length bytes) (slice_split ends bytes) (few_pieces ends bytes)

pub few_lines : (text : List ℕ) → length (lines_of text) ≤ length text
unfolding lines_of
few_lines text = few_pieces _ text
