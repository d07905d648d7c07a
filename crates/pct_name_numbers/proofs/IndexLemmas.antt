-- Indices of names in a list with one more name at its end.
use Rattle.std.proofs.Common.{length-append, true≢false}
use Rattle.std.proofs.lemmas.Bool.{false_from_ne_true}
use Rattle.std.proofs.lemmas.Iterator.Adapters.{position_from-zero}
use Rattle.std.specs.List.{position_from}
use Rattle.pct_names.proofs.Names.{◌≡◌, ℕ, ◌+◌, Bool, true, false, cond, List, [], ◌∷◌, ◌++◌, length, Option, Some, None, is_some, refl, sym, ap, ◌∙◌, arith, bytes_eq, index_among}
use Rattle.pct_model.proofs.Bytes.{same_bytes, bytes_eq-refl}
use Rattle.pct_name_numbers.specs.Numbering.{names_with}

-- the index of the first name that is equal to w, where the names begin at index i
abbrev from_index : ℕ → List (List ℕ) → List ℕ → Option ℕ
from_index i names w = position_from (λ name. bytes_eq name w) i names

absent_from : (here : Bool) (i : ℕ) (rest : Option ℕ) → cond here (Some i) rest ≡ None → (here ≡ false) × (rest ≡ None)
absent_from true i rest none = absurd cc
absent_from false i rest none = (refl, none)

swap_first : (first last : Bool) (i end other : ℕ) (rest : Option ℕ) → (first ≡ true → last ≡ false) → end ≡ other → cond first (Some i) (cond last (Some end) rest) ≡ cond last (Some other) (cond first (Some i) rest)
swap_first true true i end other rest apart same = absurd (true≢false (apart refl))
swap_first true false i end other rest apart same = refl
swap_first false last i end other rest apart same = ap (λ (n : ℕ). cond last (Some n) rest) same

different : (name w q : List ℕ) → bytes_eq name w ≡ false → bytes_eq name q ≡ true → bytes_eq w q ≡ false
different name w q apart here =
    false_from_ne_true (bytes_eq w q) (λ there. true≢false (sym (bytes_eq-refl name) ∙ ap (bytes_eq name) (same_bytes name q here ∙ sym (same_bytes w q there)) ∙ apart))

from_index-push : (names : List (List ℕ)) (w q : List ℕ) (i : ℕ) → from_index i names w ≡ None → from_index i (names ++ w ∷ []) q ≡ cond (bytes_eq w q) (Some (i + length names)) (from_index i names q)
from_index-push [] w q i absent = ap (λ (n : ℕ). cond (bytes_eq w q) (Some n) None) (omega arith)
from_index-push (name ∷ names) w q i absent =
    let parts = absent_from (bytes_eq name w) i (from_index (i + 1) names w) absent in
    ap (cond (bytes_eq name q) (Some i)) (from_index-push names w q (i + 1) parts.1)
    ∙ swap_first (bytes_eq name q) (bytes_eq w q) i (i + 1 + length names) (i + length (name ∷ names)) (from_index (i + 1) names q)
    (different name w q parts.0) (omega arith)

index-push : (names : List (List ℕ)) (w q : List ℕ) → index_among names w ≡ None → index_among (names ++ w ∷ []) q ≡ cond (bytes_eq w q) (Some (length names)) (index_among names q)
index-push names w q absent =
    position_from-zero (λ name. bytes_eq name q) (names ++ w ∷ [])
    ∙ from_index-push names w q 0 (sym (position_from-zero (λ name. bytes_eq name w) names) ∙ absent)
    ∙ ap (λ (n : ℕ). cond (bytes_eq w q) (Some n) (from_index 0 names q)) zero_first
    ∙ ap (cond (bytes_eq w q) (Some (length names))) (sym (position_from-zero (λ name. bytes_eq name q) names))
  where
    zero_first : 0 + length names ≡ length names
    zero_first = omega arith

-- the names with a name that is not among them
module _ (names : List (List ℕ)) (w : List ℕ) (absent : index_among names w ≡ None) where
  grown : names_with w names ≡ names ++ w ∷ []
  grown = ap (λ (index : Option ℕ). cond (is_some index) names (names ++ w ∷ [])) absent

  pub length-grown : length (names_with w names) ≡ length names + 1
  length-grown = ap length grown ∙ length-append names (w ∷ [])

  index-grown : (q : List ℕ) → index_among (names_with w names) q ≡ cond (bytes_eq w q) (Some (length names)) (index_among names q)
  index-grown q = ap (λ (all : List (List ℕ)). index_among all q) grown ∙ index-push names w q absent

  pub index_after : (q : List ℕ) (count : ℕ) (old new : Option ℕ) → count ≡ length names → old ≡ index_among names q → new ≡ cond (bytes_eq w q) (Some count) old → new ≡ index_among (names_with w names) q
  index_after q count old new counted before changed =
      changed ∙ ap (λ (n : ℕ). cond (bytes_eq w q) (Some n) old) counted ∙ ap (cond (bytes_eq w q) (Some (length names))) before ∙ sym (index-grown q)

  pub index_of_new : index_among (names_with w names) w ≡ Some (length names)
  index_of_new = index-grown w ∙ ap (λ (t : Bool). cond t (Some (length names)) (index_among names w)) (bytes_eq-refl w)

-- a name has an index among the names with it
index_in_either : (names : List (List ℕ)) (w : List ℕ) (index : Option ℕ) → index_among names w ≡ index → (i : ℕ) × (index_among (names_with w names) w ≡ Some i)
index_in_either names w None absent = (length names, index_of_new names w absent)
index_in_either names w (Some i) at = (i, ap (λ (index : Option ℕ). index_among (cond (is_some index) names (names ++ w ∷ [])) w) at ∙ at)

pub index_with : (names : List (List ℕ)) (w : List ℕ) → (i : ℕ) × (index_among (names_with w names) w ≡ Some i)
index_with names w = index_in_either names w (index_among names w) refl
