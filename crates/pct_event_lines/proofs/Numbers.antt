-- Numbers of names: a name that was read keeps its number, and different names have different numbers.
use Rattle.std.proofs.Common.{eq-eqb, ne_eqb, true≢false, ⊎_elim}
use Rattle.pct_names.proofs.Names.{◌≡◌, ℕ, zero, suc, ◌+◌, ◌<◌, Bool, true, false, cond, not, ◌||◌, List, [], ◌∷◌, ◌++◌, length, get_or, Option, Some, None}
use Rattle.pct_names.proofs.Names.{all_different, and_parts, ap, arith, bytes_eq, eqb_tells, index_among, is_name, is_some, list_all, list_any, name_at, nat_eq, not-true}
use Rattle.pct_names.proofs.Names.{option_and_then, option_map, position-Some, position_from, position_from-zero, refl, same_Some, slice_get, sym, unwrap_or, ◌∙◌}
use Rattle.pct_model.proofs.Bytes.{same_bytes, bytes_eq-refl}
use Rattle.pct_name_numbers.specs.EventReading.{numbered}
use Rattle.pct_name_numbers.specs.Numbering.{names_with}
use Rattle.pct_name_numbers.proofs.IndexLemmas.{index_with}
use Rattle.pct_event_laws.specs.Renamed.{IsInjective}
use Rattle.pct_event_bounds.specs.EventBounds.{AreNames, IsIndexOf}
use Rattle.pct_event_lines.proofs.NamesRead.{number_of_index}

-- ---- names that were read keep their numbers

-- each of these names has the same index among more names
abbrev pub Keeps : List (List ℕ) → List (List ℕ) → Type 0
Keeps names more = (w : List ℕ) (i : ℕ) → index_among names w ≡ Some i → index_among more w ≡ Some i

pub keeps-refl : (names : List (List ℕ)) → Keeps names names
keeps-refl names = λ w i at. at

pub keeps-trans : (a b c : List (List ℕ)) → Keeps a b → Keeps b c → Keeps a c
keeps-trans a b c first second = λ w i at. second w i (first w i at)

found_step : (here : Bool) (i k : ℕ) (rest longer : Option ℕ) → cond here (Some i) rest ≡ Some k → (rest ≡ Some k → longer ≡ Some k) → cond here (Some i) longer ≡ Some k
found_step true i k rest longer at more = at
found_step false i k rest longer at more = more at

found_still : (names more : List (List ℕ)) (w : List ℕ) (i k : ℕ) → position_from (λ name. bytes_eq name w) i names ≡ Some k → position_from (λ name. bytes_eq name w) i (names ++ more) ≡ Some k
found_still [] more w i k at = absurd cc
found_still (name ∷ names) more w i k at =
    found_step (bytes_eq name w) i k (position_from (λ name. bytes_eq name w) (i + 1) names) (position_from (λ name. bytes_eq name w) (i + 1) (names ++ more)) at (found_still names more w (i + 1) k)

keeps-append : (names more : List (List ℕ)) → Keeps names (names ++ more)
keeps-append names more = λ w i at.
    position_from-zero (λ name. bytes_eq name w) (names ++ more) ∙ found_still names more w 0 i (sym (position_from-zero (λ name. bytes_eq name w) names) ∙ at)

keeps_either : (known : Bool) (names : List (List ℕ)) (w : List ℕ) → Keeps names (cond known names (names ++ w ∷ []))
keeps_either true names w = keeps-refl names
keeps_either false names w = keeps-append names (w ∷ [])

pub keeps-with : (w : List ℕ) (names : List (List ℕ)) → Keeps names (names_with w names)
keeps-with w names = keeps_either (is_some (index_among names w)) names w

-- ---- the number of a name that is read

item_at : (names : List (List ℕ)) (k : ℕ) → IsIndexOf names k → slice_get names k ≡ Some (name_at names k)
unfolding name_at
item_at [] k within = absurd (omega (arith, within))
item_at (name ∷ names) zero within = refl
item_at (name ∷ names) (suc k) within = item_at names k (omega (arith, within))

name_at_is_name : (names : List (List ℕ)) (k : ℕ) → list_all is_name names ≡ true → IsIndexOf names k → is_name (name_at names k) ≡ true
unfolding name_at
name_at_is_name [] k valid within = absurd (omega (arith, within))
name_at_is_name (name ∷ names) zero valid within = (and_parts (is_name name) (list_all is_name names) valid).0
name_at_is_name (name ∷ names) (suc k) valid within = name_at_is_name names k (and_parts (is_name name) (list_all is_name names) valid).1 (omega (arith, within))

-- a script's name that is read has its number among the names that were read and more names
module _ (names read more : List (List ℕ)) (k : ℕ) (are : AreNames names) (within : IsIndexOf names k) (keeps : Keeps (names_with (name_at names k) read) more) where
  abbrev word : List ℕ
  word = name_at names k

  abbrev with_index : ℕ → List (List ℕ) × ℕ
  with_index i = (names_with word read, i)

  abbrev found : Option (List ℕ) → ℕ
  found item = unwrap_or (option_and_then (λ name. index_among more name) item) (k + length more)

  is_number : (i : ℕ) → index_among (names_with word read) word ≡ Some i → number_of_index names more k ≡ i
  is_number i at = ap found (item_at names k within) ∙ ap (λ (index : Option ℕ). unwrap_or index (k + length more)) (keeps word i at)

  pub numbered_again : numbered read word ≡ Some (names_with word read, number_of_index names more k)
  numbered_again =
      let index = index_with read word in
      ap (λ (t : Bool). cond t (option_map with_index (index_among (names_with word read) word)) None) (name_at_is_name names k are.valid within)
      ∙ ap (option_map with_index) index.1 ∙ ap (λ (i : ℕ). Some (with_index i)) (sym (is_number index.0 index.1))

-- ---- different names have different numbers

pub or_none : (a b : Bool) → (a || b) ≡ false → (a ≡ false) × (b ≡ false)
or_none true b e = absurd cc
or_none false b e = (refl, e)

-- a name that differs from each of these names is none of them
among_none : (names : List (List ℕ)) (name : List ℕ) (b : ℕ) → list_any (bytes_eq name) names ≡ false → slice_get names b ≡ Some name → ⊥
among_none [] name b none at = absurd cc
among_none (first ∷ names) name zero none at =
    true≢false (sym (bytes_eq-refl name) ∙ ap (bytes_eq name) (sym (same_Some first name at)) ∙ (or_none (bytes_eq name first) (list_any (bytes_eq name) names) none).0)
among_none (first ∷ names) name (suc b) none at = among_none names name b (or_none (bytes_eq name first) (list_any (bytes_eq name) names) none).1 at

same_index : (names : List (List ℕ)) (a b : ℕ) (name : List ℕ) → all_different names ≡ true → slice_get names a ≡ Some name → slice_get names b ≡ Some name → a ≡ b
unfolding all_different
same_index [] a b name different at other = absurd cc
same_index (first ∷ names) zero zero name different at other = refl
same_index (first ∷ names) zero (suc b) name different at other =
    let parts = and_parts (not (list_any (bytes_eq first) names)) (all_different names) different in
    absurd (among_none names first b (not-true (list_any (bytes_eq first) names) parts.0) (other ∙ sym at))
same_index (first ∷ names) (suc a) zero name different at other =
    let parts = and_parts (not (list_any (bytes_eq first) names)) (all_different names) different in
    absurd (among_none names first a (not-true (list_any (bytes_eq first) names) parts.0) (at ∙ sym other))
same_index (first ∷ names) (suc a) (suc b) name different at other =
    ap suc (same_index names a b name (and_parts (not (list_any (bytes_eq first) names)) (all_different names) different).1 at other)

-- the index among the names that were read, of an item of the script's names
abbrev index_in : List (List ℕ) → Option (List ℕ) → Option ℕ
index_in read item = option_and_then (λ name. index_among read name) item

-- such an index is that of the item
item_found : (read : List (List ℕ)) (item : Option (List ℕ)) (i : ℕ) → index_in read item ≡ Some i → (i < length read) × (item ≡ Some (get_or read i []))
item_found read None i at = absurd cc
item_found read (Some name) i at =
    let first = position-Some (λ (n : List ℕ). bytes_eq n name) read i [] at in
    (first.0, ap (λ (n : List ℕ). Some n) (sym (same_bytes (get_or read i []) name first.1)))

module _ (names read : List (List ℕ)) (different : all_different names ≡ true) (a b : ℕ) where
  one_number : (i j : Option ℕ) → index_in read (slice_get names a) ≡ i → index_in read (slice_get names b) ≡ j → unwrap_or i (a + length read) ≡ unwrap_or j (b + length read) → a ≡ b
  one_number (Some i) (Some j) first second same =
      same_index names a b (get_or read i []) different (item_found read (slice_get names a) i first).1
      ((item_found read (slice_get names b) j second).1 ∙ ap (λ (k : ℕ). Some (get_or read k [])) (sym same))
  one_number (Some i) None first second same = absurd (omega (arith, same, (item_found read (slice_get names a) i first).0))
  one_number None (Some j) first second same = absurd (omega (arith, same, (item_found read (slice_get names b) j second).0))
  one_number None None first second same = omega (arith, same)

  index_from_number : number_of_index names read a ≡ number_of_index names read b → a ≡ b
  index_from_number same = one_number (index_in read (slice_get names a)) (index_in read (slice_get names b)) refl refl same

equal_tests : (a b c d : ℕ) → (a ≡ b → c ≡ d) → (c ≡ d → a ≡ b) → nat_eq a b ≡ nat_eq c d
equal_tests a b c d f g = ⊎_elim (λ e. eq-eqb a b e.1 ∙ sym (eq-eqb c d (f e.1))) (λ e. e.0 ∙ sym (ne_eqb c d (λ same. e.1 (g same)))) (eqb_tells a b)

pub tells_apart : (names read : List (List ℕ)) → all_different names ≡ true → IsInjective (number_of_index names read)
tells_apart names read different a b =
    equal_tests (number_of_index names read a) (number_of_index names read b) a b (index_from_number names read different a b) (ap (number_of_index names read))
