-- Numbers that are not 0.
use Rattle.pct_names.proofs.Names.{Bool, cond, false, is_some, nat_eq, None, number_of, Option, refl, same_Some, Some, subst, suc, true, zero, ℕ, ◌<◌, ◌≡◌, List, ap, ◌∙◌, arith}
use Rattle.std.proofs.lemmas.Bool.{ne_eqb}
use Rattle.pct_model.specs.Lines.{◌>>=◌}
use Rattle.pct_name_numbers.specs.EventReading.{not_zero}
use Rattle.pct_report_reader.specs.Texts.{is_positive}

pub is_some_number : (o : Option ℕ) → is_positive o ≡ true → is_some o ≡ true
is_some_number None is = absurd cc
is_some_number (Some k) is = refl

pub not_zero_suc : (k : ℕ) → nat_eq (suc k) 0 ≡ false
not_zero_suc k = ne_eqb (suc k) 0 (omega arith)

above : (o : Option ℕ) (k : ℕ) → is_positive o ≡ true → o ≡ Some k → (0 < k) × ((o >>= λ n. cond (nat_eq n 0) None (Some n)) ≡ Some k)
above None k is found = absurd cc
above (Some zero) k is found = absurd cc
above (Some (suc n)) k is found = (subst (λ (m : ℕ). 0 < m) (same_Some (suc n) k found) (omega arith), ap (λ (t : Bool). cond t None (Some (suc n))) (not_zero_suc n) ∙ found)

pub is_above_zero : (w : List ℕ) (k : ℕ) → is_positive (number_of w) ≡ true → number_of w ≡ Some k → 0 < k
is_above_zero w k is found = (above (number_of w) k is found).0

pub is_not_zero : (w : List ℕ) (k : ℕ) → is_positive (number_of w) ≡ true → number_of w ≡ Some k → not_zero w ≡ Some k
is_not_zero w k is found = (above (number_of w) k is found).1
