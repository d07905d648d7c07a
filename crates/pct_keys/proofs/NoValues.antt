-- The data of a thread without values, and places on which it has none: they are not due, and not left in a pass.
use Rattle.std.specs.Prelude.{max}
use Rattle.std.proofs.lemmas.List.{get_or-set_other}
use Rattle.pct_names.proofs.Names.{◌&&◌, ◌+◌, ◌≤◌, ap, arith, Bool, false, is_due, is_left, is_some, key_at, KeyPlace}
use Rattle.pct_names.proofs.Names.{KeyValues, List, MAX_KEYS, nat_eq, no_values, not, option_map_or, refl, subst, sym}
use Rattle.pct_names.proofs.Names.{replicate, slice_get, slice_set, suc, with_value, without_value, zero, ℕ, ◌∙◌, ◌∷◌, ◌≡◌}
use Rattle.pct_keys.specs.Tables.{IsUnsetFrom}
use mathlib.Core.Bool.{and-false}
use Rattle.pct_keys.proofs.SoundTables.{IsClear-no_values, at_set}

-- ---- lists

set-replicate : {X : Type 0} (n i : ℕ) (x : X) → slice_set (replicate n x) i x ≡ replicate n x
set-replicate zero i x = refl
set-replicate (suc n) zero x = refl
set-replicate (suc n) (suc i) x = ap (λ xs. x ∷ xs) (set-replicate n i x)

-- ---- changes

-- taking a value away changes nothing
pub without_value-none : (place : ℕ) → without_value place no_values ≡ no_values
without_value-none place =
    let of_values : List ℕ → KeyValues = λ values. record { values = values; in_pass = slice_set no_values.in_pass place false } in
    let of_marks : List Bool → KeyValues = λ marks. record { values = no_values.values; in_pass = marks } in
    ap of_values (set-replicate MAX_KEYS place 0) ∙ ap of_marks (set-replicate MAX_KEYS place false)

-- ---- places

-- where there is no value, nothing is due or left
module _ (places : List KeyPlace) (own : KeyValues) (end : ℕ) (unset : IsUnsetFrom end own) (place : ℕ) (past : end ≤ place) where
  pub is_due-unset : is_due places own place ≡ false
  is_due-unset =
      let has_destructor : Bool = option_map_or (λ key. is_some key.destructor) (key_at places place) false in
      ap (λ value. has_destructor && not (nat_eq value 0)) (unset place past) ∙ and-false has_destructor

  pub is_left-unset : is_left places own place ≡ false
  is_left-unset =
      let in_pass : Bool = option_map_or (λ in_pass. in_pass) (slice_get own.in_pass place) false in
      ap (λ due. in_pass && due) is_due-unset ∙ and-false in_pass

-- ---- places without a value

pub unset-new : IsUnsetFrom 0 no_values
unset-new place past = (IsClear-no_values place).0

-- a value is set
pub unset-with : (own : KeyValues) (end place value : ℕ) → IsUnsetFrom end own → IsUnsetFrom (max end (place + 1)) (with_value place value own)
unset-with own end place value unset p past =
    subst (λ (v : ℕ). v ≡ 0) (sym (get_or-set_other own.values place p value 0 (omega (arith, past)))) (unset p (omega (arith, past)))

-- a value is taken away
pub unset-without : (own : KeyValues) (end place : ℕ) → IsUnsetFrom end own → IsUnsetFrom end (without_value place own)
unset-without own end place unset p past = at_set (λ v. v ≡ 0) own.values place p 0 0 refl (unset p past)
