-- The numbers that a choice may have: those of new keys, and those of the keys that are left in a pass.
use Rattle.pct_names.proofs.Names.{◌+◌, ◌<◌, arith, Bool, cond, false, false≢true, filter, free_places, inl, inr, is_left, is_none, key_at}
use Rattle.pct_names.proofs.Names.{KeyPlace, KeyValues, left_keys, left_places, List, list_any, map, MAX_KEYS, nat_eq, new_keys, next_key}
use Rattle.pct_names.proofs.Names.{number_at, or_cases, range_with_len, refl, suc, true, zero, ℕ, ◌∷◌, ◌≡◌, ◌≤◌}
use Rattle.std.proofs.Common.{eqb-true}

-- ---- numbers of a range

-- n is the number of an item below a limit that passes a test
pub record IsNumberOf (number : ℕ → ℕ) (test : ℕ → Bool) (limit n : ℕ) : Type 0 where
  pub item : ℕ
  pub low : item < limit
  pub passes : test item ≡ true
  pub is : n ≡ number item

module _ (number : ℕ → ℕ) (test : ℕ → Bool) (limit n : ℕ) where
  one_more : (start : ℕ) (items : List ℕ) (passes : Bool) → start < limit → test start ≡ passes → (list_any (nat_eq n) (map number items) ≡ true → IsNumberOf number test limit n)
      → list_any (nat_eq n) (map number (cond passes (start ∷ items) items)) ≡ true → IsNumberOf number test limit n
  one_more start items true low is later among = elim (or_cases (nat_eq n (number start)) (list_any (nat_eq n) (map number items)) among) [
    | inl here ↦ record { item = start; low = low; passes = is; is = eqb-true n (number start) here }
    | inr there ↦ later there
  ]
  one_more start items false low is later among = later among

  -- a number among those of the items of a range that pass the test
  pub from_range : (start len : ℕ) → start + len ≤ limit → list_any (nat_eq n) (map number (filter test (range_with_len start len))) ≡ true → IsNumberOf number test limit n
  from_range start zero within among = absurd (false≢true among)
  from_range start (suc len) within among =
      one_more start (filter test (range_with_len (start + 1) len)) (test start) (omega (arith, within)) refl (from_range (start + 1) len (omega (arith, within))) among

-- ---- keys

-- the number of a new key is the next one of a place without a key
pub new_key_of : (keys : List KeyPlace) (k : ℕ) → list_any (nat_eq k) (new_keys keys) ≡ true → IsNumberOf (next_key keys) (λ place. is_none (key_at keys place)) MAX_KEYS k
unfolding free_places
new_key_of keys k among = from_range (next_key keys) (λ place. is_none (key_at keys place)) MAX_KEYS k 0 MAX_KEYS (omega arith) among

-- the number of a key that is left
pub left_key_of : (keys : List KeyPlace) (own : KeyValues) (k : ℕ) → list_any (nat_eq k) (left_keys keys own) ≡ true → IsNumberOf (number_at keys) (is_left keys own) MAX_KEYS k
unfolding left_places
left_key_of keys own k among = from_range (number_at keys) (is_left keys own) MAX_KEYS k 0 MAX_KEYS (omega arith) among
