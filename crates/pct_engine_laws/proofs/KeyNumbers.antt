-- The numbers of keys, limited by the number of transitions.
use Rattle.pct_names.proofs.Names.{◌*◌, ◌+◌, ◌<◌, All, All-filter, All-get_or, All-map, All-replicate, All-set, All-weaker, arith}
use Rattle.pct_names.proofs.Names.{free_places, get_or, get_or-range_with_len, get_or_from_slice_get, is_none, Key, key_at, key_place}
use Rattle.pct_names.proofs.Names.{KeyPlace, KeyValues, left_keys, left_places, length-range_with_len, List, MAX_KEYS, new_keys, next_key}
use Rattle.pct_names.proofs.Names.{no_keys, None, number_at, on_place, Option, option_and_then, option_map_or, range_with_len, refl}
use Rattle.pct_names.proofs.Names.{shared_after, SharedAction, SharedState, slice_get, slice_get_within, slice_set, Some, subst, sym, ℕ}
use Rattle.pct_names.proofs.Names.{◌∙◌, ◌≡◌, ◌≤◌}
use Rattle.std.proofs.Common.{zero-add}
use Rattle.std.proofs.lemmas.Bool.{true≢false}
use Rattle.pct_model.specs.declared.transition.SharedAction.TheVariants as shared_action
use Rattle.pct_engine_laws.proofs.WhatTransitionsMake.{MakesKey}

-- fewer than n keys were ever made on a place, and the number of the key on it is limited by n
pub record HasFewOn (n : ℕ) (p : KeyPlace) : Type 0 where
  pub made : p.made < n
  pub number : option_map_or (λ (key : Key). key.number) p.key 0 ≤ 128 + 128 * n

-- ---- one place

-- what holds of none, and of a place if the place has a property, holds of one of these places
at_place : (P : KeyPlace → Type 0) (Q : Option KeyPlace → Type 0) (keys : List KeyPlace) (place : ℕ) → Q None → ((p : KeyPlace) → P p → Q (Some p)) → All P keys → Q (slice_get keys place)
at_place P Q keys place none some all = by (slice_get keys place) refl where
  by : (o : Option KeyPlace) → slice_get keys place ≡ o → Q o
  by None at = none
  by (Some p) at = some p (subst P (get_or_from_slice_get keys place p p at) (All-get_or P keys place p (slice_get_within keys place p at) all))

-- the places with a change of one
on_place_all : (P Q : KeyPlace → Type 0) (place : ℕ) (change : KeyPlace → KeyPlace) (keys : List KeyPlace) → ((p : KeyPlace) → P p → Q (change p)) → ((p : KeyPlace) → P p → Q p) → All P keys → All Q (on_place place change keys)
on_place_all P Q place change keys changed others all =
    let same : All Q keys = All-weaker P Q others keys all in
    at_place P (λ (o : Option KeyPlace). All Q (option_map_or (λ (p : KeyPlace). slice_set keys place (change p)) o keys)) keys place same (λ p has. All-set Q keys place (change p) (changed p has) same) all

-- ---- the numbers that are offered

module _ (n : ℕ) (keys : List KeyPlace) (few : All (HasFewOn n) keys) where
  made_few : (place : ℕ) → option_map_or (λ (p : KeyPlace). p.made) (slice_get keys place) 0 ≤ n
  made_few place = at_place (HasFewOn n) (λ (o : Option KeyPlace). option_map_or (λ (p : KeyPlace). p.made) o 0 ≤ n) keys place (omega arith) (λ p has. omega (arith, has.made)) few

  number_within : (place : ℕ) → number_at keys place ≤ 128 + 128 * n
  number_within place =
      at_place (HasFewOn n) (λ (o : Option KeyPlace). option_map_or (λ (key : Key). key.number) (option_and_then (λ (p : KeyPlace). p.key) o) 0 ≤ 128 + 128 * n) keys place (omega arith) (λ p has. has.number) few

  next_within : (place : ℕ) → place < 128 → next_key keys place ≤ 128 + 128 * n
  next_within place low = omega (arith, made_few place, low)

  -- a new key
  pub new_keys_within : All (λ (k : ℕ). k ≤ 128 + 128 * n) (new_keys keys)
  unfolding free_places
  new_keys_within =
      let all : List ℕ = range_with_len 0 MAX_KEYS in
      All-map (λ (k : ℕ). k ≤ 128 + 128 * n) (next_key keys) (free_places keys)
      (All-filter (λ (place : ℕ). is_none (key_at keys place)) (λ (place : ℕ). next_key keys place ≤ 128 + 128 * n) all (λ i d low.
      let below : i < 128 = subst (λ (k : ℕ). i < k) (length-range_with_len 0 MAX_KEYS) low in
      subst (λ (place : ℕ). next_key keys place ≤ 128 + 128 * n) (sym (get_or-range_with_len 0 MAX_KEYS i d below ∙ zero-add i)) (next_within i below)))

  -- a key whose destructor is to be called
  pub left_keys_within : (own : KeyValues) → All (λ (k : ℕ). k ≤ 128 + 128 * n) (left_keys keys own)
  left_keys_within own = All-map (λ (k : ℕ). k ≤ 128 + 128 * n) (number_at keys) (left_places keys own) (λ i d low. number_within (get_or (left_places keys own) i d))

-- ---- after a transition

-- the limits at a higher number
pub few_keys_more : (n m : ℕ) (keys : List KeyPlace) → n ≤ m → All (HasFewOn n) keys → All (HasFewOn m) keys
few_keys_more n m keys more few = All-weaker (HasFewOn n) (HasFewOn m) (λ p has. record { made = omega (arith, has.made, more); number = omega (arith, has.number, more) }) keys few

-- after the action on what is shared, which makes at most one key
pub few_keys_after : (n : ℕ) (a : Option SharedAction) (s : SharedState) → MakesKey (λ (k : ℕ). k ≤ 128 + 128 * n) a → All (HasFewOn n) s.keys → All (HasFewOn (n + 1)) (shared_after a s).keys
unfolding shared_after
few_keys_after n (Some (shared_action.MakeKey k destructor)) s small few =
    on_place_all (HasFewOn n) (HasFewOn (n + 1)) (key_place k) (λ (p : KeyPlace). record { made = p.made + 1; key = Some (record { number = k; destructor = destructor }) }) s.keys
    (λ p has. record { made = omega (arith, has.made); number = omega (arith, small) })
    (λ p has. record { made = omega (arith, has.made); number = omega (arith, has.number) }) few
few_keys_after n (Some (shared_action.DeleteKey k)) s small few =
    on_place_all (HasFewOn (n + 1)) (HasFewOn (n + 1)) (key_place k) (λ (p : KeyPlace). record p { key = None }) s.keys (λ p has. record { made = has.made; number = omega arith }) (λ p has. has) (few_keys_more n (n + 1) s.keys (omega arith) few)
few_keys_after n _ s small few = few_keys_more n (n + 1) s.keys (omega arith) few

-- before the first transition
pub no_keys_few : All (HasFewOn 1) no_keys
no_keys_few = All-replicate (HasFewOn 1) MAX_KEYS (record { made = 0; key = None }) (record { made = omega arith; number = omega arith })
