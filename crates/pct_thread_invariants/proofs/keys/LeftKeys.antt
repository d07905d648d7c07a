-- A key that is left in the pass of a thread: its place, which is in the pass, and its destructor.
use Rattle.pct_names.proofs.Names.{◌<◌, and_parts, ap, Bool, cond, false, false≢true, get_or_from_slice_get, if_number, is_left, is_some}
use Rattle.pct_names.proofs.Names.{Key, key_at, key_place, key_with, KeyPlace, KeyValues, length, List, MAX_KEYS, nat_eq, None, none-some}
use Rattle.pct_names.proofs.Names.{not, not-true, number_at, Option, option_and_then, option_and_then_some, option_map_or, refl, Script}
use Rattle.pct_names.proofs.Names.{slice_get, slice_get_within, Some, subst, sym, true, value_at, ℕ, ◌∙◌, ◌≡◌}
use Rattle.std.proofs.Common.{eq-eqb}
use Rattle.pct_laws.specs.Kept.{KeysKept, IsLastMade}
use Rattle.pct_thread_invariants.proofs.lift.OfferedNumbers.{IsNumberOf}
use Rattle.pct_thread_invariants.proofs.keys.KeyPlaces.{place_of_last}
use Rattle.pct_thread_invariants.proofs.thread.Passes.{is_in}

with_number : (n : ℕ) (found : Option Key) (key : Key) → if_number n found ≡ Some key → found ≡ Some key
with_number n None key is = absurd (none-some key is)
with_number n (Some k) key is = by_test (nat_eq k.number n) is
  where
    by_test : (same : Bool) → cond same (Some k) None ≡ Some key → Some k ≡ Some key
    by_test true it = it
    by_test false it = absurd (none-some key it)

-- a key with a number is found by it, with its destructor
found_by_number : (n : ℕ) (found : Option Key) → option_map_or (λ (key : Key). key.number) found 0 ≡ n → option_map_or (λ (key : Key). is_some key.destructor) found false ≡ true
    → is_some (option_and_then (λ (key : Key). key.destructor) (if_number n found)) ≡ true
found_by_number n None is has = absurd (false≢true has)
found_by_number n (Some key) is has = ap (λ (same : Bool). is_some (option_and_then (λ (x : Key). x.destructor) (cond same (Some key) None))) (eq-eqb key.number n is) ∙ has

-- a place that is marked is in the pass
is_marked : (in_pass : List Bool) (place : ℕ) (found : Option Bool) → slice_get in_pass place ≡ found → option_map_or (λ is. is) found false ≡ true → is_in in_pass place ≡ true
is_marked in_pass place None is any = absurd (false≢true any)
is_marked in_pass place (Some b) is any = get_or_from_slice_get in_pass place b false is ∙ any

module _ (script : Script) (keys : List KeyPlace) (kept : KeysKept script keys) where
  -- a key is on its own place
  pub on_own_place : (place : ℕ) (key : Key) → key_at keys place ≡ Some key → key_place key.number ≡ place
  on_own_place place key at = option_and_then_some (λ (p : KeyPlace). p.key) (slice_get keys place) key at (λ p found is.
      let last : IsLastMade place p key = kept.numbers place p key found is in
      place_of_last place p.made key.number (subst (λ (n : ℕ). place < n) kept.places (slice_get_within keys place p found)) last.was_made last.number)

  -- the destructor of a key is a function of the script
  pub destructor_in_script : (k : ℕ) (key : Key) (f : ℕ) → key_with k keys ≡ Some key → key.destructor ≡ Some f → f < length script.funcs
  unfolding key_with
  destructor_in_script k key f is named = kept.destructors (key_place k) key f (with_number k (key_at keys (key_place k)) key is) named

  module _ (own : KeyValues) (k : ℕ) (left : IsNumberOf (number_at keys) (is_left keys own) MAX_KEYS k) where
    place_of_left : (found : Option Key) → key_at keys left.item ≡ found → option_map_or (λ (key : Key). is_some key.destructor) found false ≡ true → key_place k ≡ left.item
    place_of_left None at has = absurd (false≢true has)
    place_of_left (Some key) at has = ap key_place (left.is ∙ ap (λ (o : Option Key). option_map_or (λ (x : Key). x.number) o 0) at) ∙ on_own_place left.item key at

    -- the place of a key that is left is in the pass
    pub left_in_pass : is_in own.in_pass (key_place k) ≡ true
    left_in_pass =
        let parts = and_parts (option_map_or (λ in_pass. in_pass) (slice_get own.in_pass left.item) false) _ left.passes in
        let due = and_parts (option_map_or (λ (key : Key). is_some key.destructor) (key_at keys left.item) false) (not (nat_eq (value_at left.item own) 0)) parts.1 in
        ap (is_in own.in_pass) (place_of_left (key_at keys left.item) refl due.0) ∙ is_marked own.in_pass left.item (slice_get own.in_pass left.item) refl parts.0

    -- the thread has a value of it that is not NULL
    pub left_has_value : nat_eq (value_at (key_place k) own) 0 ≡ false
    left_has_value =
        let parts = and_parts (option_map_or (λ in_pass. in_pass) (slice_get own.in_pass left.item) false) _ left.passes in
        let due = and_parts (option_map_or (λ (key : Key). is_some key.destructor) (key_at keys left.item) false) (not (nat_eq (value_at left.item own) 0)) parts.1 in
        ap (λ (place : ℕ). nat_eq (value_at place own) 0) (place_of_left (key_at keys left.item) refl due.0) ∙ not-true (nat_eq (value_at left.item own) 0) due.1

    -- it is found by its number, with a destructor
    pub left_has_destructor : is_some (option_and_then (λ (key : Key). key.destructor) (key_with k keys)) ≡ true
    unfolding key_with
    left_has_destructor =
        let parts = and_parts (option_map_or (λ in_pass. in_pass) (slice_get own.in_pass left.item) false) _ left.passes in
        let due = and_parts (option_map_or (λ (key : Key). is_some key.destructor) (key_at keys left.item) false) (not (nat_eq (value_at left.item own) 0)) parts.1 in
        let place_is : key_place k ≡ left.item = place_of_left (key_at keys left.item) refl due.0 in
        found_by_number k (key_at keys (key_place k)) (ap (number_at keys) place_is ∙ sym left.is)
        (ap (λ (place : ℕ). option_map_or (λ (key : Key). is_some key.destructor) (key_at keys place) false) place_is ∙ due.0)
