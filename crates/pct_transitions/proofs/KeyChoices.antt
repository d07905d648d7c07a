-- The choices of a thread that makes a key, and of one that calls destructors.
use Rattle.pct_names.proofs.Names.{◌%◌, ◌&&◌, ◌*◌, ◌+◌, ◌-◌, ◌<◌, [], add-mul-mod_self_left, Alt, and_parts, ap, arith, Bool, cases_Bool}
use Rattle.pct_names.proofs.Names.{cond, count_by-le-length, false, false≢true, filter, free_places, get_or, get_or-range_with_len}
use Rattle.pct_names.proofs.Names.{if_number, inl, inr, is_left, is_none, is_some, Key, key_at, key_place, key_with, KeyPlace, KeyValues}
use Rattle.pct_names.proofs.Names.{left_keys, left_places, length, length-filter, length-map, length-range_with_len, List, list_any}
use Rattle.pct_names.proofs.Names.{list_any_at, list_any_none, map, MAX_KEYS, mod-eq_of_lt, nat_eq, new_keys, next_key, None, none-some}
use Rattle.pct_names.proofs.Names.{not, number_at, offers, Option, option_and_then, option_map, option_map_or, range_with_len, refl}
use Rattle.pct_names.proofs.Names.{same_choice, same_Some, slice_get, slice_get-map, slice_get_past, Some, sym, true, value_at, ℕ, ◌∙◌, ◌∷◌}
use Rattle.pct_names.proofs.Names.{◌≡◌, ◌≤◌}
use Rattle.std.proofs.Common.{zero-add}
use Rattle.std.proofs.Math.Bool.{and-true, and-false}
use Rattle.std.proofs.lemmas.Bool.{eqb-true, true≢false}
use Rattle.pct_model.specs.declared.schedule.Alt.TheVariants as alt
use Rattle.pct_engine_laws.proofs.ListFacts.{any-map, any-filter, map-map}
use Rattle.pct_keys.specs.Tables.{Table, IsSound}
use Rattle.pct_step_context.specs.Numbers.{AreOnPlaces}
use Rattle.pct_transitions.proofs.ListedChoices.{swapped}

-- ---- the places

place_in : (i d : ℕ) → i < 128 → get_or (range_with_len 0 MAX_KEYS) i d ≡ i
place_in i d low = get_or-range_with_len 0 MAX_KEYS i d low ∙ zero-add i

-- a test that no place but one can pass
one_place : (test : ℕ → Bool) (k : ℕ) → k < 128 → ((p : ℕ) → p < 128 → test p ≡ true → p ≡ k) → list_any test (range_with_len 0 MAX_KEYS) ≡ test k
one_place test k low only = by (test k) refl where
  by : (b : Bool) → test k ≡ b → list_any test (range_with_len 0 MAX_KEYS) ≡ b
  by true passes = list_any_at test (range_with_len 0 MAX_KEYS) k 0 (rw (length-range_with_len 0 MAX_KEYS) low) (ap test (place_in k 0 low) ∙ passes)
  by false fails = list_any_none test (range_with_len 0 MAX_KEYS) (λ i d inside.
      let small : i < 128 = rw (← length-range_with_len 0 MAX_KEYS) inside in
      ap test (place_in i d small) ∙ elim (cases_Bool (test i)) [
        | inl passes ↦ absurd (true≢false (sym passes ∙ ap test (only i small passes) ∙ fails))
        | inr other ↦ other
      ])

-- a number among those of the places that pass a test, each of which has a number of its own
among_places : (number : ℕ → ℕ) (test : ℕ → Bool) (n : ℕ) → ((p : ℕ) → p < 128 → test p ≡ true → key_place (number p) ≡ p)
    → list_any (nat_eq n) (map number (filter test (range_with_len 0 MAX_KEYS))) ≡ (test (key_place n) && nat_eq n (number (key_place n)))
among_places number test n own =
    any-map (nat_eq n) number (filter test (range_with_len 0 MAX_KEYS))
    ∙ any-filter (λ p. nat_eq n (number p)) test (range_with_len 0 MAX_KEYS)
    ∙ one_place (λ p. test p && nat_eq n (number p)) (key_place n) (omega arith) (λ p small passes.
    let parts = and_parts (test p) (nat_eq n (number p)) passes in sym (ap key_place (eqb-true n (number p) parts.1) ∙ own p small parts.0))

-- the place of the next key on a place
place_of_next : (p made : ℕ) → p < 128 → key_place (1 + p + 128 * made) ≡ p
place_of_next p made small =
    let minus : 1 + p + 128 * made - 1 ≡ p + 128 * made = omega arith in
    ap (λ n. n % 128) minus ∙ add-mul-mod_self_left p 128 made ∙ mod-eq_of_lt small

-- ---- new keys

module _ (places : List KeyPlace) (n : ℕ) where
  -- a number is among those of new keys exactly if its place has no key and it is the next one there
  pub new_among : list_any (nat_eq n) (new_keys places) ≡ (is_none (key_at places (key_place n)) && nat_eq n (next_key places (key_place n)))
  unfolding free_places
  new_among = among_places (next_key places) (λ p. is_none (key_at places p)) n (λ p small free. place_of_next p _ small)

  -- then it is offered
  pub new_offered : offers (map (λ n. alt.New n) (new_keys places)) (alt.New n) ≡ (is_none (key_at places (key_place n)) && nat_eq n (next_key places (key_place n)))
  new_offered = any-map (same_choice (alt.New n)) (λ n. alt.New n) (new_keys places) ∙ new_among

  -- a key with such a number can be made
  pub new_fits : list_any (nat_eq n) (new_keys places) ≡ true → (is_none (key_at places (key_place n)) ≡ true) × (next_key places (key_place n) ≡ n)
  new_fits among =
      let parts = and_parts (is_none (key_at places (key_place n))) (nat_eq n (next_key places (key_place n))) (sym new_among ∙ among) in
      (parts.0, sym (eqb-true n (next_key places (key_place n)) parts.1))

-- ---- keys that are left

module _ (places : List KeyPlace) (own : KeyValues) (n : ℕ) where
  has_key : (o : Option Key) (p : ℕ) (in_pass value : Bool) → key_at places p ≡ o → (in_pass && (option_map_or (λ key. is_some key.destructor) o false && value)) ≡ true → (key : Key) × (key_at places p ≡ Some key) × (number_at places p ≡ key.number)
  has_key None p true value at left = absurd (false≢true left)
  has_key None p false value at left = absurd (false≢true left)
  has_key (Some key) p in_pass value at left = (key, at, ap (λ (o : Option Key). option_map_or (λ key. key.number) o 0) at)

  left_place : AreOnPlaces places → (p : ℕ) → p < 128 → is_left places own p ≡ true → key_place (number_at places p) ≡ p
  left_place on p small left =
      let key = has_key (key_at places p) p (option_map_or (λ in_pass. in_pass) (slice_get own.in_pass p) false) (not (nat_eq (value_at p own) 0)) refl left in
      ap key_place key.2 ∙ on p key.0 small key.1

  -- a number is among those of the keys that are left exactly if the key on its place is left and has it
  left_among : AreOnPlaces places → list_any (nat_eq n) (left_keys places own) ≡ (is_left places own (key_place n) && nat_eq n (number_at places (key_place n)))
  unfolding left_places
  left_among on = among_places (number_at places) (is_left places own) n (left_place on)

  -- then it is offered
  pub left_offered : AreOnPlaces places → offers (map (λ n. alt.Dtor n) (left_keys places own)) (alt.Dtor n) ≡ (is_left places own (key_place n) && nat_eq n (number_at places (key_place n)))
  left_offered on = any-map (same_choice (alt.Dtor n)) (λ n. alt.Dtor n) (left_keys places own) ∙ left_among on

  by_key : (o : Option Key) (in_pass value : Bool) → let left : Bool = in_pass && (option_map_or (λ key. is_some key.destructor) o false && value) in (left && nat_eq n (option_map_or (λ key. key.number) o 0)) ≡ (is_some (if_number n o) && left)
  by_key None true value = refl
  by_key None false value = refl
  by_key (Some key) in_pass value = ap (λ b. (in_pass && (is_some key.destructor && value)) && b) (swapped n key.number) ∙ either (nat_eq key.number n) (in_pass && (is_some key.destructor && value)) where
    either : (same left : Bool) → (left && same) ≡ (is_some (cond same (Some key) None) && left)
    either true left = and-true left
    either false left = and-false left

  -- the same, by the key with the number
  pub left_by_key : (is_left places own (key_place n) && nat_eq n (number_at places (key_place n))) ≡ (is_some (key_with n places) && is_left places own (key_place n))
  unfolding key_with
  left_by_key = by_key (key_at places (key_place n)) (option_map_or (λ in_pass. in_pass) (slice_get own.in_pass (key_place n)) false) (not (nat_eq (value_at (key_place n) own) 0))

-- ---- the places of keys

-- in a table the key on each place has a number of the place
pub on_places : (keys : Table) → IsSound keys → AreOnPlaces keys.places
on_places keys sound place key small at = by (slice_get keys.places place) refl where
  by : (o : Option KeyPlace) → slice_get keys.places place ≡ o → key_place key.number ≡ place
  by None none = absurd (none-some key (sym (ap (option_and_then (λ (p : KeyPlace). p.key)) none) ∙ at))
  by (Some p) here =
      let number = sound.numbers place p key here (sym (ap (option_and_then (λ (p : KeyPlace). p.key)) here) ∙ at) in
      let is : key.number ≡ 1 + place + 128 * (p.made - 1) = omega (arith, number.0, number.1) in
      ap key_place is ∙ place_of_next place (p.made - 1) small

-- ---- the number of choices, and each

is_none-not : {T : Type 0} (o : Option T) → is_none o ≡ not (is_some o)
is_none-not None = refl
is_none-not (Some x) = refl

-- of choices that name the numbers of some places, or `go` if there is none
module _ (choose : ℕ → Alt) (number : ℕ → ℕ) where
  -- no place is there
  pub none_there : (go : List ℕ → List Alt) → alt.Go ∷ [] ≡ go [] → (places : List ℕ) (o : Option ℕ) → is_some o ≡ false → o ≡ slice_get places 0
      → alt.Go ∷ [] ≡ go (map number places)
  none_there go none [] o out at = none
  none_there go none (p ∷ places) o out at = absurd (true≢false (sym (ap is_some at) ∙ out))

  -- a place is
  pub some_there : (go : List ℕ → List Alt) → ((n : ℕ) (ns : List ℕ) → map choose (n ∷ ns) ≡ go (n ∷ ns)) → (places : List ℕ) (o : Option ℕ)
      → is_some o ≡ true → o ≡ slice_get places 0 → map choose (map number places) ≡ go (map number places)
  some_there go some [] o there at = absurd (true≢false (sym there ∙ ap is_some at))
  some_there go some (p ∷ places) o there at = some (number p) (map number places)

  -- the choice at an index
  pub choice_at : (places : List ℕ) (o : Option ℕ) (n : ℕ) → o ≡ slice_get places n
      → option_map (λ p. choose (number p)) o ≡ slice_get (map choose (map number places)) n
  choice_at places o n at =
      ap (option_map (λ p. choose (number p))) at
      ∙ sym (slice_get-map (λ p. choose (number p)) places n)
      ∙ sym (ap (λ (choices : List Alt). slice_get choices n) (map-map choose number places))

  -- there are not more than places
  pub none_past : (test : ℕ → Bool) (n : ℕ) → 128 ≤ n → None ≡ slice_get (map choose (map number (filter test (range_with_len 0 MAX_KEYS)))) n
  none_past test n past =
      let all : List ℕ = range_with_len 0 MAX_KEYS in
      let few : length (filter test all) ≤ 128 = omega (arith, length-filter test all, count_by-le-length test all, length-range_with_len 0 MAX_KEYS) in
      sym (slice_get_past (map choose (map number (filter test all))) n
      (omega (arith, past, few, length-map (map number (filter test all)) choose, length-map (filter test all) number)))

module _ (places : List KeyPlace) where
  -- a number that is offered for a new key, by what is read of its place
  pub new_by_place : (n place next : ℕ) (live : Bool) → place ≡ key_place n → live ≡ is_some (key_at places place) → next ≡ next_key places place → (not live && nat_eq next n) ≡ offers (map (λ k. alt.New k) (new_keys places)) (alt.New n)
  new_by_place n place next live at lives is =
      ap (λ b. not b && nat_eq next n) lives
      ∙ ap (λ (p : ℕ). not (is_some (key_at places p)) && nat_eq next n) at
      ∙ ap (λ b. b && nat_eq next n) (sym (is_none-not (key_at places (key_place n))))
      ∙ ap (λ b. is_none (key_at places (key_place n)) && b) (ap (λ (k : ℕ). nat_eq k n) (is ∙ ap (next_key places) at) ∙ swapped (next_key places (key_place n)) n)
      ∙ sym (new_offered places n)

  pub live_not_offered : (n place : ℕ) → place ≡ key_place n → is_some (key_at places place) ≡ true → false ≡ offers (map (λ k. alt.New k) (new_keys places)) (alt.New n)
  live_not_offered n place at live =
      sym (new_offered places n
      ∙ ap (λ b. b && nat_eq n (next_key places (key_place n))) (is_none-not (key_at places (key_place n)) ∙ ap not (ap (λ (p : ℕ). is_some (key_at places p)) (sym at) ∙ live)))

  module _ (own : KeyValues) where
    -- a number that is offered for a destructor, by the key with it
    pub none_by_key : (n : ℕ) → AreOnPlaces places → key_with n places ≡ None → false ≡ offers (map (λ k. alt.Dtor k) (left_keys places own)) (alt.Dtor n)
    none_by_key n on none = sym (left_offered places own n on ∙ left_by_key places own n ∙ ap (λ (o : Option Key). is_some o && is_left places own (key_place n)) none)

    pub left_by_found : (n place : ℕ) (left : Bool) → AreOnPlaces places → Some place ≡ option_map (λ _. key_place n) (key_with n places) → left ≡ is_left places own place → left ≡ offers (map (λ k. alt.Dtor k) (left_keys places own)) (alt.Dtor n)
    left_by_found n place left on found is = by (key_with n places) refl found where
      by : (o : Option Key) → key_with n places ≡ o → Some place ≡ option_map (λ _. key_place n) o → left ≡ offers (map (λ k. alt.Dtor k) (left_keys places own)) (alt.Dtor n)
      by None with_key found = absurd (none-some place (sym found))
      by (Some key) with_key found =
          is
          ∙ ap (is_left places own) (same_Some place (key_place n) found)
          ∙ sym (left_offered places own n on ∙ left_by_key places own n ∙ ap (λ (o : Option Key). is_some o && is_left places own (key_place n)) with_key)
