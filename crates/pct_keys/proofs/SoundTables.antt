-- What holds of every table is kept by its calls.
use Rattle.pct_names.proofs.Names.{◌*◌, ◌+◌, ◌<◌, [], ap, arith, Bool, cases_eq, cases_lt, cond, false, get_or, get_or-replicate}
use Rattle.pct_names.proofs.Names.{get_or_past, inl, inr, is_some, Key, key_at, KeyPlace, KeyValues, length, length-map, length-replicate}
use Rattle.pct_names.proofs.Names.{List, map, MAX_KEYS, nat_eq, next_key, no_keys, no_values, None, none-some, not, on_place, Option}
use Rattle.pct_names.proofs.Names.{option_map_or, refl, replicate, same_Some, set_past, slice_get, slice_get_read, slice_set, Some, subst}
use Rattle.pct_names.proofs.Names.{suc, sym, true, with_key, with_pass, without_value, zero, ℕ, ◌∙◌, ◌∷◌, ◌≡◌, ◌≢◌, ◌⊎◌}
use Rattle.std.proofs.Common.{length-set}
use Rattle.std.proofs.lemmas.List.{get_or-set_same, get_or-set_other, get_or-map}
use Rattle.pct_keys.specs.Tables.{Table, no_row, row_at, IsClear, IsSound, with_made, with_deleted}

-- ---- lists

-- what holds of an item after a write, if it holds of the new one and of the one before
pub at_set : {X : Type 0} (P : X → Type 0) (xs : List X) (i k : ℕ) (x d : X) → P x → P (get_or xs k d) → P (get_or (slice_set xs i x) k d)
at_set P xs i k x d new old =
    elim (cases_lt i (length xs)) [
      | inl inside ↦ elim (cases_eq k i) [
        | inl same ↦ subst P (sym (ap (λ n. get_or (slice_set xs i x) n d) same ∙ get_or-set_same xs i x d inside)) new
        | inr other ↦ subst P (sym (get_or-set_other xs i k x d other)) old
      ]
      | inr past ↦ subst P (sym (ap (λ ys. get_or ys k d) (set_past xs i x past))) old
    ]

-- a default that is written
set_default : {X : Type 0} (xs : List X) (i : ℕ) (d : X) → get_or (slice_set xs i d) i d ≡ d
set_default [] i d = refl
set_default (x ∷ xs) zero d = refl
set_default (x ∷ xs) (suc i) d = set_default xs i d

-- an item of copies
at_copies : {X : Type 0} (P : X → Type 0) (n k : ℕ) (x d : X) → P x → P d → P (get_or (replicate n x) k d)
at_copies P zero k x d new default = default
at_copies P (suc n) zero x d new default = new
at_copies P (suc n) (suc k) x d new default = at_copies P n k x d new default

copy : {X : Type 0} (n k : ℕ) (x y : X) → slice_get (replicate n x) k ≡ Some y → x ≡ y
copy zero k x y here = absurd (none-some y here)
copy (suc n) zero x y here = same_Some x y here
copy (suc n) (suc k) x y here = copy n k x y here

-- an item after a write
item_set : {X : Type 0} (xs : List X) (i k : ℕ) (x y : X) → slice_get (slice_set xs i x) k ≡ Some y → ((k ≡ i) × (x ≡ y)) ⊎ (slice_get xs k ≡ Some y)
item_set [] i k x y here = inr here
item_set (z ∷ xs) zero zero x y here = inl (refl, same_Some x y here)
item_set (z ∷ xs) zero (suc k) x y here = inr here
item_set (z ∷ xs) (suc i) zero x y here = inr here
item_set (z ∷ xs) (suc i) (suc k) x y here = elim (item_set xs i k x y here) [ inl w ↦ inl (ap (λ n. suc n) w.0, w.1) | inr w ↦ inr w ]

-- ---- places

-- a place of the list, and its change
pub on_place-here : (places : List KeyPlace) (place : ℕ) (p : KeyPlace) (change : KeyPlace → KeyPlace) → place < length places → p ≡ get_or places place p → on_place place change places ≡ slice_set places place (change p)
on_place-here places place p change inside is =
    ap (λ here. option_map_or (λ q. slice_set places place (change q)) here places) (slice_get_read places (length places) place p refl inside is)

-- the number of the next key on a place of the list
pub next_key-here : (places : List KeyPlace) (place : ℕ) (p : KeyPlace) → place < length places → p ≡ get_or places place p → next_key places place ≡ 1 + place + MAX_KEYS * p.made
next_key-here places place p inside is =
    ap (λ here. 1 + place + MAX_KEYS * option_map_or (λ q. q.made) here 0) (slice_get_read places (length places) place p refl inside is)

-- a place without a key after a write
free_set : (places : List KeyPlace) (i k : ℕ) (p : KeyPlace) → key_at (slice_set places i p) k ≡ None → ((k ≡ i) × (p.key ≡ None)) ⊎ (key_at places k ≡ None)
free_set [] i k p none = inr none
free_set (q ∷ places) zero zero p none = inl (refl, none)
free_set (q ∷ places) zero (suc k) p none = inr none
free_set (q ∷ places) (suc i) zero p none = inr none
free_set (q ∷ places) (suc i) (suc k) p none = elim (free_set places i k p none) [ inl w ↦ inl (ap (λ n. suc n) w.0, w.1) | inr w ↦ inr w ]

-- ---- rows

unmarked : (marks : List Bool) (i k : ℕ) → slice_get marks k ≢ Some true → slice_get (slice_set marks i false) k ≢ Some true
unmarked marks i k old here = elim (item_set marks i k false true here) [ inl w ↦ absurd (cc) | inr w ↦ old w ]

unmarked_here : (marks : List Bool) (i : ℕ) → slice_get (slice_set marks i false) i ≢ Some true
unmarked_here [] i here = none-some true here
unmarked_here (b ∷ marks) zero here = absurd (cc)
unmarked_here (b ∷ marks) (suc i) here = unmarked_here marks i here

unmarked_null : (values : List ℕ) (place : ℕ) → get_or values place 0 ≡ 0 → slice_get (map (λ value. not (nat_eq value 0)) values) place ≢ Some true
unmarked_null [] place null here = none-some true here
unmarked_null (v ∷ values) zero null here = absurd (cc (ap (λ n. not (nat_eq n 0)) null))
unmarked_null (v ∷ values) (suc place) null here = unmarked_null values place null here

pub IsClear-no_values : (place : ℕ) → IsClear no_values place
IsClear-no_values place = (at_copies (λ v. v ≡ 0) MAX_KEYS place 0 0 refl refl, λ here. absurd (cc (copy MAX_KEYS place false true here)))

IsClear-without_value : (row : KeyValues) (place other : ℕ) → IsClear row other → IsClear (without_value place row) other
IsClear-without_value row place other clear =
    (at_set (λ v. v ≡ 0) row.values place other 0 0 refl clear.0, unmarked row.in_pass place other clear.1)

IsClear-here : (row : KeyValues) (place : ℕ) → IsClear (without_value place row) place
IsClear-here row place = (set_default row.values place 0, unmarked_here row.in_pass place)

-- the data of a slot of a table with these places
pub record FitsRow (places : List KeyPlace) (row : KeyValues) : Type 0 where
  pub values : length row.values ≡ MAX_KEYS
  pub in_pass : length row.in_pass ≡ MAX_KEYS
  pub no_key : (place : ℕ) → key_at places place ≡ None → IsClear row place

pub FitsRow-no_values : (places : List KeyPlace) → FitsRow places no_values
FitsRow-no_values places = record {
  values = length-replicate {A = ℕ} MAX_KEYS 0;
  in_pass = length-replicate {A = Bool} MAX_KEYS false;
  no_key = λ place none. IsClear-no_values place;
}

-- ---- tables

module _ (table : Table) (sound : IsSound table) (slot : ℕ) (inside : slot < length table.rows) where
  -- as a pass begins
  pub FitsRow-with_pass : FitsRow table.places (with_pass (row_at table slot))
  FitsRow-with_pass = record {
    values = sound.values slot inside;
    in_pass = length-map (row_at table slot).values (λ value. not (nat_eq value 0)) ∙ sound.values slot inside;
    no_key = λ place none. ((sound.no_key slot place none).0, unmarked_null (row_at table slot).values place (sound.no_key slot place none).0);
  }

  -- without places in a pass
  pub FitsRow-without_pass : FitsRow table.places (record (row_at table slot) { in_pass = no_values.in_pass })
  FitsRow-without_pass = record {
    values = sound.values slot inside;
    in_pass = length-replicate {A = Bool} MAX_KEYS false;
    no_key = λ place none. ((sound.no_key slot place none).0, (IsClear-no_values place).1);
  }

module _ (table : Table) (sound : IsSound table) where
  -- with other data on a slot
  pub IsSound-row : (slot : ℕ) (row : KeyValues) → FitsRow table.places row → IsSound (record table { rows = slice_set table.rows slot row })
  IsSound-row slot row fits = record {
    places = sound.places;
    values = λ other inside. at_set (λ r. length r.values ≡ MAX_KEYS) table.rows slot other row no_row fits.values (sound.values other (omega (arith, length-set table.rows slot row, inside)));
    in_pass = λ other inside. at_set (λ r. length r.in_pass ≡ MAX_KEYS) table.rows slot other row no_row fits.in_pass (sound.in_pass other (omega (arith, length-set table.rows slot row, inside)));
    numbers = sound.numbers;
    no_key = λ other place none. at_set (λ r. IsClear r place) table.rows slot other row no_row (fits.no_key place none) (sound.no_key other place none);
  }

  -- without values on the slots
  pub IsSound-no_rows : (slots : ℕ) → IsSound (record table { rows = replicate slots no_values })
  IsSound-no_rows slots = record {
    places = sound.places;
    values = λ slot inside. subst (λ r. length r.values ≡ MAX_KEYS) (sym (get_or-replicate slots slot no_values no_row (omega (arith, length-replicate slots no_values, inside)))) (length-replicate {A = ℕ} MAX_KEYS 0);
    in_pass = λ slot inside. subst (λ r. length r.in_pass ≡ MAX_KEYS) (sym (get_or-replicate slots slot no_values no_row (omega (arith, length-replicate slots no_values, inside)))) (length-replicate {A = Bool} MAX_KEYS false);
    numbers = sound.numbers;
    no_key = λ slot place none. at_copies (λ r. IsClear r place) slots slot no_values no_row (IsClear-no_values place) (refl, λ here. none-some true here);
  }

  -- with another place; no thread may have a value there if it has no key
  IsSound-place : (place : ℕ) (p : KeyPlace) → ((key : Key) → p.key ≡ Some key → (0 < p.made) × (1 + place + MAX_KEYS * p.made ≡ key.number + MAX_KEYS))
      → (p.key ≡ None → (slot : ℕ) → IsClear (row_at table slot) place) → IsSound (record table { places = slice_set table.places place p })
  IsSound-place place p number clear = record {
    places = length-set table.places place p ∙ sound.places;
    values = sound.values;
    in_pass = sound.in_pass;
    numbers = λ other q key here has. elim (item_set table.places place other p q here) [
      | inl w ↦ let same : (0 < q.made) × (1 + place + MAX_KEYS * q.made ≡ key.number + MAX_KEYS) = subst (λ r. r.key ≡ Some key → (0 < r.made) × (1 + place + MAX_KEYS * r.made ≡ key.number + MAX_KEYS)) w.1 (number key) has in (same.0, omega (arith, w.0, same.1))
      | inr w ↦ sound.numbers other q key w has
    ];
    no_key = λ slot other none. elim (free_set table.places place other p none) [
      | inl w ↦ subst (λ k. IsClear (row_at table slot) k) (sym w.0) (clear w.1 slot)
      | inr w ↦ sound.no_key slot other w
    ];
  }

  -- with a new key
  pub IsSound-made : (place made number : ℕ) (destructor : Option ℕ) → number ≡ 1 + place + MAX_KEYS * made
      → IsSound (record table { places = slice_set table.places place (record { made = made + 1; key = Some (record { number = number; destructor = destructor }) }) })
  IsSound-made place made number destructor is =
      IsSound-place place (record { made = made + 1; key = Some (record { number = number; destructor = destructor }) })
      (λ key here. (omega arith, omega (arith, is, ap (λ k. k.number) (same_Some _ _ here)))) (λ none. absurd (none-some _ (sym none)))

row_at-cleared : (table : Table) (place slot : ℕ) → row_at (record table { rows = map (without_value place) table.rows }) slot ≡ without_value place (row_at table slot)
row_at-cleared table place slot =
    elim (cases_lt slot (length table.rows)) [
      | inl inside ↦ get_or-map (without_value place) table.rows slot no_row no_row inside
      | inr past ↦ get_or_past (map (without_value place) table.rows) slot no_row (omega (arith, length-map table.rows (without_value place)))
          ∙ ap (without_value place) (sym (get_or_past table.rows slot no_row past))
    ]

-- without values on a place
IsSound-cleared : (table : Table) (place : ℕ) → IsSound table → IsSound (record table { rows = map (without_value place) table.rows })
IsSound-cleared table place sound = record {
  places = sound.places;
  values = λ slot inside. ap (λ r. length r.values) (row_at-cleared table place slot) ∙ length-set (row_at table slot).values place 0
      ∙ sound.values slot (omega (arith, length-map table.rows (without_value place), inside));
  in_pass = λ slot inside. ap (λ r. length r.in_pass) (row_at-cleared table place slot) ∙ length-set (row_at table slot).in_pass place false
      ∙ sound.in_pass slot (omega (arith, length-map table.rows (without_value place), inside));
  numbers = sound.numbers;
  no_key = λ slot other none. subst (λ r. IsClear r other) (sym (row_at-cleared table place slot)) (IsClear-without_value (row_at table slot) place other (sound.no_key slot other none));
}

-- without the key on a place
pub IsSound-without : (table : Table) (place made : ℕ) → IsSound table → IsSound (record { places = slice_set table.places place (record { made = made; key = None }); rows = map (without_value place) table.rows })
IsSound-without table place made sound =
    IsSound-place (record table { rows = map (without_value place) table.rows }) (IsSound-cleared table place sound) place (record { made = made; key = None })
    (λ key here. absurd (none-some key here))
    (λ none slot. subst (λ r. IsClear r place) (sym (row_at-cleared table place slot)) (IsClear-here (row_at table slot) place))

-- without keys
pub IsSound-new : (slots : ℕ) → IsSound (record { places = no_keys; rows = replicate slots no_values })
IsSound-new slots =
    IsSound-no_rows (record { places = no_keys; rows = [] }) (record {
      places = length-replicate {A = KeyPlace} MAX_KEYS (record { made = 0; key = None });
      values = λ slot inside. absurd (omega (arith, inside));
      in_pass = λ slot inside. absurd (omega (arith, inside));
      numbers = λ place p key here has. absurd (none-some key (ap (λ q. q.key) (copy MAX_KEYS place _ p here) ∙ has));
      no_key = λ slot place none. (refl, λ here. none-some true here);
    }) slots

-- ---- the tables after pthread_key_create and pthread_key_delete, at a place p of the list

module _ (table : Table) (place : ℕ) (p : KeyPlace) (inside : place < length table.places) (here : p ≡ get_or table.places place p) where
  pub made_at : (number : ℕ) (destructor : Option ℕ) → is_some (key_at table.places place) ≡ false → number ≡ next_key table.places place
      → record table { places = slice_set table.places place (record { made = p.made + 1; key = Some (record { number = number; destructor = destructor }) }) } ≡ with_made place destructor table
  made_at number destructor free is =
      ap (λ n. record table { places = slice_set table.places place (record { made = p.made + 1; key = Some (record { number = n; destructor = destructor }) }) }) is
      ∙ ap (λ places. record table { places = places }) (sym (on_place-here table.places place p (λ q. record { made = q.made + 1; key = Some (record { number = next_key table.places place; destructor = destructor }) }) inside here))
      ∙ sym (ap (λ b. cond b table (record table { places = with_key place (next_key table.places place) destructor table.places })) free)

  pub deleted_at : (rows : List KeyValues) → rows ≡ map (without_value place) table.rows → record { places = slice_set table.places place (record p { key = None }); rows = rows } ≡ with_deleted place table
  deleted_at rows is =
      ap (λ xs. record { places = slice_set table.places place (record p { key = None }); rows = xs }) is
      ∙ ap (λ places. record { places = places; rows = map (without_value place) table.rows }) (sym (on_place-here table.places place p (λ q. record q { key = None }) inside here))
