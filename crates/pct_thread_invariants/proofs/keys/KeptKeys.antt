-- A transition keeps what is kept of keys, and that the data of a thread are empty at each place without a key.
use Rattle.pct_names.proofs.Names.{◌*◌, ◌+◌, ◌<◌, [], ap, arith, Bool, cond, Dest, Environment, false, false≢true, Frame, get_or, if_number}
use Rattle.pct_names.proofs.Names.{inl, inr, is_none, Key, key_at, key_place, key_with, KeyPlace, KeyValues, length, length-replicate, List}
use Rattle.pct_names.proofs.Names.{list_any, MAX_KEYS, NamedAction, nat_eq, new_keys, next_key, NextStatement, no_keys, no_values, None}
use Rattle.pct_names.proofs.Names.{none-some, not, Option, option_and_then, option_and_then_some, option_map_or, OwnAction, refl, same_Some}
use Rattle.pct_names.proofs.Names.{Script, set, shared_after, shared_moved, SharedState, slice_get, Some, statement_at, Status, Stmt, subst}
use Rattle.pct_names.proofs.Names.{suc, sym, Thread, Transition, true, value_at, value_of, with_key, with_pass, with_value, without_value}
use Rattle.pct_names.proofs.Names.{zero, ℕ, ◌∙◌, ◌∷◌, ◌≡◌, ◌⊎◌}
use Rattle.std.proofs.Common.{get_or-set_other, length-set}
use Rattle.std.proofs.Math.ListN.{get_or-map}
use Rattle.pct_model.specs.declared.transition.NamedAction.TheVariants as named_action
use Rattle.pct_model.specs.declared.transition.OwnAction.TheVariants as own_action
use Rattle.pct_model.specs.declared.statement.Stmt.TheVariants as statement
use Rattle.pct_laws.specs.Kept.{KeysKept, IsLastMade}
use Rattle.pct_thread_invariants.proofs.lift.OfferedNumbers.{IsNumberOf, new_key_of}
use Rattle.pct_thread_invariants.proofs.keys.KeyPlaces.{default_set, default_stays, default_of_replicate, item_of_replicate, item_set}
use Rattle.pct_thread_invariants.proofs.keys.KeyPlaces.{place_of_next}
use Rattle.pct_transition_cases.proofs.PlacedStatements.{IsPlaced, statement_placed}
use Rattle.pct_transition_cases.proofs.TransitionCases.{TransitionCase, key_made, key_deleted, specific_set, pass_begun, destructor_called}
use Rattle.pct_thread_invariants.proofs.thread.NamedFunctions.{NamesFunctions}

-- ---- the data after an action

-- the data of the thread that acts
abbrev pub own_data : Option OwnAction → KeyValues → KeyValues
own_data (Some (own_action.SetSpecific k v)) own = with_value (key_place k) v own
own_data (Some own_action.BeginPass) own = with_pass own
own_data (Some (own_action.RunDestructor k f v)) own = without_value (key_place k) own
own_data _ own = own

-- the data of any thread of the process
abbrev pub named_data : Option NamedAction → KeyValues → KeyValues
named_data (Some (named_action.ForgetKey k)) own = without_value (key_place k) own
named_data _ own = own

-- ---- the keys

module _ (script : Script) where
  -- what is kept of a key on a place
  record IsKept (place : ℕ) (p : KeyPlace) (key : Key) : Type 0 where
    last : IsLastMade place p key
    destructor : (f : ℕ) → key.destructor ≡ Some f → f < length script.funcs

  module _ (keys : List KeyPlace) (kept : KeysKept script keys) where
    -- one place changes
    kept_set : (place : ℕ) (q : KeyPlace) → ((key : Key) → q.key ≡ Some key → IsKept place q key) → KeysKept script (set keys place q)
    kept_set place q new = record {
      places = length-set keys place q ∙ kept.places;
      numbers = λ j p key at is. elim (item_set keys place j q p at) [
        | inl before ↦ kept.numbers j p key before is
        | inr it ↦ (changed j p key it.0 it.1 is).last
      ];
      destructors = λ j key f at named. option_and_then_some (λ (x : KeyPlace). x.key) (slice_get (set keys place q) j) key at (λ p found is. elim (item_set keys place j q p found) [
        | inl before ↦ kept.destructors j key f (ap (option_and_then (λ (x : KeyPlace). x.key)) before ∙ is) named
        | inr it ↦ (changed j p key it.0 it.1 is).destructor f named
      ]);
    }
      where
        changed : (j : ℕ) (p : KeyPlace) (key : Key) → place ≡ j → q ≡ p → p.key ≡ Some key → IsKept j p key
        changed j p key same it is = subst (λ (x : KeyPlace). IsKept j x key) it (subst (λ (n : ℕ). IsKept n q key) same (new key (ap (λ (x : KeyPlace). x.key) it ∙ is)))

    -- a key is made, or deleted, on a place
    made_at : (place k : ℕ) (destructor : Option ℕ) (found : Option KeyPlace) → k ≡ 1 + place + MAX_KEYS * option_map_or (λ p. p.made) found 0 → ((f : ℕ) → destructor ≡ Some f → f < length script.funcs)
        → KeysKept script (option_map_or (λ p. set keys place (record { made = p.made + 1; key = Some (record { number = k; destructor = destructor }) })) found keys)
    made_at place k destructor None is named = kept
    made_at place k destructor (Some p) is named =
        let made : Key = record { number = k; destructor = destructor } in
        let q : KeyPlace = record { made = p.made + 1; key = Some made } in
        kept_set place q (λ key same. subst (λ (x : Key). IsKept place q x) (same_Some made key same) (record { last = record { was_made = omega arith; number = omega (arith, is) }; destructor = named }))

    deleted_at : (place : ℕ) (found : Option KeyPlace) → KeysKept script (option_map_or (λ p. set keys place (record p { key = None })) found keys)
    deleted_at place None = kept
    deleted_at place (Some p) = kept_set place (record p { key = None }) (λ key same. absurd (none-some key same))

    made_kept : (k : ℕ) (destructor : Option ℕ) → list_any (nat_eq k) (new_keys keys) ≡ true → ((f : ℕ) → destructor ≡ Some f → f < length script.funcs) → KeysKept script (with_key (key_place k) k destructor keys)
    made_kept k destructor among named =
        let of : IsNumberOf (next_key keys) (λ place. is_none (key_at keys place)) MAX_KEYS k = new_key_of keys k among in
        let place_is : key_place k ≡ of.item = ap key_place of.is ∙ place_of_next of.item (option_map_or (λ p. p.made) (slice_get keys of.item) 0) of.low in
        subst (λ (n : ℕ). KeysKept script (with_key n k destructor keys)) (sym place_is) (made_at of.item k destructor (slice_get keys of.item) of.is named)

  -- no keys
  pub no_keys_kept : KeysKept script no_keys
  no_keys_kept =
      let empty : KeyPlace = record { made = 0; key = None } in
      let no_key : (j : ℕ) (p : KeyPlace) (key : Key) → slice_get no_keys j ≡ Some p → p.key ≡ Some key → ⊥ = λ j p key at is. none-some key (ap (λ (x : KeyPlace). x.key) (item_of_replicate MAX_KEYS j empty p at) ∙ is) in
      record {
        places = length-replicate MAX_KEYS empty;
        numbers = λ j p key at is. absurd (no_key j p key at is);
        destructors = λ j key f at named. option_and_then_some (λ (x : KeyPlace). x.key) (slice_get no_keys j) key at (λ p found is. absurd (no_key j p key found is));
      }

-- ---- the data of a thread

-- at each place without a key the data have no value, and the place is not in the pass
abbrev pub AreEmpty : List KeyPlace → KeyValues → Type 0
AreEmpty keys own = (place : ℕ) → key_at keys place ≡ None → (value_at place own ≡ 0) × (get_or own.in_pass place false ≡ false)

-- the data of a new thread
pub new_empty : (keys : List KeyPlace) → AreEmpty keys no_values
new_empty keys place none = (default_of_replicate MAX_KEYS place 0, default_of_replicate MAX_KEYS place false)

-- a value is taken away
cleared : (keys : List KeyPlace) (at : ℕ) (own : KeyValues) → AreEmpty keys own → AreEmpty keys (without_value at own)
cleared keys at own empty place none = (default_stays own.values at place 0 (empty place none).0, default_stays own.in_pass at place false (empty place none).1)

-- a place without a key, after one place changed
none_set : (keys : List KeyPlace) (i j : ℕ) (q : KeyPlace) → key_at (set keys i q) j ≡ None → (key_at keys j ≡ None) ⊎ ((i ≡ j) × (q.key ≡ None))
none_set [] i j q none = inl none
none_set (p ∷ keys) zero zero q none = inr (refl, none)
none_set (p ∷ keys) zero (suc j) q none = inl none
none_set (p ∷ keys) (suc i) zero q none = inl none
none_set (p ∷ keys) (suc i) (suc j) q none = elim (none_set keys i j q none) [
  | inl before ↦ inl before
  | inr new ↦ inr (ap suc new.0, new.1)
]

none_made : (keys : List KeyPlace) (at k : ℕ) (destructor : Option ℕ) (found : Option KeyPlace) (place : ℕ) → key_at (option_map_or (λ p. set keys at (record { made = p.made + 1; key = Some (record { number = k; destructor = destructor }) })) found keys) place ≡ None → key_at keys place ≡ None
none_made keys at k destructor None place none = none
none_made keys at k destructor (Some p) place none = let made : Key = record { number = k; destructor = destructor } in elim (none_set keys at place (record { made = p.made + 1; key = Some made }) none) [
  | inl before ↦ before
  | inr new ↦ absurd (none-some made (sym new.1))
]

none_deleted : (keys : List KeyPlace) (at : ℕ) (found : Option KeyPlace) (place : ℕ) → key_at (option_map_or (λ p. set keys at (record p { key = None })) found keys) place ≡ None → (key_at keys place ≡ None) ⊎ (at ≡ place)
none_deleted keys at None place none = inl none
none_deleted keys at (Some p) place none = elim (none_set keys at place (record p { key = None }) none) [
  | inl before ↦ inl before
  | inr new ↦ inr new.0
]

-- where a key with a number was made and not deleted, a key is on its place
is_on_place : (n : ℕ) (found : Option Key) → is_none (if_number n found) ≡ false → is_none found ≡ false
is_on_place n None is = is
is_on_place n (Some key) is = refl

named_key : (n : ℕ) (keys : List KeyPlace) → is_none (key_with n keys) ≡ false → is_none (key_at keys (key_place n)) ≡ false
unfolding key_with
named_key n keys is = is_on_place n (key_at keys (key_place n)) is

-- ---- a transition

module _ (script : Script) (names : NamesFunctions script) (passes tid : ℕ) (shared : SharedState) (t : Thread) (environment : Environment) where
  -- the destructor that a statement names
  destructor_of : (frame : Frame) (result key : Dest) (destructor : Option ℕ) → statement_at script frame ≡ Some (statement.KeyCreate result key destructor) → (f : ℕ) → destructor ≡ Some f → f < length script.funcs
  destructor_of frame result key None at f is = absurd (none-some f is)
  destructor_of frame result key (Some g) at f is = subst (λ (n : ℕ). n < length script.funcs) (same_Some g f is) (names.destructor frame result key g at)

  -- the keys after a transition
  pub case_kept : KeysKept script shared.keys → {frames : List Frame} {body : List Stmt} {next : NextStatement} {s : Status} {o : Transition} → IsPlaced script frames body next → TransitionCase passes body shared t environment true next s o → KeysKept script (shared_moved tid o shared).keys
  unfolding shared_after
  case_kept kept placed (key_made frame result key destructor k among) = made_kept script shared.keys kept k destructor (among refl) (destructor_of frame result key destructor (statement_placed placed))
  case_kept kept placed (key_deleted frame key named) = let place : ℕ = key_place (value_of shared.globals frame key) in deleted_at script shared.keys kept place (slice_get shared.keys place)
  case_kept kept placed _ = kept

  -- the data of the thread that acts
  own_empty : {body : List Stmt} {next : NextStatement} {s : Status} {o : Transition} → TransitionCase passes body shared t environment true next s o → (own : KeyValues) → AreEmpty shared.keys own → AreEmpty shared.keys (own_data o.own own)
  own_empty (specific_set frame key v named) own empty place none =
      let k : ℕ = value_of shared.globals frame key in
      let other : place ≡ key_place k → ⊥ = λ same. false≢true (sym (named_key k shared.keys named) ∙ ap (λ (n : ℕ). is_none (key_at shared.keys n)) (sym same) ∙ ap is_none none) in
      (get_or-set_other own.values (key_place k) place (value_of shared.globals frame v) 0 other ∙ (empty place none).0, (empty place none).1)
  own_empty (pass_begun next no_handlers below due none_left) own empty place none =
      let marked : ℕ → Bool = λ value. not (nat_eq value 0) in
      ((empty place none).0, get_or-map marked own.values place 0 ∙ ap marked (empty place none).0)
  own_empty (destructor_called next k f key no_handlers is named among) own empty place none = cleared shared.keys (key_place k) own empty place none
  own_empty _ own empty place none = empty place none

  -- the data of any thread of the process
  named_empty : {body : List Stmt} {next : NextStatement} {s : Status} {o : Transition} → TransitionCase passes body shared t environment true next s o → (own : KeyValues) → AreEmpty shared.keys own → AreEmpty (shared_moved tid o shared).keys (named_data o.named own)
  unfolding shared_after
  named_empty (key_made frame result key destructor k among) own empty place none = empty place (none_made shared.keys (key_place k) k destructor (slice_get shared.keys (key_place k)) place none)
  named_empty (key_deleted frame key named) own empty place none =
      let at : ℕ = key_place (value_of shared.globals frame key) in
      elim (none_deleted shared.keys at (slice_get shared.keys at) place none) [
        | inl before ↦ cleared shared.keys at own empty place before
        | inr same ↦ subst (λ (j : ℕ). (value_at j (without_value at own) ≡ 0) × (get_or (without_value at own).in_pass j false ≡ false)) same (default_set own.values at 0, default_set own.in_pass at false)
      ]
  named_empty _ own empty place none = empty place none

  -- the data of a thread that acts, or of another one, after a transition
  pub empty_after : {body : List Stmt} {next : NextStatement} {s : Status} {o : Transition} → TransitionCase passes body shared t environment true next s o → (own : KeyValues) (acts : Bool) → AreEmpty shared.keys own → AreEmpty (shared_moved tid o shared).keys (named_data o.named (cond acts (own_data o.own own) own))
  empty_after {o = o} c own true empty = named_empty c (own_data o.own own) (own_empty c own empty)
  empty_after c own false empty = named_empty c own empty
