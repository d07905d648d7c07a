-- The choices of a thread that signals a condition variable, or that hands a signal on.
use Rattle.pct_names.proofs.Names.{◌&&◌, ◌<◌, [], All, Alt, Any-from_list_any, ap, arith, false, false≢true, get_or, is_some, length, List}
use Rattle.pct_names.proofs.Names.{list_any, list_any_at, list_any_none, map, nat_eq, None, Option, option_map_or, refl, Some, sym, true}
use Rattle.pct_names.proofs.Names.{Waiter, ℕ, ◌∙◌, ◌∷◌, ◌≡◌, ◌≤◌}
use Rattle.std.proofs.lemmas.Bool.{eqb-true, eq-eqb}
use Rattle.pct_engine_laws.proofs.ListFacts.{any-map, map-map}
use Rattle.pct_set.specs.Slots.{has_slot}
use Rattle.pct_threads.specs.Slots.{Held, Slot, has_id}
use Rattle.pct_threads.specs.Tables.{slot_at, held_at, is_occupied_at}
use Rattle.pct_threads.proofs.TableLemmas.{within-occupied, occupied-test}
use Rattle.pct_step_context.specs.OtherThreads.{id_at, ids_on}
use Rattle.pct_transitions.proofs.ListedChoices.{swapped}

-- the choices that name the waiters, if there are some, are those that name the ids on their slots
pub some_wait : (choose : ℕ → Alt) (listed : List Waiter → List Alt) → ((w : Waiter) (ws : List Waiter) → listed (w ∷ ws) ≡ map (λ waiter. choose waiter.id) (w ∷ ws))
    → (threads : List Slot) (waiting : List ℕ) (waiters : List Waiter) → 0 < length waiting → ids_on threads waiting ≡ map (λ waiter. waiter.id) waiters → map choose (ids_on threads waiting) ≡ listed waiters
some_wait choose listed some threads [] waiters more is = absurd (omega (arith, more))
some_wait choose listed some threads (s ∷ waiting) [] more is = absurd cc
some_wait choose listed some threads (s ∷ waiting) (w ∷ ws) more is = ap (map choose) is ∙ map-map choose (λ (waiter : Waiter). waiter.id) (w ∷ ws) ∙ sym (some w ws)

-- ---- the ids on some slots

id_by : (id : ℕ) (here : Option Held) → is_some here ≡ true → nat_eq id (option_map_or (λ h. h.id) here 0) ≡ option_map_or (λ h. nat_eq h.id id) here false
id_by id None held = absurd (false≢true held)
id_by id (Some h) held = swapped id h.id

module _ (threads : List Slot) (set : List ℕ) (id : ℕ) where
  -- the thread on a slot of the set has the id
  pub id_among : (slot : ℕ) → has_slot set slot ≡ true → has_id id (slot_at threads slot) ≡ true → list_any (nat_eq id) (ids_on threads set) ≡ true
  unfolding has_slot
  id_among slot in_set has =
      let at = Any-from_list_any (λ s. nat_eq s slot) set in_set in
      let same : at.1 ≡ slot = eqb-true at.1 slot at.4 in
      any-map (nat_eq id) (id_at threads) set
      ∙ list_any_at (λ s. nat_eq id (id_at threads s)) set at.0 at.1 at.2
      (ap (λ s. nat_eq id (id_at threads s)) (at.3 ∙ same) ∙ id_by id (held_at threads slot) (occupied-test (λ h. nat_eq h.id id) (held_at threads slot) has) ∙ has)

  -- no thread on a slot of the set has it
  pub id_not_among : (n : ℕ) → length threads ≤ n → All (λ s. is_occupied_at threads s ≡ true) set → ((s : ℕ) → s < n → (has_slot set s && has_id id (slot_at threads s)) ≡ false) → list_any (nat_eq id) (ids_on threads set) ≡ false
  unfolding has_slot
  id_not_among n whole held none =
      any-map (nat_eq id) (id_at threads) set
      ∙ list_any_none (λ s. nat_eq id (id_at threads s)) set (λ k d inside.
      let s : ℕ = get_or set k d in
      let here : is_occupied_at threads s ≡ true = held k d inside in
      let in_set : list_any (λ x. nat_eq x s) set ≡ true = list_any_at (λ x. nat_eq x s) set k d inside (eq-eqb s s refl) in
      id_by id (held_at threads s) here ∙ ap (λ b. b && has_id id (slot_at threads s)) (sym in_set) ∙ none s (omega (arith, whole, within-occupied threads s here)))
