-- A transition that fits a process: each of its parts fits the process as the parts before it left it.
use Rattle.pct_names.proofs.Names.{◌&&◌, [], All, All-head, and_from, ap, arith, Bool, cases_eq, cases_lt, cond, false, filter, find}
use Rattle.pct_names.proofs.Names.{get_or_past, has_valid_id, holds_slot, IfSome, inl, inr, is_ended_status, length, length-map, List, map}
use Rattle.pct_names.proofs.Names.{moved, named_after, NamedAction, nat_eq, None, none-some, Option, option_and_then, refl, same_Some}
use Rattle.pct_names.proofs.Names.{shared_moved, SharedAction, SharedState, slice_get, slice_get-get_or, slice_set, slot_of, Some, subst}
use Rattle.pct_names.proofs.Names.{suc, sym, Thread, Transition, true, zero, ℕ, ◌∙◌, ◌∷◌, ◌≡◌, ◌≢◌, ◌≤◌}
use Rattle.std.proofs.Common.{ne_eqb, eq-eqb}
use Rattle.pct_model.specs.declared.state.OnceState.{OnceState}
use Rattle.pct_model.specs.declared.transition.NamedAction.TheVariants as named_action
use Rattle.pct_model.specs.declared.transition.SharedAction.TheVariants as shared_action
use Rattle.pct_engine_laws.specs.Seen.{SeenSlot, on_slot, slot_after}
use Rattle.pct_engine_laws.specs.SeenSteps.{thread_on, thread_with}
use Rattle.pct_engine_laws.proofs.ThreadChanges.{on_thread, on_thread_keeps, named_keeps, transition_keeps_id}
use Rattle.pct_process.specs.ProcessViews.{first_of, slot_on, thread_on_slot, ProcessData}
use Rattle.pct_actions.specs.ProcessChanges.{IsOnSlot, AreOnSlots, Makes, NamedFits, SharedFits}
use Rattle.pct_actions.specs.ProcessParts.{slot_changed, others_made, own_made, OthersFit, OwnFits}
use Rattle.pct_actions.proofs.ChangedSlots.{change_after, changed_here, on_slot-here, on_slots_kept, one_changed}

-- ---- the thread that makes it

one_here : (t : Thread) (here : List Thread) → first_of here ≡ Some t → length here ≤ 1 → here ≡ t ∷ []
one_here t [] first few = absurd (none-some t first)
one_here t (u ∷ []) first few = ap (λ (x : Thread). x ∷ []) (same_Some u t first)
one_here t (u ∷ v ∷ rest) first few = absurd (omega (arith, few))

-- it is alone on its slot
pub alone_on : (slots : List SeenSlot) → All (λ (s : SeenSlot). length s.here ≤ 1) slots → (k : ℕ) (t : Thread) → thread_on_slot slots k ≡ Some t → slice_get slots k ≡ Some (record { made = (slot_on slots k).made; here = t ∷ [] })
alone_on slots single k t here =
    elim (cases_lt k (length slots)) [
      | inl inside ↦
          slice_get-get_or slots k _ inside
          ∙ ap (λ (ts : List Thread). Some (record { made = (slot_on slots k).made; here = ts })) (one_here t (slot_on slots k).here here (single k (record { made = 0; here = [] }) inside))
      | inr past ↦ absurd (none-some t (sym (ap (λ (s : SeenSlot). first_of s.here) (get_or_past slots k _ past)) ∙ here))
    ]

-- what the threads share fits the action on it with other globals and once controls too
shared_kept : (a : Option SharedAction) (s : SharedState) (globals : List ℕ) (onces : List OnceState) → SharedFits a s → SharedFits a (record s { globals = globals; onces = onces })
shared_kept (Some (shared_action.MakeKey k destructor)) s globals onces fits = fits
shared_kept (Some (shared_action.AddForkHandlers handlers)) s globals onces fits = fits
shared_kept (Some (shared_action.AddExit f)) s globals onces fits = fits
shared_kept _ s globals onces fits = tt

-- ---- after the thread's own part

module _ (slot : ℕ) (o : Transition) (p : ProcessData) (needs : Makes slot o p) (made : ℕ) (alone : slice_get p.slots slot ≡ Some (record { made = made; here = needs.thread ∷ [] })) where
  abbrev t : Thread
  t = needs.thread

  abbrev s : SeenSlot
  s = record { made = made; here = t ∷ [] }

  abbrev change : SeenSlot → SeenSlot
  change = slot_changed (moved o)

  abbrev after : List SeenSlot
  after = on_slot slot change p.slots

  -- its own part fits it
  pub own_fits : OwnFits slot o p
  own_fits = record { made = made; thread = t; here = alone; fits = needs.fits; keys = needs.keys }

  -- the process with the part is that with the part of its thread
  own_is_all : after ≡ map (slot_changed (on_thread t.id (moved o))) p.slots
  own_is_all =
      let placed : IsOnSlot (length p.slots) slot t = All-head (IsOnSlot (length p.slots) slot) t [] (needs.on_slots slot s alone) in
      let live : has_valid_id t.id t ≡ true = and_from (nat_eq t.id t.id) (holds_slot t) (eq-eqb t.id t.id refl) placed.holds in
      on_slot-here slot p.slots s alone change
      ∙ sym (ap (λ (b : Bool). slice_set p.slots slot (record { made = made; here = filter holds_slot (cond b (moved o t) t ∷ []) })) live)
      ∙ sym (on_slot-here slot p.slots s alone (slot_changed (on_thread t.id (moved o))))
      ∙ one_changed p.slots needs.on_slots (on_thread t.id (moved o)) t.id (λ x other. ap (λ (b : Bool). cond (b && holds_slot x) (moved o x) x) other) slot s (sym placed.on) alone

  same_length : length after ≡ length p.slots
  same_length = ap length own_is_all ∙ length-map p.slots (slot_changed (on_thread t.id (moved o)))

  other_slot : {A : Type 0} (xs : List A) (i j : ℕ) (x : A) → j ≢ i → slice_get (slice_set xs i x) j ≡ slice_get xs j
  other_slot [] i j x differs = refl
  other_slot (y ∷ xs) zero zero x differs = absurd (differs refl)
  other_slot (y ∷ xs) zero (suc j) x differs = refl
  other_slot (y ∷ xs) (suc i) zero x differs = refl
  other_slot (y ∷ xs) (suc i) (suc j) x differs = other_slot xs i j x (λ same. differs (ap suc same))

  -- another thread stays, or is not found on the slot
  other_stays : (P : Thread → Type 0) (id : ℕ) → id ≢ t.id → IfSome (thread_with (length p.slots) id p.slots) P → IfSome (thread_with (length after) id after) P
  other_stays P id other was =
      subst (λ (n : ℕ). IfSome (thread_with n id after) P) (sym same_length)
      (elim (cases_eq (slot_of (length p.slots) id) slot) [
        | inl same ↦
            subst (λ (found : Option Thread). IfSome found P) (sym (ap (λ (k : ℕ). option_and_then (thread_on id) (slice_get after k)) same ∙ ap (option_and_then (thread_on id)) (changed_here slot p.slots s alone change) ∙ gone (holds_slot (moved o t)))) tt
        | inr differs ↦
            subst (λ (found : Option SeenSlot). IfSome (option_and_then (thread_on id) found) P) (sym (ap (λ (xs : List SeenSlot). slice_get xs (slot_of (length p.slots) id)) (on_slot-here slot p.slots s alone change) ∙ other_slot p.slots slot (slot_of (length p.slots) id) (change s) differs)) was
      ])
    where
      gone : (b : Bool) → find (λ x. nat_eq x.id id) (cond b (moved o t ∷ []) []) ≡ None
      gone true = ap (λ (d : Bool). cond d (Some (moved o t)) None) (ne_eqb (moved o t).id id (λ same. other (sym same ∙ transition_keeps_id o t)))
      gone false = refl

  named_kept : (a : Option NamedAction) → NamedFits t.id a p.slots → NamedFits t.id a after
  named_kept (Some (named_action.EndJoin id)) fits = (fits.0, other_stays (λ t. is_ended_status t.status ≡ true) id fits.0 fits.1)
  named_kept _ fits = tt

  -- the other actions fit the process
  pub others_fit : OthersFit o (own_made t.id slot o p)
  others_fit = record {
    on_slots = subst AreOnSlots (sym own_is_all) (on_slots_kept p.slots needs.on_slots (on_thread t.id (moved o)) (on_thread_keeps t.id (moved o) (transition_keeps_id o)));
    tid = t.id;
    shared = shared_kept o.shared p.shared (own_made t.id slot o p).shared.globals (own_made t.id slot o p).shared.onces needs.shared;
    named = named_kept o.named needs.named;
    forgets = needs.forgets;
  }

  -- and after them it is that of the transition, but for the thread that it creates
  pub parts_made : others_made o (own_made t.id slot o p) ≡ record { slots = map (slot_after t.id o) p.slots; shared = shared_moved t.id o p.shared }
  parts_made =
      (λ i. record { slots = map (slot_changed (named_after o.named)) (own_is_all i); shared = shared_moved t.id o p.shared })
      ∙ ap (λ (slots : List SeenSlot). record { slots = slots; shared = shared_moved t.id o p.shared }) (change_after (on_thread t.id (moved o)) (named_after o.named) (named_keeps o.named) p.slots)
