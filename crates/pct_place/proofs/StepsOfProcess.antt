-- A transition that an entry takes fits the process.
use Rattle.pct_names.proofs.Names.{Alt, Config, false≢true, Family, has_timeouts, is_some, length, None, Option, refl, Script, Some, subst}
use Rattle.pct_names.proofs.Names.{sym, Thread, Transition, true, ℕ, ◌≡◌}
use Rattle.pct_engine_laws.specs.Fitting.{Fits}
use Rattle.pct_names.proofs.Names.{ap, Bool, cond, Entry, List, offers, option_and_then, option_map, same_Some, ◌∙◌}
use Rattle.pct_engine_laws.specs.Seen.{SeenSlot, SeenProcess}
use Rattle.pct_engine_laws.specs.SeenSteps.{thread_with, choices_in, transition_in, if_offered_in}
use Rattle.pct_process.specs.ProcessViews.{thread_on_slot, HoldsThread, ProcessData}
use Rattle.pct_transitions.specs.ProcessSteps.{with_data, Takes}
use Rattle.pct_actions.specs.ProcessChanges.{AreOnSlots, Makes}
use Rattle.pct_place.specs.ProcessSteps.{CanStep, data_in, taken_in}
use Rattle.pct_place.proofs.HeldSlots.{held_by}
use Rattle.pct_place.proofs.FittingTransitions.{taken_fits}

-- the thread that holds a slot
pub thread_of : (o : Option Thread) → is_some o ≡ true → (t : Thread) × (o ≡ Some t)
thread_of None some = absurd (false≢true some)
thread_of (Some t) some = (t, refl)

module _ (script : Script) (config : Config) (family : Family) (d : ProcessData) (choice : Alt) (slot : ℕ) (o : Transition) where
  -- the transition of a choice that is offered fits the process
  pub makes : AreOnSlots d.slots → is_some (thread_on_slot d.slots slot) ≡ true → ((t : Thread) → thread_on_slot d.slots slot ≡ Some t → Takes script config family d t choice true o) → ((t : Thread) → thread_on_slot d.slots slot ≡ Some t → true ≡ true → Fits (length t.frames) (length t.handlers) t.pass o.own) → Makes slot o d
  makes placed some takes fits =
      let t = thread_of (thread_on_slot d.slots slot) some in
      let is : o ≡ transition_in script (has_timeouts config.format) (length d.slots) config.passes family (with_data d) t.0 choice = (takes t.0 t.1).taken refl in
      subst (λ (x : Transition). Makes slot x d) (sym is)
      (taken_fits script (has_timeouts config.format) config.passes family d slot t.0 choice placed t.1 (subst (λ (x : Transition). Fits (length t.0.frames) (length t.0.handlers) t.0.pass x.own) is (fits t.0 t.1 refl)) (takes t.0 t.1).offered_is)

-- the thread on a slot holds it
pub holds_on : (slots : List SeenSlot) (on : AreOnSlots slots) (slot tid : ℕ) (t : Thread) → thread_on_slot slots slot ≡ Some t → tid ≡ t.id → HoldsThread (thread_with (length slots) tid slots) (thread_on_slot slots slot)
holds_on slots on slot tid t at named = record {
  same = ap (λ (n : ℕ). thread_with (length slots) n slots) named ∙ (held_by slots on slot t at).1 ∙ sym at;
  some = ap is_some at;
}

-- an id is that of the thread on a slot
pub id_is : (slots : List SeenSlot) (slot tid : ℕ) (t : Thread) → thread_on_slot slots slot ≡ Some t → option_map (λ (u : Thread). u.id) (thread_on_slot slots slot) ≡ Some tid → tid ≡ t.id
id_is slots slot tid t at named = sym (same_Some t.id tid (sym (ap (option_map (λ (u : Thread). u.id)) at) ∙ named))

-- the entry of a thread by a choice that is offered takes its transition
pub taken_on : (script : Script) (config : Config) (family : Family) (p : SeenProcess) (slot : ℕ) (t : Thread) (e : Entry) (o : Transition) → CanStep config.slots p → thread_on_slot p.slots slot ≡ Some t → e.tid ≡ t.id → Takes script config family (data_in p) t e.alt true o → taken_in script config family p e ≡ Some o
taken_on script config family p slot t e o can at named takes =
    let timeouts = has_timeouts config.format in
    ap (option_and_then (if_offered_in script timeouts config.slots config.passes family p e)) (ap (λ (tid : ℕ). thread_with config.slots tid p.slots) named ∙ ap (λ (n : ℕ). thread_with n t.id p.slots) (sym can.all) ∙ (held_by p.slots can.on_slots slot t at).1)
    ∙ ap (λ (n : ℕ). cond (offers (choices_in script timeouts n family p t) e.alt) (Some (transition_in script timeouts n config.passes family p t e.alt)) None) (sym can.all)
    ∙ ap (λ (b : Bool). cond b (Some (transition_in script timeouts (length p.slots) config.passes family p t e.alt)) None) takes.offered_is
    ∙ ap (λ (x : Transition). Some x) (sym (takes.taken refl))
