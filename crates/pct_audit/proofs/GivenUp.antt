-- The states of once controls after a thread began to end.
use Rattle.std.proofs.Common.{◌≡◌, ℕ, ◌<◌, ◌^◌, Bool, true, false, ◌&&◌, cond, List, length, Option, Some, None, Result, Ok, Err, refl, sym, ap, ◌∙◌, subst, nat_eq, nat_lt, eq-eqb}
use Rattle.std.specs.Prelude.{OnOk, slice_get}
use Rattle.std.proofs.lemmas.Bool.{eqb-true, lt-ltb}
use Rattle.std.proofs.lemmas.Option.{slice_get_within}
use Rattle.pct_model.specs.declared.state.OnceState.{OnceState}
use Rattle.pct_model.specs.declared.state.OnceState.TheVariants.{Fresh, Busy, Done}
use Rattle.pct_laws.specs.OnceControls.{given_up}
use Rattle.pct_process_maps.specs.declared.process_maps.ProcessMaps.{ProcessMaps}
use Rattle.pct_process_maps.specs.Values.{value_in}
use Rattle.pct_audit.proofs.SameTests.{same_tests}
use Rattle.pct_audit.specs.ControlStates.{AreControls, state_by, state_at}

same_cond : {A : Type 0} (t : Bool) (a : A) → cond t a a ≡ a
same_cond true a = refl
same_cond false a = refl

nat_eq-swap : (a b : ℕ) → nat_eq a b ≡ nat_eq b a
nat_eq-swap a b = same_tests (nat_eq a b) (nat_eq b a) (λ is. eq-eqb b a (sym (eqb-true a b is))) (λ is. eq-eqb a b (sym (eqb-true b a is)))

-- a state that thread t is busy with, in a process where thread tid began to end, or in another one
busy_by : (same ends late : Bool) (t tid index count : ℕ) → nat_eq tid t ≡ ends → nat_lt index count ≡ true → (old : ℕ) → nat_lt index old ≡ late
    → cond (nat_lt index (cond (same && ends) count old)) Fresh (Busy t) ≡ cond same (given_up tid (cond late Fresh (Busy t))) (cond late Fresh (Busy t))
busy_by false ends late t tid index count is low old before = ap (λ (b : Bool). cond b Fresh (Busy t)) before
busy_by true true true t tid index count is low old before = ap (λ (b : Bool). cond b Fresh (Busy t)) low
busy_by true true false t tid index count is low old before = ap (λ (b : Bool). cond b Fresh (Busy t)) low ∙ sym (ap (λ (b : Bool). cond b Fresh (Busy t)) (nat_eq-swap t tid ∙ is))
busy_by true false true t tid index count is low old before = ap (λ (b : Bool). cond b Fresh (Busy t)) before
busy_by true false false t tid index count is low old before = ap (λ (b : Bool). cond b Fresh (Busy t)) before ∙ sym (ap (λ (b : Bool). cond b Fresh (Busy t)) (nat_eq-swap t tid ∙ is))

module _ (states : List OnceState) (indexes ends new : ProcessMaps) (pid tid : ℕ) (kept : AreControls states indexes ends) (count : ℕ) (counts : count ≡ length states)
    (set : (q k : ℕ) → k < 2 ^ 32 → value_in new q k ≡ cond (nat_eq pid q && nat_eq tid k) count (value_in ends q k)) where
  state_told : (q index : ℕ) (found : Option OnceState) → slice_get states index ≡ found
      → state_by (value_in new q) index found ≡ cond (nat_eq pid q) (given_up tid (state_by (value_in ends q) index found)) (state_by (value_in ends q) index found)
  state_told q index None is = sym (same_cond (nat_eq pid q) Fresh)
  state_told q index (Some Fresh) is = sym (same_cond (nat_eq pid q) Fresh)
  state_told q index (Some Done) is = sym (same_cond (nat_eq pid q) Done)
  state_told q index (Some (Busy t)) is =
      ap (λ (n : ℕ). cond (nat_lt index n) Fresh (Busy t)) (set q t (kept.1.1 index t is))
      ∙ busy_by (nat_eq pid q) (nat_eq tid t) (nat_lt index (value_in ends q t)) t tid index count refl
      (lt-ltb index count (subst (λ (n : ℕ). index < n) (sym counts) (slice_get_within states index (Busy t) is))) (value_in ends q t) refl

  -- the controls of the process that are busy with the thread are fresh
  pub given_up_told : (q k : ℕ) → k < 2 ^ 32 → state_at states indexes new q k ≡ cond (nat_eq pid q) (given_up tid (state_at states indexes ends q k)) (state_at states indexes ends q k)
  given_up_told q k low = state_told q (value_in indexes q k) (slice_get states (value_in indexes q k)) refl

pub if_ok : {T E P Q : Type 0} (result : Result T E) → (P → Q) → OnOk result P → OnOk result Q
if_ok (Ok value) f p = f p
if_ok (Err e) f p = tt
