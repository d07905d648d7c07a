-- What processes have, after an event more: the owners of mutexes, and the states of once controls.
use Rattle.std.proofs.Common.{◌≡◌, ℕ, ◌<◌, ◌^◌, Bool, true, false, cond, refl, ap, ◌∙◌, nat_eq}
use Rattle.std.proofs.lemmas.Bool.{eqb-true}
use Rattle.pct_model.specs.declared.event.Event.{Event}
use Rattle.pct_laws.specs.KnownThreads.{is_in, makes_process}

same_cond : {A : Type 0} (t : Bool) (a : A) → cond t a a ≡ a
same_cond true a = refl
same_cond false a = refl

-- each process q has f q k at each number k; a fork copies, and then the event changes what its own process has
module _ {A : Type 0} (e : Event) (after : ℕ → A → A) (f old middle new : ℕ → ℕ → A)
    (told : (q k : ℕ) → k < 2 ^ 32 → old q k ≡ f q k)
    (first : (q k : ℕ) → middle q k ≡ cond (makes_process q e.what) (old e.pid k) (old q k))
    (second : (q k : ℕ) → k < 2 ^ 32 → new q k ≡ cond (nat_eq e.pid q) (after k (middle q k)) (middle q k)) where
  middle_told : (q k : ℕ) → k < 2 ^ 32 → middle q k ≡ cond (makes_process q e.what) (f e.pid k) (f q k)
  middle_told q k low = first q k ∙ ap (λ (a : A). cond (makes_process q e.what) a (old q k)) (told e.pid k low) ∙ ap (cond (makes_process q e.what) (f e.pid k)) (told q k low)

  by_process : (inside : Bool) (q k : ℕ) → nat_eq e.pid q ≡ inside → k < 2 ^ 32
      → cond inside (after k (middle q k)) (middle q k) ≡ cond inside (after k (f q k)) (cond (makes_process q e.what) (f e.pid k) (f q k))
  by_process true q k is low =
      ap (after k) (middle_told q k low ∙ ap (λ (p : ℕ). cond (makes_process q e.what) (f p k) (f q k)) (eqb-true e.pid q is) ∙ same_cond (makes_process q e.what) (f q k))
  by_process false q k is low = middle_told q k low

  pub processes_told : (q k : ℕ) → k < 2 ^ 32 → new q k ≡ cond (is_in q e) (after k (f q k)) (cond (makes_process q e.what) (f e.pid k) (f q k))
  processes_told q k low = second q k low ∙ by_process (nat_eq e.pid q) q k refl low
