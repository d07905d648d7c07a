-- The states of once controls after a change of one of them or of all, what the events report of them, and the frames of their init
-- routines.
use Rattle.pct_names.proofs.Names.{◌<◌, [], abandoned, ap, arith, Busy, cond, cond_both, count_by, eqb-false, false, false≢true, Frame}
use Rattle.pct_names.proofs.Names.{Fresh, get_or, is_busy, length, List, map, nat_eq, once_at, OnceState, refl, replicate, slice_set, subst}
use Rattle.pct_names.proofs.Names.{suc, sym, true, unwrap_or-slice_get, zero, ℕ, ◌∙◌, ◌∷◌, ◌≡◌}
use Rattle.std.proofs.Common.{eqb-true}
use Rattle.std.proofs.lemmas.List.{get_or-set_same, get_or-set_other}
use Rattle.std.proofs.lemmas.List.Recursion.{is_count_by}
use Rattle.pct_model.specs.declared.event.Event.{Event}
use Rattle.pct_laws.specs.Kept.{is_busy_with, is_routine_of}
use Rattle.pct_laws.specs.OnceControls.{given_up, once_after, once_of}
use Rattle.pct_thread_invariants.proofs.lift.ReportedBy.{Reading, reported_by, is_reading}

-- ---- what is reported

-- the state of a control: a process begins with the state in the process that forked
abbrev pub control : ℕ → Reading OnceState
control o = record { start = λ initial. Fresh; next = λ e k. once_after o e.tid e.what k; inherits = λ e. true; born = λ parent k. parent }

pub control_reading : (o pid : ℕ) (events : List Event) → once_of pid o events ≡ reported_by (control o) pid events
control_reading o = is_reading (control o) (λ pid events. once_of pid o events) (λ pid. refl) (λ pid e earlier. refl)

-- ---- states

-- the state after the thread began to end, as the events report it
pub given_up_is : (id : ℕ) (s : OnceState) → abandoned id s ≡ given_up id s
given_up_is id (Busy n) = refl
given_up_is id _ = refl

pub busy_is : (id : ℕ) (s : OnceState) → is_busy_with id s ≡ true → s ≡ Busy id
busy_is id (Busy n) is = ap (λ (m : ℕ). Busy m) (eqb-true n id is)
busy_is id _ is = absurd (false≢true is)

-- no control is busy with the thread then
pub never_busy : (id : ℕ) (s : OnceState) → is_busy_with id (given_up id s) ≡ false
never_busy id (Busy n) = cond_both (nat_eq n id) Fresh (Busy n) (λ (s : OnceState). is_busy_with id s ≡ false) (λ same. refl) (λ differs. differs)
never_busy id _ = refl

-- and each one that is busy with another thread is so still
pub busy_others : (id other : ℕ) → nat_eq id other ≡ false → (s : OnceState) → is_busy_with other (given_up id s) ≡ is_busy_with other s
busy_others id other differs (Busy n) =
    cond_both (nat_eq n id) Fresh (Busy n) (λ (s : OnceState). is_busy_with other s ≡ nat_eq n other) (λ same. sym (ap (λ (m : ℕ). nat_eq m other) (eqb-true n id same) ∙ differs)) (λ apart. refl)
busy_others id other differs _ = refl

-- ---- states in a list

-- the states with a new one
pub once_set : (onces : List OnceState) (o n : ℕ) (s : OnceState) → o < length onces → once_at (slice_set onces o s) n ≡ cond (nat_eq o n) s (once_at onces n)
once_set onces o n s within =
    unwrap_or-slice_get (slice_set onces o s) n Fresh
    ∙ cond_both (nat_eq o n) s (once_at onces n) (λ (then : OnceState). get_or (slice_set onces o s) n Fresh ≡ then)
    (λ same. subst (λ (i : ℕ). get_or (slice_set onces o s) i Fresh ≡ s) (eqb-true o n same) (get_or-set_same onces o s Fresh within))
    (λ differs. get_or-set_other onces o n s Fresh (λ same. eqb-false o n differs (sym same)) ∙ sym (unwrap_or-slice_get onces n Fresh))

-- the states after each control of a thread was given up
pub once_given_up : (onces : List OnceState) (id n : ℕ) → once_at (map (abandoned id) onces) n ≡ given_up id (once_at onces n)
once_given_up [] id n = refl
once_given_up (s ∷ onces) id zero = given_up_is id s
once_given_up (s ∷ onces) id (suc n) = once_given_up onces id n

-- a control that is busy is one of the list
pub busy_within : (onces : List OnceState) (n id : ℕ) → once_at onces n ≡ Busy id → n < length onces
busy_within [] n id is = absurd (false≢true (ap is_busy is))
busy_within (s ∷ onces) zero id is = omega arith
busy_within (s ∷ onces) (suc n) id is = let below : n < length onces = busy_within onces n id is in omega (arith, below)

-- before the first step each control is fresh
pub all_fresh : (controls n : ℕ) → once_at (replicate controls Fresh) n ≡ Fresh
all_fresh zero n = refl
all_fresh (suc controls) zero = refl
all_fresh (suc controls) (suc n) = all_fresh controls n

-- ---- frames

-- the frames of the init routine of a control
abbrev pub in_routine : ℕ → List Frame → ℕ
in_routine o [] = 0
in_routine o (frame ∷ below) = cond (is_routine_of o frame) (suc (in_routine o below)) (in_routine o below)

pub counted : (o : ℕ) (frames : List Frame) → count_by (is_routine_of o) frames ≡ in_routine o frames
counted o frames = sym (is_count_by (in_routine o) (is_routine_of o) refl (λ frame below. ap (λ (n : ℕ). cond (is_routine_of o frame) n (in_routine o below)) (omega arith)) frames)
