-- What each transition does with the owners of mutexes, by the tables: it sets those that its events report, a mutex that it acquires has
-- no owner before, and one that it releases is owned by its thread.
use Rattle.pct_names.proofs.Names.{◌++◌, ◌<◌, [], and_from, ap, ap₂, Bool, cond, cond_timedwait_point, cond_wait_point, encode, Entry}
use Rattle.pct_names.proofs.Names.{Environment, eqb-false, Event, event_of, false, Frame, length, List, map, nat_eq, NextStatement, owns}
use Rattle.pct_names.proofs.Names.{refl, reverse, Script, shared_after, shared_moved, SharedState, slice_index, slice_set, Status, Stmt}
use Rattle.pct_names.proofs.Names.{subst, sym, syntax_of, Thread, Transition, true, What, ℕ, ◌∙◌, ◌∷◌, ◌≡◌}
use Rattle.std.proofs.Common.{eqb-true}
use Rattle.std.proofs.lemmas.List.{get_or-set_same, get_or-set_other, length-set}
use Rattle.pct_model.specs.declared.event.What.TheVariants as what
use Rattle.pct_model.specs.declared.state.Cause.TheVariants as cause
use Rattle.pct_laws.specs.Each.{each}
use Rattle.pct_laws.specs.CondLaw.{owners_allow}
use Rattle.pct_laws.specs.Kept.{IsSuspendedAt}
use Rattle.pct_laws.specs.MutexOwners.{owner_after, owner_of}
use Rattle.pct_transition_cases.proofs.PlacedStatements.{IsPlaced}
use Rattle.pct_transition_cases.proofs.TransitionCases.{TransitionCase, mutex_locked, mutex_unlocked, wait_begun, timed_wait_begun}
use Rattle.pct_transition_cases.proofs.TransitionCases.{wait_ended, timed_wait_ended, wait_timed_out, ended_in_wait, fork_handler_called}
use Rattle.pct_thread_invariants.proofs.lift.HandlerEvents.{of_each_phase}
use Rattle.pct_thread_invariants.proofs.thread.NamedWords.{names_there}
use Rattle.pct_thread_invariants.proofs.thread.ThreadRule.{in_wait}
use Rattle.pct_thread_invariants.proofs.lift.ReportedBy.{Reading, reported_by, is_reading, after_own, own_after}
use Rattle.pct_cancel_laws.proofs.owners.NamedMutexes.{IsMutex, reacquired_mutex}

-- ---- what is reported

-- the owner of a mutex: a process begins with the owner in the process that forked
abbrev pub owner : ℕ → Reading ℕ
owner m = record { start = λ initial. 0; next = λ e k. owner_after m e.tid e.what k; inherits = λ e. true; born = λ parent k. parent }

pub owner_reading : (m pid : ℕ) (events : List Event) → owner_of pid m events ≡ reported_by (owner m) pid events
owner_reading m = is_reading (owner m) (λ pid events. owner_of pid m events) (λ pid. refl) (λ pid e earlier. refl)

-- ---- owners

-- a list of owners with a new one
owner_set : (owners : List ℕ) (m id n : ℕ) → m < length owners → slice_index (slice_set owners m id) n ≡ cond (nat_eq m n) id (slice_index owners n)
owner_set owners m id n within = by_mutex (nat_eq m n) refl
  where
    by_mutex : (same : Bool) → nat_eq m n ≡ same → slice_index (slice_set owners m id) n ≡ cond same id (slice_index owners n)
    by_mutex true same = subst (λ (i : ℕ). slice_index (slice_set owners m id) i ≡ id) (eqb-true m n same) (get_or-set_same owners m id 0 within)
    by_mutex false differs = get_or-set_other owners m n id 0 (λ same. eqb-false m n differs (sym same))

-- each mutex of a script has an owner, the one that is reported
pub record OwnersFit (script : Script) (owners : List ℕ) (reported : ℕ → ℕ) : Type 0 where
  pub places : length owners ≡ length script.mutexes
  pub same : (m : ℕ) → slice_index owners m ≡ reported m

-- ---- the tables

module _ (script : Script) (passes : ℕ) (shared : SharedState) (t : Thread) (environment : Environment) (e : Entry) (is_own : t.id ≡ e.tid) where
  module _ (reported : ℕ → ℕ) (fits : OwnersFit script shared.owners reported) where
    set_fits : (m : ℕ) → IsMutex script m → (id tid : ℕ) → id ≡ tid → OwnersFit script (slice_set shared.owners m id) (λ n. cond (nat_eq m n) tid (reported n))
    set_fits m within id tid is = record {
      places = length-set shared.owners m id ∙ fits.places;
      same = λ n. owner_set shared.owners m id n (subst (λ (count : ℕ). m < count) (sym fits.places) within) ∙ ap₂ (cond (nat_eq m n)) is (fits.same n);
    }

    -- the owners after a transition
    pub case_fits : {frames : List Frame} {body : List Stmt} {next : NextStatement} {s : Status} {o : Transition}
        → IsPlaced script frames body next → IsSuspendedAt next s → TransitionCase passes body shared t environment true next s o
        → OwnersFit script (shared_moved e.tid o shared).owners (λ m. after_own (owner m) (map (event_of e) (reverse o.events)) (reported m))
    unfolding shared_after encode syntax_of
    case_fits placed at (mutex_locked frame m free) = set_fits m (names_there script placed).0 t.id e.tid is_own
    case_fits placed at (mutex_unlocked frame m is) = set_fits m (names_there script placed).0 0 0 refl
    case_fits placed at (wait_begun frame c m is one unasked) = set_fits m (names_there script placed).1.0 0 0 refl
    case_fits placed at (timed_wait_begun frame result c m is one unasked) = set_fits m (names_there script placed).1.1.0 0 0 refl
    case_fits {next = next} placed at (wait_ended frame _ _ c m why woken free) = set_fits m (reacquired_mutex script c m next placed (in_wait next c m why at)) t.id e.tid is_own
    case_fits {next = next} placed at (timed_wait_ended frame result _ _ c m why woken free) = set_fits m (reacquired_mutex script c m next placed (in_wait next c m why at)) t.id e.tid is_own
    case_fits {next = next} placed at (wait_timed_out frame result _ _ c m free) = set_fits m (reacquired_mutex script c m next placed (in_wait next c m cause.TimedOut at)) t.id e.tid is_own
    case_fits placed at (ended_in_wait next c m free) = set_fits m (reacquired_mutex script c m next placed at) t.id e.tid is_own
    case_fits placed at (fork_handler_called next values call is) = of_each_phase (λ (w : What). OwnersFit script shared.owners (λ m. owner_after m e.tid w (reported m))) call.func fits fits fits values.phase
    case_fits placed at _ = fits

  module _ (earlier : List Event) (fits : OwnersFit script shared.owners (λ m. reported_by (owner m) e.pid earlier)) where
    -- the owner of a mutex, after the earlier events and some of the transition that do not change it
    owned : (m id : ℕ) (added : List What) → after_own (owner m) (map (event_of e) added) (reported_by (owner m) e.pid earlier) ≡ reported_by (owner m) e.pid earlier
        → owns id m shared ≡ true → nat_eq (owner_of e.pid m (map (event_of e) added ++ earlier)) id ≡ true
    owned m id added same is =
        ap (λ n. nat_eq n id) (owner_reading m e.pid (map (event_of e) added ++ earlier) ∙ own_after (owner m) e earlier added ∙ same ∙ sym (fits.same m)) ∙ is

    own_id : (m : ℕ) (added : List What) → after_own (owner m) (map (event_of e) added) (reported_by (owner m) e.pid earlier) ≡ reported_by (owner m) e.pid earlier → owns t.id m shared ≡ true → nat_eq (owner_of e.pid m (map (event_of e) added ++ earlier)) e.tid ≡ true
    own_id m added same is = subst (λ (id : ℕ). nat_eq (owner_of e.pid m (map (event_of e) added ++ earlier)) id ≡ true) is_own (owned m t.id added same is)

    -- the law after the events of a transition
    pub case_lawful : {body : List Stmt} {next : NextStatement} {s : Status} {o : Transition} → TransitionCase passes body shared t environment true next s o
        → each owners_allow earlier ≡ true → each owners_allow (map (event_of e) (reverse o.events) ++ earlier) ≡ true
    case_lawful (mutex_locked frame m free) law = and_from _ _ (owned m 0 [] refl (free refl)) law
    case_lawful (mutex_unlocked frame m is) law = and_from _ _ (own_id m [] refl is) law
    case_lawful (wait_begun frame c m is one unasked) law = and_from _ _ (own_id m (what.Called cond_wait_point ∷ []) refl is) law
    case_lawful (timed_wait_begun frame result c m is one unasked) law = and_from _ _ (own_id m (what.Called cond_timedwait_point ∷ []) refl is) law
    case_lawful (wait_timed_out frame result _ _ c m free) law = and_from _ _ (owned m 0 [] refl (free refl)) law
    case_lawful (timed_wait_ended frame result _ _ c m why woken free) law = and_from _ _ (owned m 0 [] refl (free refl)) law
    case_lawful (wait_ended frame _ _ c m why woken free) law = and_from _ _ (owned m 0 [] refl (free refl)) law
    case_lawful (ended_in_wait next c m free) law = and_from _ _ (owned m 0 [] refl (free refl)) law
    case_lawful (fork_handler_called next at call is) law = of_each_phase (λ (w : What). each owners_allow (event_of e w ∷ earlier) ≡ true) call.func law law law at.phase
    case_lawful _ law = assumption
