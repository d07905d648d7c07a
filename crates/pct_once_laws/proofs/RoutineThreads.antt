-- The controls of a process and the frames of its threads: each step keeps that a thread which does not exit its process is in the routines
-- of the controls that are busy with it.
use Rattle.pct_names.proofs.Names.{◌++◌, [], and_left, ap, Bool, cases_eq, changed, child_of, cond, cond_some, Config, Entry, eqb-false}
use Rattle.pct_names.proofs.Names.{Event, event_of, false, false_from_ne_true, false≢true, find, first_process, Frame, Fresh, has_no_frame}
use Rattle.pct_names.proofs.Names.{has_valid_id, holds_slot, inherited, inl, inr, is_some, length, length-replicate, List, map, moved}
use Rattle.pct_names.proofs.Names.{nat_eq, NewThread, None, none-some, once_at, OnceState, Option, option_map, Process, refl, replica_of}
use Rattle.pct_names.proofs.Names.{reverse, same_Some, Script, SharedState, Some, Status, subst, sym, Thread, thread_moved, thread_with}
use Rattle.pct_names.proofs.Names.{Transition, transition_by, true, World, ℕ, ◌∙◌, ◌≡◌}
use Rattle.std.proofs.Common.{eqb-true, ne_eqb}
use Rattle.std.proofs.lemmas.Bool.{true≢false}
use Rattle.pct_laws.specs.Each.{each}
use Rattle.pct_laws.specs.Kept.{is_busy_with, is_exiting}
use Rattle.pct_laws.specs.OnceControls.{once_of}
use Rattle.pct_laws.specs.OnceLaw.{allows}
use Rattle.pct_transition_cases.proofs.PlacedStatements.{is_placed}
use Rattle.pct_thread_invariants.proofs.lift.ChangedThreads.{changed_shared, either_keeps, moved_flags, named_keeps, same_settled}
use Rattle.pct_thread_invariants.proofs.lift.CreatedThreads.{Forks}
use Rattle.pct_thread_invariants.proofs.lift.InheritedThreads.{each_heir}
use Rattle.pct_thread_invariants.proofs.lift.KeyedLists.{found_passes, item_changed}
use Rattle.pct_thread_invariants.proofs.lift.MadeThreads.{HasValidId}
use Rattle.pct_thread_invariants.proofs.lift.MovedThreads.{case_of_step}
use Rattle.pct_thread_invariants.proofs.lift.ReportedBy.{after_own}
use Rattle.pct_thread_invariants.proofs.lift.ThreadsAfter.{initial_thread, created_thread, Moves, mover, After, was_made, is_new, is_absent, after}
use Rattle.pct_once_laws.proofs.OnceStates.{control, all_fresh, in_routine}
use Rattle.pct_once_laws.proofs.OnceTransitions.{exits, once_if, InRoutines, OnceChange, case_changes}

-- ---- the rule

-- what the rule sees of a thread
abbrev pub view : Thread → ℕ × Bool × Bool × List Frame
view t = (t.id, t.gone, exits t, t.frames)

-- a thread that its process inherited and that does not exit it is in the routines of the controls that are busy with it
abbrev pub InIts : List OnceState → ℕ × Bool × Bool × List Frame → Type 0
InIts onces v = v.1 ≡ false → v.2 ≡ false → (n : ℕ) → in_routine n v.3 ≡ once_if v.0 (once_at onces n)

-- the threads and the once controls of a process, and the states that are reported
pub record ControlsFit (script : Script) (threads : List Thread) (onces : List OnceState) (reported : ℕ → OnceState) : Type 0 where
  pub controls : length onces ≡ length script.onces
  pub states : (n : ℕ) → once_at onces n ≡ reported n
  pub made : (n id : ℕ) → is_busy_with id (once_at onces n) ≡ true → is_some (find (λ t. nat_eq t.id id) threads) ≡ true
  pub routines : (id : ℕ) (t : Thread) → find (λ t. nat_eq t.id id) threads ≡ Some t → InIts onces (view t)

-- what is known of the step of an entry: that it moves thread t, that this has no frame by its status, and that it exits its process after the
-- step if it did before
pub record MovesInRoutines (script : Script) (config : Config) (w : World) (p : Process) (e : Entry) (t : Thread) : Type 0 where
  pub moves : Moves script config w p e t
  pub no_frame : has_no_frame t.status ≡ true → t.frames ≡ []
  pub exits_on : exits t ≡ true → exits (moved (transition_by script config w p t e.alt) t) ≡ true

-- ---- threads

-- a thread after a transition of the one with an id, if it is that one or not
moved_view : (tid : ℕ) (o : Transition) (t : Thread) (live : Bool) → has_valid_id tid t ≡ live → view (cond live (moved o t) t) ≡ view (thread_moved tid o t)
moved_view tid o t live is =
    ap (λ (b : Bool). view (cond b (moved o t) t)) (sym is)
    ∙ sym (named_keeps view (λ t j p d k s same. ap (λ (b : Bool). (t.id, t.gone, b, t.frames)) (same_settled (λ s. is_exiting s t.frames) (λ c m why. refl) s t.status same)) o.named (cond (has_valid_id tid t) (moved o t) t))

-- ---- a step

module _ (script : Script) (config : Config) where
  module _ (w : World) (p : Process) (e : Entry) (t : Thread) (it : MovesInRoutines script config w p e t) (reported : ℕ → OnceState) (fits : ControlsFit script p.threads p.shared.onces reported) where
    abbrev o : Transition
    o = transition_by script config w p t e.alt

    mover_is : HasValidId p e.tid t
    mover_is = mover script config w p e t it.moves

    inside : exits t ≡ false → InRoutines script p.shared t e mover_is.number fits.controls
    inside alive n = fits.routines e.tid t mover_is.found mover_is.here alive n ∙ ap (λ (id : ℕ). once_if id (once_at p.shared.onces n)) mover_is.number

    change : OnceChange script p.shared t e mover_is.number fits.controls o
    change =
        case_changes script p.shared t e mover_is.number fits.controls (is_placed script t.frames) it.no_frame inside
        (λ goes. inside (false_from_ne_true (exits t) (λ exited. false≢true (sym goes ∙ it.exits_on exited)))) (case_of_step script config w p e t it.moves)

    -- the controls after the step
    abbrev onces : List OnceState
    onces = (changed e.tid o p).shared.onces

    state : (n : ℕ) → once_at onces n ≡ change.becomes n (once_at p.shared.onces n)
    state n = ap (λ (s : SharedState). once_at s.onces n) (changed_shared e.tid o p) ∙ change.state n

    -- a control is busy with another thread only if it was before
    others : (n id : ℕ) → nat_eq e.tid id ≡ false → is_busy_with id (once_at onces n) ≡ is_busy_with id (once_at p.shared.onces n)
    others n id differs = ap (is_busy_with id) (state n) ∙ change.others n id differs

    -- a thread of the process was made before, or by the step
    still_made : (id : ℕ) → is_some (thread_with id p) ≡ true → is_some (thread_with id (changed e.tid o p)) ≡ true
    still_made id made = by (after script config w p e t it.moves id)
      where
        by : {found : Option Thread} → After script config w p e t it.moves id found → is_some found ≡ true
        by (was_made u is none) = refl
        by (is_new new is makes named) = refl
        by (is_absent is none) = absurd (false≢true (ap is_some (sym is) ∙ made))

    made_after : (n id : ℕ) → is_busy_with id (once_at onces n) ≡ true → is_some (thread_with id (changed e.tid o p)) ≡ true
    made_after n id busy = still_made id (elim (cases_eq e.tid id) [
      | inl same ↦ ap is_some (ap (λ (m : ℕ). thread_with m p) (sym same) ∙ mover_is.found)
      | inr differs ↦ fits.made n id (sym (others n id (ne_eqb e.tid id differs)) ∙ busy)
    ])

    -- a thread that was made before
    moved_fits : (id : ℕ) (u : Thread) → thread_with id p ≡ Some u → (same : Bool) → nat_eq e.tid id ≡ same → InIts onces (view (thread_moved e.tid o u))
    moved_fits id u is true same =
        let it_is : t ≡ u = same_Some t u (sym mover_is.found ∙ ap (λ (m : ℕ). thread_with m p) (eqb-true e.tid id same) ∙ is) in
        let own_id : (moved o t).id ≡ e.tid = ap (λ (f : ℕ × Bool × Bool × Bool). f.0) (moved_flags o t) ∙ mover_is.number in
        subst (λ (x : Thread). InIts onces (view (thread_moved e.tid o x))) it_is
        (subst (InIts onces) (moved_view e.tid o t true mover_is.valid) (λ here alive n. change.frames alive n ∙ ap (once_if e.tid) (sym (state n)) ∙ ap (λ (m : ℕ). once_if m (once_at onces n)) (sym own_id)))
    moved_fits id u is false differs =
        let named : u.id ≡ id = eqb-true u.id id (found_passes (λ (x : Thread). nat_eq x.id id) p.threads u is) in
        let apart : nat_eq e.tid u.id ≡ false = ap (nat_eq e.tid) named ∙ differs in
        subst (InIts onces) (moved_view e.tid o u false (and_left (nat_eq u.id e.tid) (holds_slot u) (ne_eqb u.id e.tid (λ same. eqb-false e.tid u.id apart (sym same)))))
        (λ here alive n. fits.routines id u is here alive n ∙ ap (λ (b : Bool). cond b 1 0) (sym (others n u.id apart)))

    -- a new thread is in no routine, and no control is busy with it
    created_fits : (id : ℕ) (new : NewThread) → thread_with id p ≡ None → nat_eq new.id id ≡ true → InIts onces (view (created_thread new))
    created_fits id new absent named here alive n =
        let number : new.id ≡ id = eqb-true new.id id named in
        let apart : nat_eq e.tid new.id ≡ false = ne_eqb e.tid new.id (λ same. none-some t (sym absent ∙ ap (λ (m : ℕ). thread_with m p) (sym (same ∙ number)) ∙ mover_is.found)) in
        ap (λ (b : Bool). cond b 1 0) (sym (others n new.id apart ∙ false_from_ne_true (is_busy_with new.id (once_at p.shared.onces n)) (λ busy.
        false≢true (ap is_some (sym (ap (λ (m : ℕ). thread_with m p) number ∙ absent)) ∙ fits.made n new.id busy))))

    routines_after : (id : ℕ) (u : Thread) → thread_with id (changed e.tid o p) ≡ Some u → InIts onces (view u)
    routines_after id u found = by (after script config w p e t it.moves id) found
      where
        by : {x : Option Thread} → After script config w p e t it.moves id x → x ≡ Some u → InIts onces (view u)
        by (was_made v is none) same = subst (λ (x : Thread). InIts onces (view x)) (same_Some (thread_moved e.tid o v) u same) (moved_fits id v is (nat_eq e.tid id) refl)
        by (is_new new is makes named) same = subst (λ (x : Thread). InIts onces (view x)) (same_Some (created_thread new) u same) (created_fits id new is named)
        by (is_absent is none) same = absurd (none-some u same)

    pub fit_after : ControlsFit script (changed e.tid o p).threads onces (λ n. after_own (control n) (map (event_of e) (reverse o.events)) (reported n))
    fit_after = record {
      controls = ap (λ (s : SharedState). length s.onces) (changed_shared e.tid o p) ∙ change.count ∙ fits.controls;
      states = λ n. state n ∙ ap (change.becomes n) (fits.states n) ∙ sym (change.reads n (reported n));
      made = made_after;
      routines = routines_after;
    }

    -- the law after its events
    pub lawful_after : (earlier : List Event) → ((n : ℕ) → once_of e.pid n earlier ≡ reported n) → each allows earlier ≡ true → each allows (map (event_of e) (reverse o.events) ++ earlier) ≡ true
    lawful_after earlier is = change.lawful earlier (λ n. is n ∙ sym (fits.states n))

    -- ---- the process that a fork makes

    child_made : (new id : ℕ) → is_some (thread_with id p) ≡ true → is_some (thread_with id (child_of e.tid new p)) ≡ true
    unfolding child_of inherited
    child_made new id made =
        let same_id : (u : Thread) → (inherited e.tid u).id ≡ u.id = λ u. either_keeps (λ (x : Thread). x.id) (has_valid_id e.tid u) (replica_of u) (record u { gone = true }) u refl refl in
        ap is_some (item_changed (λ (u : Thread). u.id) (inherited e.tid) same_id id p.threads) ∙ by (thread_with id p) made
      where
        by : (found : Option Thread) → is_some found ≡ true → is_some (option_map (inherited e.tid) found) ≡ true
        by None none = none
        by (Some u) some = refl

    pub fit_born : (new : ℕ) → Forks w t.status new o → ControlsFit script (child_of e.tid new p).threads (child_of e.tid new p).shared.onces reported
    unfolding child_of
    fit_born new fork = record {
      controls = fits.controls;
      states = fits.states;
      made = λ n id busy. child_made new id (fits.made n id busy);
      routines = each_heir e.tid new p t mover_is (λ id x. InIts p.shared.onces (view x))
          (λ here alive. fits.routines e.tid t mover_is.found mover_is.here (ap (λ (s : Status). is_exiting s t.frames) fork.in_fork)) (λ id u is gone. absurd (true≢false gone));
    }

  -- ---- the first step

  pub fit_first : ControlsFit script (first_process script).threads (first_process script).shared.onces (λ n. Fresh)
  fit_first = record {
    controls = length-replicate (length script.onces) Fresh;
    states = all_fresh (length script.onces);
    made = λ n id busy. absurd (false≢true (ap (is_busy_with id) (sym (all_fresh (length script.onces) n)) ∙ busy));
    routines = λ id t found here alive n.
        subst (λ (x : Thread). in_routine n x.frames ≡ once_if x.id (once_at (first_process script).shared.onces n)) (cond_some (nat_eq 1 id) (initial_thread script) t found).1
        (ap (once_if 1) (sym (all_fresh (length script.onces) n)));
  }
