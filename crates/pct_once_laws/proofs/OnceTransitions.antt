-- What each transition does with the once controls and with the frames of their init routines, by the tables: a thread makes a fresh control
-- busy as it calls the routine, and done as it returns from it, and gives up its controls as it begins to end.
use Rattle.pct_names.proofs.Names.{◌++◌, ◌<◌, [], abandoned, and_from, ap, arith, at_pc, Bool, Busy, cases_eq, cond, cond_both, Dest}
use Rattle.pct_names.proofs.Names.{encode, Entry, Environment, Event, event_of, false, Frame, frames_written, Fresh, has_no_frame, inl, inr}
use Rattle.pct_names.proofs.Names.{length, length-map, List, map, moved, nat_eq, NextStatement, None, once_at, onces_after, OnceState}
use Rattle.pct_names.proofs.Names.{Option, option_map_or, own_after, refl, reverse, Script, shared_after, shared_moved, SharedState}
use Rattle.pct_names.proofs.Names.{slice_set, Some, StatementIn, Status, Stmt, subst, suc, sym, syntax_of, Thread, thread_at, Transition}
use Rattle.pct_names.proofs.Names.{true, true_from_ne_false, What, without_first, written, ℕ, ◌∙◌, ◌∷◌, ◌≡◌}
use Rattle.std.proofs.Common.{eqb-true, eq-eqb, ne_eqb}
use Rattle.std.proofs.lemmas.Bool.{true≢false}
use Rattle.std.proofs.lemmas.List.{length-set}
use Rattle.pct_model.specs.declared.state.OnceState.TheVariants.{Done}
use Rattle.pct_model.specs.declared.state.Status.TheVariants as status
use Rattle.pct_model.specs.declared.statement.Dest.TheVariants as destination
use Rattle.pct_laws.specs.Each.{each}
use Rattle.pct_laws.specs.Kept.{control_of, is_busy_with, is_exit_kind, is_exiting}
use Rattle.pct_laws.specs.OnceControls.{given_up, once_of}
use Rattle.pct_laws.specs.OnceLaw.{allows, may_call, may_return}
use Rattle.pct_transition_cases.proofs.PlacedStatements.{IsPlaced, on_top}
use Rattle.pct_transition_cases.proofs.TransitionCases.{TransitionCase, main_returned, start_returned, call_left, handler_left}
use Rattle.pct_transition_cases.proofs.TransitionCases.{exit_function_left, routine_left, canceled, canceled_at_point, canceled_in_join}
use Rattle.pct_transition_cases.proofs.TransitionCases.{canceled_in_sem_wait, canceled_in_waitpid, ended_in_wait, routine_called}
use Rattle.pct_transition_cases.proofs.TransitionCases.{fork_handler_called, fork_handler_left, exit_called, handler_run, destructor_called}
use Rattle.pct_transition_cases.proofs.TransitionCases.{last_ended, last_ended_with_keys, process_exited, exit_function_called}
use Rattle.pct_thread_invariants.proofs.lift.HandlerEvents.{of_each_phase}
use Rattle.pct_thread_invariants.proofs.lift.ReportedBy.{after_own}
use Rattle.pct_thread_invariants.proofs.thread.NamedWords.{names_there}
use Rattle.pct_once_laws.proofs.OnceStates.{control, busy_is, never_busy, busy_others, once_set, once_given_up, busy_within, in_routine}

-- the thread exits its process
abbrev pub exits : Thread → Bool
exits t = is_exiting t.status t.frames

-- ---- frames

-- a thread that goes on, and what it writes, leave the frames of a routine
at_pc_same : (n pc : ℕ) (frames : List Frame) → in_routine n (at_pc pc frames) ≡ in_routine n frames
at_pc_same n pc [] = refl
at_pc_same n pc (frame ∷ below) = refl

write_same : (n : ℕ) (d : Dest) (v : ℕ) (frames : List Frame) → in_routine n (frames_written d v frames) ≡ in_routine n frames
write_same n (destination.Local i) v [] = refl
write_same n (destination.Local i) v (frame ∷ below) = refl
write_same n _ v frames = refl

written_same : (n : ℕ) (writes : List (Dest × ℕ)) (frames : List Frame) → in_routine n (written frames_written writes frames) ≡ in_routine n frames
written_same n [] frames = refl
written_same n ((d, v) ∷ writes) frames = written_same n writes (frames_written d v frames) ∙ write_same n d v frames

goes_same : (n : ℕ) (next : Option ℕ) (t : Thread) → in_routine n (thread_at next t).frames ≡ in_routine n t.frames
unfolding thread_at
goes_same n None t = refl
goes_same n (Some pc) t = at_pc_same n pc t.frames

-- the top frame is left
left_same : {script : Script} {frames : List Frame} {body : List Stmt} {frame : Frame} {s : Stmt} → IsPlaced script frames body (StatementIn frame s) → (found : Option ℕ) → control_of frame.kind ≡ found → (n : ℕ)
    → in_routine n frames ≡ cond (option_map_or (nat_eq n) found false) (suc (in_routine n (without_first frames))) (in_routine n (without_first frames))
left_same (on_top frame below s at) found is n = ap (λ (c : Option ℕ). cond (option_map_or (nat_eq n) c false) (suc (in_routine n below)) (in_routine n below)) is

-- a thread in a routine does not exit its process
not_exiting : {script : Script} {frames : List Frame} {body : List Stmt} {frame : Frame} {s : Stmt} → IsPlaced script frames body (StatementIn frame s) → is_exit_kind frame.kind ≡ false → is_exiting status.Running frames ≡ false
not_exiting (on_top frame [] s at) other = other
not_exiting (on_top frame (next ∷ below) s at) other = refl

-- ---- a control that changes

either_way : (a b : ℕ) → nat_eq a b ≡ nat_eq b a
either_way a b = elim (cases_eq a b) [
  | inl same ↦ eq-eqb a b same ∙ sym (eq-eqb b a (sym same))
  | inr differs ↦ ne_eqb a b differs ∙ sym (ne_eqb b a (λ same. differs (sym same)))
]

module _ (id : ℕ) where
  -- a control in this state is busy with the thread, once or not
  abbrev pub once_if : OnceState → ℕ
  once_if s = cond (is_busy_with id s) 1 0

  busy_once : once_if (Busy id) ≡ suc 0
  busy_once = ap (λ (b : Bool). cond b 1 0) (eq-eqb id id refl)

  -- the thread calls the routine of a fresh control, and returns from that of one which is busy with it
  called_by : (same : Bool) (s : OnceState) (count : ℕ) → (same ≡ true → s ≡ Fresh) → count ≡ once_if s → cond same (suc count) count ≡ once_if (cond same (Busy id) s)
  called_by true s count fresh is = ap suc (is ∙ ap once_if (fresh refl)) ∙ sym busy_once
  called_by false s count fresh is = is

  returned_by : (same : Bool) (s : OnceState) (count : ℕ) → (same ≡ true → s ≡ Busy id) → cond same (suc count) count ≡ once_if s → count ≡ once_if (cond same Done s)
  returned_by true s count busy is = let one : suc count ≡ suc 0 = is ∙ ap once_if (busy refl) ∙ busy_once in omega (arith, one)
  returned_by false s count busy is = is

  -- a control is busy with the thread, if a frame of it is of the routine
  busy_by : (s : OnceState) (count : ℕ) → suc count ≡ once_if s → s ≡ Busy id
  busy_by s count is = busy_is id s (true_from_ne_false (is_busy_with id s) (λ free. let none : suc count ≡ 0 = is ∙ ap (λ (b : Bool). cond b 1 0) free in absurd (omega (arith, none))))

-- ---- the tables

module _ (script : Script) (shared : SharedState) (t : Thread) (e : Entry) (is_own : t.id ≡ e.tid) (controls : length shared.onces ≡ length script.onces) where
  -- the controls after a transition, and its events, newest first
  abbrev pub onces_then : Transition → List OnceState
  onces_then o = (shared_moved e.tid o shared).onces

  abbrev added : Transition → List Event
  added o = map (event_of e) (reverse o.events)

  -- the thread is in the routines of the controls that are busy with it
  abbrev pub InRoutines : Type 0
  InRoutines = (n : ℕ) → in_routine n t.frames ≡ once_if e.tid (once_at shared.onces n)

  -- a transition changes the state of each control as its events report, and each event may come; the thread is in the routines of its controls
  -- after it, unless it exits its process then; and a control is busy with another thread exactly if it was before
  pub record OnceChange (o : Transition) : Type 0 where
    pub becomes : ℕ → OnceState → OnceState
    pub count : length (onces_then o) ≡ length shared.onces
    pub state : (n : ℕ) → once_at (onces_then o) n ≡ becomes n (once_at shared.onces n)
    pub reads : (n : ℕ) (k : OnceState) → after_own (control n) (added o) k ≡ becomes n k
    pub frames : exits (moved o t) ≡ false → (n : ℕ) → in_routine n (moved o t).frames ≡ once_if e.tid (becomes n (once_at shared.onces n))
    pub others : (n id : ℕ) → nat_eq e.tid id ≡ false → is_busy_with id (becomes n (once_at shared.onces n)) ≡ is_busy_with id (once_at shared.onces n)
    pub lawful : (earlier : List Event) → ((n : ℕ) → once_of e.pid n earlier ≡ once_at shared.onces n) → each allows earlier ≡ true → each allows (added o ++ earlier) ≡ true

  -- no control changes
  stays : {o : Transition} → onces_then o ≡ shared.onces → ((n : ℕ) (k : OnceState) → after_own (control n) (added o) k ≡ k) → ((earlier : List Event) → each allows (added o ++ earlier) ≡ each allows earlier)
      → (exits (moved o t) ≡ false → (n : ℕ) → in_routine n (moved o t).frames ≡ once_if e.tid (once_at shared.onces n)) → OnceChange o
  stays same reads quiet frames = record {
    becomes = λ n s. s;
    count = ap length same;
    state = λ n. ap (λ (onces : List OnceState). once_at onces n) same;
    reads = reads;
    frames = frames;
    others = λ n id differs. refl;
    lawful = λ earlier states law. quiet earlier ∙ law;
  }

  -- the thread begins to end
  gives_up : {o : Transition} → onces_then o ≡ map (abandoned e.tid) shared.onces → ((n : ℕ) (k : OnceState) → after_own (control n) (added o) k ≡ given_up e.tid k) → ((earlier : List Event) → each allows (added o ++ earlier) ≡ each allows earlier)
      → (moved o t).frames ≡ [] → OnceChange o
  gives_up same reads quiet none = record {
    becomes = λ n s. given_up e.tid s;
    count = ap length same ∙ length-map shared.onces (abandoned e.tid);
    state = λ n. ap (λ (onces : List OnceState). once_at onces n) same ∙ once_given_up shared.onces e.tid n;
    reads = reads;
    frames = λ alive n. ap (in_routine n) none ∙ sym (ap (λ (b : Bool). cond b 1 0) (never_busy e.tid (once_at shared.onces n)));
    others = λ n id differs. busy_others e.tid id differs (once_at shared.onces n);
    lawful = λ earlier states law. quiet earlier ∙ law;
  }

  -- a control changes, from one state to another
  sets : {o : Transition} (c : ℕ) (from to : OnceState) → c < length shared.onces → once_at shared.onces c ≡ from → onces_then o ≡ slice_set shared.onces c to → ((n : ℕ) (k : OnceState) → after_own (control n) (added o) k ≡ cond (nat_eq c n) to k)
      → ((id : ℕ) → nat_eq e.tid id ≡ false → (is_busy_with id to ≡ false) × (is_busy_with id from ≡ false))
      → (exits (moved o t) ≡ false → (n : ℕ) → (nat_eq c n ≡ true → once_at shared.onces n ≡ from) → in_routine n (moved o t).frames ≡ once_if e.tid (cond (nat_eq c n) to (once_at shared.onces n)))
      → ((earlier : List Event) → once_of e.pid c earlier ≡ from → each allows earlier ≡ true → each allows (added o ++ earlier) ≡ true) → OnceChange o
  sets c from to within is same reads apart frames lawful =
      let was : (n : ℕ) → nat_eq c n ≡ true → once_at shared.onces n ≡ from = λ n it. subst (λ (i : ℕ). once_at shared.onces i ≡ from) (eqb-true c n it) is in
      record {
        becomes = λ n s. cond (nat_eq c n) to s;
        count = ap length same ∙ length-set shared.onces c to;
        state = λ n. ap (λ (onces : List OnceState). once_at onces n) same ∙ once_set shared.onces c n to within;
        reads = reads;
        frames = λ alive n. frames alive n (was n);
        others = λ n id differs. cond_both (nat_eq c n) to (once_at shared.onces n) (λ (s : OnceState). is_busy_with id s ≡ is_busy_with id (once_at shared.onces n)) (λ it. (apart id differs).0 ∙ sym (ap (is_busy_with id) (was n it) ∙ (apart id differs).1)) (λ it. refl);
        lawful = λ earlier states law. lawful earlier (states c ∙ is) law;
      }

  module _ {passes : ℕ} {body : List Stmt} {environment : Environment} where
    -- the change by a transition of a thread that is in the routines of its controls, unless it exits its process before or after it
    pub case_changes : {next : NextStatement} {s : Status} {o : Transition} → IsPlaced script t.frames body next → (has_no_frame s ≡ true → t.frames ≡ []) → (is_exiting s t.frames ≡ false → InRoutines)
        → (exits (moved o t) ≡ false → InRoutines) → TransitionCase passes body shared t environment true next s o → OnceChange o
    unfolding thread_at own_after shared_after onces_after encode syntax_of
    case_changes placed none inside alive (start_returned frame s v returns is) = gives_up refl (λ n k. refl) (λ earlier. refl) refl
    case_changes placed none inside alive (canceled next delivered where_it_may) = gives_up refl (λ n k. refl) (λ earlier. refl) refl
    case_changes placed none inside alive (canceled_at_point next index delivered) = gives_up refl (λ n k. refl) (λ earlier. refl) refl
    case_changes placed none inside alive (canceled_in_join next id delivered) = gives_up refl (λ n k. refl) (λ earlier. refl) refl
    case_changes placed none inside alive (canceled_in_sem_wait next sem delivered) = gives_up refl (λ n k. refl) (λ earlier. refl) refl
    case_changes placed none inside alive (canceled_in_waitpid next pid delivered) = gives_up refl (λ n k. refl) (λ earlier. refl) refl
    case_changes placed none inside alive (ended_in_wait next c m free) = gives_up refl (λ n k. refl) (λ earlier. refl) refl
    case_changes placed none inside alive (exit_called frame v unbegun) = gives_up refl (λ n k. refl) (λ earlier. refl) refl
    case_changes placed none inside alive (main_returned frame s v returns is once) = stays refl (λ n k. refl) (λ earlier. refl) (λ goes. absurd (true≢false goes))
    case_changes placed none inside alive (process_exited frame v once) = stays refl (λ n k. refl) (λ earlier. refl) (λ goes. absurd (true≢false goes))
    case_changes placed none inside alive (exit_function_left frame s v returns is) = stays refl (λ n k. refl) (λ earlier. refl) (λ goes. absurd (true≢false goes))
    case_changes placed none inside alive (exit_function_called next f functions is) = stays refl (λ n k. refl) (λ earlier. refl) (λ goes. absurd (true≢false goes))
    case_changes placed none inside alive (last_ended next handlers last due over) = stays refl (λ n k. refl) (λ earlier. refl) (λ goes. absurd (true≢false goes))
    case_changes placed none inside alive (last_ended_with_keys next left handlers last some limit all over) = stays refl (λ n k. refl) (λ earlier. refl) (λ goes. absurd (true≢false goes))
    case_changes placed none inside alive (call_left frame s v returns (inl is)) = stays refl (λ n k. refl) (λ earlier. refl) (λ goes n. sym (left_same placed None (ap control_of is) n) ∙ alive goes n)
    case_changes placed none inside alive (call_left frame s v returns (inr is)) = stays refl (λ n k. refl) (λ earlier. refl) (λ goes n. sym (left_same placed None (ap control_of is) n) ∙ alive goes n)
    case_changes placed none inside alive (handler_left frame s v returns (inl is)) = stays refl (λ n k. refl) (λ earlier. refl) (λ goes n. sym (left_same placed None (ap control_of is) n) ∙ alive goes n)
    case_changes placed none inside alive (handler_left frame s v returns (inr is)) = stays refl (λ n k. refl) (λ earlier. refl) (λ goes n. sym (left_same placed None (ap control_of is) n) ∙ alive goes n)
    case_changes placed none inside alive (fork_handler_left frame s v at returns is keeps) = stays refl (λ n k. refl) (λ earlier. refl) (λ goes n. sym (left_same placed None (ap control_of is) n) ∙ alive goes n)
    case_changes placed none inside alive (handler_run next f a handlers is) = stays refl (λ n k. refl) (λ earlier. refl) (λ goes n. sym (ap (in_routine n) (none refl)) ∙ alive goes n)
    case_changes placed none inside alive (destructor_called next k f key handlers found named among) = stays refl (λ n k. refl) (λ earlier. refl) (λ goes n. sym (ap (in_routine n) (none refl)) ∙ alive goes n)
    case_changes {o = o} placed none inside alive (fork_handler_called next at call is) = stays refl
        (λ n k. of_each_phase (λ (w : What). after_own (control n) (event_of e w ∷ []) k ≡ k) call.func refl refl refl at.phase)
        (λ earlier. of_each_phase (λ (w : What). each allows (event_of e w ∷ earlier) ≡ each allows earlier) call.func refl refl refl at.phase) alive
    case_changes placed none inside alive (routine_called frame c f fresh room) =
        let within : c < length shared.onces = subst (λ (count : ℕ). c < count) (sym controls) (names_there script placed).0 in
        sets c Fresh (Busy e.tid) within fresh (ap (λ (id : ℕ). slice_set shared.onces c (Busy id)) is_own) (λ n k. refl) (λ id differs. (differs, refl))
        (λ goes n was.
        let below : List Frame = at_pc (suc frame.pc) t.frames in
        ap (λ (b : Bool). cond b (suc (in_routine n below)) (in_routine n below)) (either_way n c)
        ∙ called_by e.tid (nat_eq c n) (once_at shared.onces n) (in_routine n below) was (at_pc_same n (suc frame.pc) t.frames ∙ alive goes n))
        (λ earlier is law. and_from _ _ (ap may_call is) law)
    case_changes placed none inside alive (routine_left frame s v c returns is) =
        let below : List Frame = without_first t.frames in
        let counted : (n : ℕ) → cond (nat_eq c n) (suc (in_routine n below)) (in_routine n below) ≡ once_if e.tid (once_at shared.onces n) = λ n.
        ap (λ (b : Bool). cond b (suc (in_routine n below)) (in_routine n below)) (either_way c n)
        ∙ sym (left_same placed (Some c) (ap control_of is) n) ∙ inside (not_exiting placed (ap is_exit_kind is)) n in
        let one : suc (in_routine c below) ≡ once_if e.tid (once_at shared.onces c) = sym (ap (λ (b : Bool). cond b (suc (in_routine c below)) (in_routine c below)) (eq-eqb c c refl)) ∙ counted c in
        let busy : once_at shared.onces c ≡ Busy e.tid = busy_by e.tid (once_at shared.onces c) (in_routine c below) one in
        sets c (Busy e.tid) Done (busy_within shared.onces c e.tid busy) busy refl (λ n k. refl) (λ id differs. (refl, differs))
        (λ goes n was. returned_by e.tid (nat_eq c n) (once_at shared.onces n) (in_routine n below) was (counted n))
        (λ earlier is law. and_from _ _ (ap (may_return e.tid) is ∙ eq-eqb e.tid e.tid refl) law)
    case_changes {o = o} placed none inside alive _ = stays refl (λ n k. refl) (λ earlier. refl) (λ goes n. written_same n o.writes (thread_at o.next t).frames ∙ goes_same n o.next t ∙ alive goes n)
