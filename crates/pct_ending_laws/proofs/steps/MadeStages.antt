-- Each step of a run goes on, acts, or has an event: a thread that ends, and one that exits its process, makes a stage, and any other has
-- something to do in its function.
use Rattle.pct_names.proofs.Names.{◌&&◌, [], acts, acts_or, Alt, ap, body_at, Bool, calls_destructor, choices_at, cond, Config, dtor_or_go}
use Rattle.pct_names.proofs.Names.{ending_choices, ends_now, ends_thread, Entry, Environment, environment_of, Event, false, false≢true}
use Rattle.pct_names.proofs.Names.{goes_on_ending, goes_on_exiting, has_no_frame, is_some, Key, key_with, left_keys, List, made_process}
use Rattle.pct_names.proofs.Names.{map, nat_eq, next_of, NextStatement, None, NoStatement, offers, Option, option_and_then, Process, refl}
use Rattle.pct_names.proofs.Names.{Run, run, Script, SharedState, Some, StatementIn, Status, Stmt, subst, suc, sym, Thread, transition_at}
use Rattle.pct_names.proofs.Names.{transition_by, true, What, ℕ, ◌∙◌, ◌∷◌, ◌≡◌}
use Rattle.std.proofs.lemmas.Bool.{true≢false}
use Rattle.pct_model.specs.declared.event.What.TheVariants as what
use Rattle.pct_model.specs.declared.schedule.Alt.TheVariants as alt
use Rattle.pct_model.specs.declared.state.Status.TheVariants as status
use Rattle.pct_model.specs.declared.transition.OwnAction.TheVariants as own_action
use Rattle.pct_laws.specs.Kept.{is_exiting, KeysKept, ThreadKept}
use Rattle.pct_laws.specs.KnownThreads.{is_in, is_fork_of}
use Rattle.pct_laws.specs.ProcessEnds.{exit_after, exit_value}
use Rattle.pct_laws.specs.ThreadSummary.{ThreadSummary, with_event, summary_of}
use Rattle.pct_transition_cases.proofs.OfferedChoices.{is_acting, left_among, Offered, offered_of}
use Rattle.pct_thread_invariants.proofs.ThreadsOfRun.{threads_kept}
use Rattle.pct_thread_invariants.proofs.keys.KeysOfProcesses.{keys_of_run}
use Rattle.pct_thread_invariants.proofs.keys.LeftKeys.{left_has_destructor}
use Rattle.pct_thread_invariants.proofs.lift.EveryProcess.{moves_of_run, process_taken}
use Rattle.pct_thread_invariants.proofs.lift.MadeThreads.{HasValidId}
use Rattle.pct_thread_invariants.proofs.lift.OfferedNumbers.{left_key_of}
use Rattle.pct_thread_invariants.proofs.lift.TakenSteps.{IsTaken}
use Rattle.pct_thread_invariants.proofs.lift.ThreadsAfter.{mover}
use Rattle.pct_process_laws.proofs.processes.ProcessEnds.{exit_value_of_run}
use Rattle.pct_frame_laws.proofs.frames.FrameCases.{is_idle}
use Rattle.pct_frame_laws.proofs.frames.LawfulFrames.{busy}

-- ---- the exit value

-- an event takes no exit value back
value_stays : (w : What) (k : Option ℕ) → is_some k ≡ true → is_some (exit_after w k) ≡ true
value_stays (what.ExitBegun v) k is = refl
value_stays _ k is = is

-- a process has an exit value after an event, where a thread of it has begun to exit it then
value_after : (here same fork : Bool) (w : What) (s parent : ThreadSummary) (k : Option ℕ) → (s.exiting ≡ true → is_some k ≡ true)
    → (cond (here && same) (with_event w s) (cond fork (record s { handlers = parent.handlers }) s)).exiting ≡ true → is_some (cond here (exit_after w k) k) ≡ true
value_after true true fork (what.ExitBegun v) s parent k before exits = refl
value_after true true fork _ s parent k before exits = before exits
value_after true false true w s parent k before exits = value_stays w k (before exits)
value_after true false false w s parent k before exits = value_stays w k (before exits)
value_after false same true w s parent k before exits = before exits
value_after false same false w s parent k before exits = before exits

-- a thread that has begun to exit its process gave it an exit value
exit_has_value : (pid tid : ℕ) (events : List Event) → (summary_of pid tid events).exiting ≡ true → is_some (exit_value pid events) ≡ true
exit_has_value pid tid [] exits = absurd (false≢true exits)
exit_has_value pid tid (e ∷ earlier) exits =
    value_after (is_in pid e) (nat_eq e.tid tid) (is_fork_of pid tid e) e.what (summary_of pid tid earlier) (summary_of e.pid tid earlier) (exit_value pid earlier)
    (exit_has_value pid tid earlier) exits

-- ---- choices

-- a thread whose one choice is to go on acts upon no request
goes_only : (choice : Alt) → offers (alt.Go ∷ []) choice ≡ true → is_acting choice ≡ false
goes_only (alt.Act n) offered = absurd (false≢true offered)
goes_only _ offered = refl

-- nor does one whose choices are destructors
destroys_only : (n : ℕ) (keys : List ℕ) → offers (map (λ (k : ℕ). alt.Dtor k) keys) (alt.Act n) ≡ false
destroys_only n [] = refl
destroys_only n (k ∷ keys) = destroys_only n keys

destroys_or_goes : (n : ℕ) (keys : List ℕ) → offers (dtor_or_go keys) (alt.Act n) ≡ false
destroys_or_goes n [] = refl
destroys_or_goes n (k ∷ keys) = destroys_only n keys

-- ---- stages

-- a thread that exits its process calls a function or ends the process
exit_made : (functions : List ℕ) (value : Option ℕ) → is_some value ≡ true → is_idle (goes_on_exiting functions value) ≡ false
unfolding goes_on_exiting ends_now
exit_made (f ∷ functions) value some = refl
exit_made [] (Some v) some = refl
exit_made [] None some = absurd (false≢true some)

module _ (script : Script) (passes : ℕ) (body : List Stmt) (shared : SharedState) (t : Thread) (environment : Environment) where
  -- a key of which the destructor may be called has one
  abbrev HasDestructor : Alt → Type 0
  HasDestructor choice = (k : ℕ) → choice ≡ alt.Dtor k → is_some (option_and_then (λ (key : Key). key.destructor) (key_with k shared.keys)) ≡ true

  destructor_made : (k value : ℕ) (destructor : Option ℕ) → is_some destructor ≡ true → is_idle (calls_destructor t.pass k value destructor) ≡ false
  unfolding calls_destructor
  destructor_made k value (Some f) some = refl
  destructor_made k value None some = absurd (false≢true some)

  -- a pass begins, or the thread ends
  pass_made : (more last : Bool) (left v : ℕ) → is_idle (cond more (record (acts (what.PassBegun (suc t.pass) ∷ [])) { own = Some own_action.BeginPass }) (ends_thread last left v)) ≡ false
  unfolding ends_thread
  pass_made true last left v = refl
  pass_made false true left v = refl
  pass_made false false left v = refl

  end_made : (choice : Alt) (handlers : List (ℕ × ℕ)) → HasDestructor choice → is_idle (goes_on_ending environment.is_last passes shared.keys t choice handlers) ≡ false
  unfolding goes_on_ending
  end_made choice (handler ∷ handlers) has = refl
  end_made (alt.Dtor k) [] has = destructor_made k _ _ (has k refl)
  end_made _ [] has = pass_made _ environment.is_last _ _

  -- what the thread does by a choice, with a status that has no frame
  ending_made : (choice : Alt) (next : NextStatement) → is_acting choice ≡ false → HasDestructor choice → is_idle (acts_or choice status.Ending (transition_at passes body shared t environment choice next status.Ending)) ≡ false
  unfolding transition_at
  ending_made (alt.Act n) next other has = absurd (true≢false other)
  ending_made choice NoStatement other has = end_made choice t.handlers has
  ending_made choice (StatementIn frame s) other has = end_made choice t.handlers has

  exiting_made : (choice : Alt) (next : NextStatement) → is_acting choice ≡ false → is_some shared.exit_value ≡ true
      → is_idle (acts_or choice status.Exiting (transition_at passes body shared t environment choice next status.Exiting)) ≡ false
  unfolding transition_at
  exiting_made (alt.Act n) next other some = absurd (true≢false other)
  exiting_made choice NoStatement other some = exit_made shared.exit_functions shared.exit_value some
  exiting_made choice (StatementIn frame s) other some = exit_made shared.exit_functions shared.exit_value some

  -- a thread that ends acts upon no request
  ends_only : (choice : Alt) (handlers : List (ℕ × ℕ)) → offers (ending_choices body shared t environment handlers) choice ≡ true → is_acting choice ≡ false
  unfolding ending_choices
  ends_only choice (handler ∷ handlers) offered = goes_only choice offered
  ends_only (alt.Act n) [] offered = absurd (true≢false (sym offered ∙ destroys_or_goes n (left_keys shared.keys t.specific)))
  ends_only _ [] offered = refl

  stage_made : KeysKept script shared.keys → (choice : Alt) (next : NextStatement) (s : Status) → offers (choices_at body shared t environment next s) choice ≡ true → has_no_frame s ≡ true
      → (s ≡ status.Exiting → is_some shared.exit_value ≡ true) → is_idle (acts_or choice s (transition_at passes body shared t environment choice next s)) ≡ false
  unfolding choices_at
  stage_made kept choice next status.Ending offered none value =
      ending_made choice next (ends_only choice t.handlers offered) (λ k is.
      left_has_destructor script shared.keys kept t.specific k (left_key_of shared.keys t.specific k
      (left_among (subst (λ (c : Alt). Offered shared t environment next status.Ending c) is (offered_of body shared t environment choice next status.Ending offered)))))
  stage_made kept choice next status.Exiting offered none value = exiting_made choice next (goes_only choice offered) (value refl)
  stage_made kept choice next (status.Ended v) offered none value = absurd (false≢true offered)
  stage_made kept choice next _ offered none value = absurd (false≢true none)

-- ---- each step of a run

module _ (script : Script) (config : Config) (before : List Entry) (r : Run) (is : run script config before ≡ Some r) (e : Entry) (p : Process) (t : Thread) (taken : IsTaken script config r.world e p t) where
  process_is : made_process e.pid r.world ≡ Some p
  process_is = process_taken script config before r is e p t taken

  -- a thread that is Exiting exits a process with an exit value
  has_value : t.status ≡ status.Exiting → is_some p.shared.exit_value ≡ true
  has_value exits =
      let it : HasValidId p e.tid t = mover script config r.world p e t (moves_of_run script config before r is e p t taken) in
      let kept : ThreadKept script p.shared.keys t (summary_of e.pid e.tid r.events) = threads_kept script config before r is e.pid e.tid p t process_is it.found it.here in
      ap (λ (v : Option ℕ). is_some v) (exit_value_of_run script config before r is e.pid p process_is)
      ∙ exit_has_value e.pid e.tid r.events (kept.exiting ∙ ap (λ (s : Status). is_exiting s t.frames) exits)

  -- the step goes on, acts, or has an event
  pub never_idle : is_idle (transition_by script config r.world p t e.alt) ≡ false
  never_idle = by_frames (has_no_frame t.status) refl
    where
      by_frames : (none : Bool) → has_no_frame t.status ≡ none → is_idle (transition_by script config r.world p t e.alt) ≡ false
      by_frames false some = busy script config before r is e p t taken some
      by_frames true none =
          stage_made script config.passes (body_at script t.frames) p.shared t (environment_of config r.world p t.id) (keys_of_run script config before r is e.pid p process_is).keys e.alt (next_of script t.frames) t.status taken.offered none has_value
