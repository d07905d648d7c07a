-- The law of the stages of an end, of a step: what each event of an end begins with.
use Rattle.pct_names.proofs.Names.{◌&&◌, ◌++◌, [], acts, acts_on_request, acts_or, Alt, and_from, and_parts, ap, ap₂, arith, body_at, Bool}
use Rattle.pct_names.proofs.Names.{calls_destructor, cond, Config, due_places, end_value, ends_thread, Entry, Environment, environment_of}
use Rattle.pct_names.proofs.Names.{false, false≢true, filter, Frame, goes_on_ending, is_empty, is_last, is_left, is_some, Key, key_at}
use Rattle.pct_names.proofs.Names.{KeyPlace, KeyValues, left_keys, left_places, length, List, list_all, list_any, map, MAX_KEYS}
use Rattle.pct_names.proofs.Names.{NamedAction, nat_eq, nat_le, next_of, NextStatement, None, NoStatement, not, number_at, Option}
use Rattle.pct_names.proofs.Names.{option_and_then, option_map, option_map_or, or_left, or_right, OwnAction, Process, range_with_len}
use Rattle.pct_names.proofs.Names.{Reason, refl, Run, run, Script, SharedState, slice_get, slice_get-map, Some, StatementIn, Status, Stmt}
use Rattle.pct_names.proofs.Names.{subst, suc, sym, Thread, thread_moved, thread_with, Transition, transition_at, transition_by, true}
use Rattle.pct_names.proofs.Names.{unwrap_or, unwrap_or-slice_get, value_at, value_of, was_reclaimed, What, with_pass, ◌||◌, ℕ, ◌∙◌, ◌∷◌}
use Rattle.pct_names.proofs.Names.{◌≡◌}
use Rattle.std.proofs.Common.{eq-eqb}
use Rattle.std.proofs.lemmas.Bool.{eq-eqb, lt-ltb, le-leb}
use Rattle.pct_model.specs.declared.event.What.TheVariants as what
use Rattle.pct_model.specs.declared.schedule.Alt.TheVariants as alt
use Rattle.pct_model.specs.declared.state.Status.TheVariants as status
use Rattle.pct_model.specs.declared.transition.OwnAction.TheVariants as own_action
use Rattle.pct_laws.specs.AfterEnd.{begins_exit_with_0}
use Rattle.pct_laws.specs.Ends.{count_due, is_due, is_in_pass, is_pass_over, takes_due, reports_left, is_status_ending, is_at_stage}
use Rattle.pct_laws.specs.Ends.{has_run_handlers, others_have_ended, thread_may_end, each_may_begin}
use Rattle.pct_laws.specs.KnownThreads.{reports_end}
use Rattle.pct_laws.specs.ThreadSteps.{ThreadStep}
use Rattle.pct_laws.specs.ThreadSummary.{ThreadSummary}
use Rattle.pct_transition_cases.proofs.TransitionCases.{TransitionCase, fork_handler_called, handler_run, destructor_called, pass_begun}
use Rattle.pct_transition_cases.proofs.TransitionCases.{thread_ended, thread_ended_with_keys, last_ended, last_ended_with_keys}
use Rattle.pct_transition_cases.proofs.TransitionCases.{main_returned, process_exited}
use Rattle.pct_thread_invariants.proofs.ThreadsOfRun.{threads_fit}
use Rattle.pct_thread_invariants.proofs.lift.EveryProcess.{process_taken, moves_of_run}
use Rattle.pct_thread_invariants.proofs.lift.EveryThread.{of_made_thread}
use Rattle.pct_thread_invariants.proofs.lift.HandlerEvents.{of_each_phase}
use Rattle.pct_thread_invariants.proofs.lift.MadeThreads.{HasValidId}
use Rattle.pct_thread_invariants.proofs.lift.TakenSteps.{IsTaken}
use Rattle.pct_thread_invariants.proofs.lift.ThreadsAfter.{Moves, mover}
use Rattle.pct_thread_invariants.proofs.keys.KeptKeys.{own_data, named_data}
use Rattle.pct_thread_invariants.proofs.keys.KeysOfProcesses.{data_moved}
use Rattle.pct_thread_invariants.proofs.lift.ReportedBy.{reported_by, of_thread}
use Rattle.pct_thread_invariants.proofs.thread.ThreadRule.{summary, ByAnyStatus, FitsAny, outside_exit}
use Rattle.pct_thread_invariants.proofs.lift.MovedThreads.{EveryStep, step_of, case_of_step, every_step}

-- ---- keys

-- where no item that passes a test is left, none passes it
none_passes : (number : ℕ → ℕ) (test : ℕ → Bool) (xs : List ℕ) → map number (filter test xs) ≡ [] → list_any test xs ≡ false
none_passes number test [] none = refl
none_passes number test (x ∷ xs) none = by (test x) none (none_passes number test xs)
  where
    by : (passes : Bool) → map number (cond passes (x ∷ filter test xs) (filter test xs)) ≡ [] → (map number (filter test xs) ≡ [] → list_any test xs ≡ false) → (passes || list_any test xs) ≡ false
    by true some later = absurd (omega (arith, ap length some))
    by false rest later = later rest

-- where no key is left in the pass, the destructor of no key of the pass is due
none_due : (keys : List KeyPlace) (t : Thread) → left_keys keys t.specific ≡ [] → is_pass_over keys t ≡ true
unfolding left_places
none_due keys t none = ap not (none_passes (number_at keys) (is_left keys t.specific) (range_with_len 0 MAX_KEYS) none)

-- the value is not NULL
abbrev marked : ℕ → Bool
marked value = not (nat_eq value 0)

-- the place of a key that is due is one of the pass that begins
place_taken : (keys : List KeyPlace) (own : KeyValues) (place : ℕ) → is_due keys own place ≡ true → slice_get (with_pass own).in_pass place ≡ Some true
place_taken keys own place due =
    slice_get-map marked own.values place
    ∙ by (slice_get own.values place) (ap marked (unwrap_or-slice_get own.values place 0) ∙ (and_parts (option_map_or (λ (key : Key). is_some key.destructor) (key_at keys place) false) (marked (value_at place own)) due).1)
  where
    by : (found : Option ℕ) → marked (unwrap_or found 0) ≡ true → option_map marked found ≡ Some true
    by None some = absurd (false≢true some)
    by (Some value) some = ap (λ (b : Bool). Some b) some

-- so each of them is
all_taken : (keys : List KeyPlace) (before after : Thread) → after.specific ≡ with_pass before.specific → takes_due keys before after ≡ true
all_taken keys before after is = each_of (range_with_len 0 MAX_KEYS)
  where
    taken : (place : ℕ) (due : Bool) → is_due keys before.specific place ≡ due → (not due || is_in_pass place after) ≡ true
    taken place true due = ap (λ (o : Option Bool). option_map_or (λ x. x) o false) (ap (λ (own : KeyValues). slice_get own.in_pass place) is ∙ place_taken keys before.specific place due)
    taken place false none = refl

    each_of : (places : List ℕ) → list_all (λ place. not (is_due keys before.specific place) || is_in_pass place after) places ≡ true
    each_of [] = refl
    each_of (place ∷ places) = and_from _ _ (taken place (is_due keys before.specific place) refl) (each_of places)

-- ---- the last thread

-- if one of the events is that a thread ends, one is that it begins to exit its process with 0
abbrev exits_if_ends : List What → Bool
exits_if_ends events = not (list_any reports_end events) || list_any begins_exit_with_0 events

-- the events of the end of the last thread, with keys that are due or without
ends_and_exits : (left v : ℕ) (none : Bool) → exits_if_ends (cond none [] (what.Leftover left ∷ []) ++ what.EndedWith v ∷ what.ExitBegun 0 ∷ []) ≡ true
ends_and_exits left v true = refl
ends_and_exits left v false = refl

module _ (passes : ℕ) (body : List Stmt) (shared : SharedState) (t : Thread) (environment : Environment) (alone : environment.is_last ≡ true) where
  -- a destructor that is called, a pass that begins or the end, and each stage of the end of the last thread
  destructor_exits : (k value : ℕ) (destructor : Option ℕ) → exits_if_ends (calls_destructor t.pass k value destructor).events ≡ true
  unfolding calls_destructor
  destructor_exits k value (Some f) = refl
  destructor_exits k value None = refl

  stage_exits : (more last : Bool) → last ≡ true → (left v : ℕ) → exits_if_ends (cond more (record (acts (what.PassBegun (suc t.pass) ∷ [])) { own = Some own_action.BeginPass }) (ends_thread last left v)).events ≡ true
  unfolding ends_thread
  stage_exits true last is left v = refl
  stage_exits false true is left v = ends_and_exits left v (nat_eq left 0)
  stage_exits false false is left v = absurd (false≢true is)

  ending_exits : (choice : Alt) (handlers : List (ℕ × ℕ)) → exits_if_ends (goes_on_ending environment.is_last passes shared.keys t choice handlers).events ≡ true
  unfolding goes_on_ending
  ending_exits choice (handler ∷ handlers) = refl
  ending_exits (alt.Dtor k) [] = destructor_exits k _ _
  ending_exits _ [] = stage_exits _ environment.is_last alone _ _

  -- the last thread of a process that ends begins to exit the process
  last_exits : (choice : Alt) (next : NextStatement) → exits_if_ends (acts_or choice status.Ending (transition_at passes body shared t environment choice next status.Ending)).events ≡ true
  unfolding transition_at acts_on_request
  last_exits (alt.Act n) next = refl
  last_exits choice NoStatement = ending_exits choice t.handlers
  last_exits choice (StatementIn frame s) = ending_exits choice t.handlers

-- a thread that has ended or is the one with an id holds no slot, or has ended or is that one
ended_or_same : (gone reclaimed ended same : Bool) → (gone || ended || same) ≡ true → (not (not gone && not reclaimed) || (ended || same)) ≡ true
ended_or_same true reclaimed ended same has = refl
ended_or_same false true ended same has = refl
ended_or_same false false true same has = refl
ended_or_same false false false true has = refl
ended_or_same false false false false has = absurd (false≢true has)

-- where each other thread of a process has ended, the thread is the last one
last_of_others : (id : ℕ) (threads : List Thread) → list_all (λ t. t.gone || t.ended || nat_eq t.id id) threads ≡ true → is_last id threads ≡ true
last_of_others id [] all = refl
last_of_others id (t ∷ threads) all = let parts = and_parts (t.gone || t.ended || nat_eq t.id id) _ all in and_from _ _ (ended_or_same t.gone (was_reclaimed t) t.ended (nat_eq t.id id) parts.0) (last_of_others id threads parts.1)

-- ---- a transition

-- a thread that is ending has no frames
no_frames : (script : Script) (st : Status) (why : Reason) (frames : List Frame) (handlers : List (ℕ × ℕ)) (s : ThreadSummary) → ByAnyStatus script st why frames handlers s → is_status_ending st ≡ true → frames ≡ []
no_frames script status.Ending why frames handlers s by_status is = (outside_exit script why handlers s status.Ending frames refl by_status).no_frames
no_frames script _ why frames handlers s by_status is = absurd (false≢true is)

-- a test that holds where another one fails
unless : (a b : Bool) → (a ≡ true → b ≡ true) → (not a || b) ≡ true
unless true b then = then refl
unless false b then = refl

module _ (passes : ℕ) (step : ThreadStep) (environment : Environment) (frames : is_status_ending step.before.status ≡ true → step.before.frames ≡ []) (last : others_have_ended step.before.id step.process ≡ true → environment.is_last ≡ true) where
  -- its process and its thread, before it
  abbrev p : Process
  p = step.process

  abbrev t : Thread
  t = step.before

  -- the step of a transition with these events
  abbrev step_with : List What → ThreadStep
  step_with events = record step { events = events }

  -- the number of keys of which the destructor is due
  abbrev due : ℕ
  due = count_due p.shared.keys t

  -- a thread that is ending is at the next stage of its end; and it has run its handlers, if none is left
  at_stage : t.status ≡ status.Ending → is_at_stage step ≡ true
  at_stage is = and_from _ _ (ap is_status_ending is) (ap is_empty (frames (ap is_status_ending is)))

  has_run : t.status ≡ status.Ending → t.handlers ≡ [] → has_run_handlers step ≡ true
  has_run is none = and_from _ _ (at_stage is) (ap is_empty none)

  -- the thread ends without a key that is due, or with some
  ends_with : (events : List What) → t.status ≡ status.Ending → t.handlers ≡ [] → left_keys p.shared.keys t.specific ≡ [] → (nat_eq due 0 || nat_le passes t.pass) ≡ true → (nat_eq due 0 || list_any (reports_left due) events) ≡ true
      → (environment.is_last ≡ true → list_any begins_exit_with_0 events ≡ true) → thread_may_end passes (step_with events) ≡ true
  ends_with events is none nothing_left passed reported if_last =
      and_from _ _ (and_from _ _ (and_from _ _ (and_from _ _ (has_run is none) (none_due p.shared.keys t nothing_left)) passed) (unless (others_have_ended t.id p) _ (λ ended. if_last (last ended)))) reported

  -- the event of its end
  abbrev end : What
  end = what.EndedWith (end_value t.reason)

  -- a running thread may begin an exit, and so may one that ends
  may_exit : (events : List What) → t.status ≡ status.Running → (not (is_status_ending t.status) || list_any reports_end events) ≡ true
  may_exit events is = or_left (not (is_status_ending t.status)) _ (ap (λ (st : Status). not (is_status_ending st)) is)

  exits_at_end : ((not (is_status_ending t.status) || true) && true) ≡ true
  exits_at_end = and_from _ _ (or_right (not (is_status_ending t.status)) true refl) refl

  -- each event of a transition may come in its step
  case_begins : {body : List Stmt} {next : NextStatement} {s : Status} {o : Transition} → t.status ≡ s → (environment.is_last ≡ true → s ≡ status.Ending → exits_if_ends o.events ≡ true) → (o.own ≡ Some own_action.BeginPass → o.named ≡ None → step.after.specific ≡ with_pass t.specific)
      → TransitionCase passes body p.shared t environment true next s o → each_may_begin passes (step_with o.events) ≡ true
  unfolding due_places
  case_begins is alone pass (handler_run next f a handlers has) = and_from _ _ (at_stage is) refl
  case_begins is alone pass (destructor_called next k f key none found named among) = and_from _ _ (and_from _ _ (has_run is none) (eq-eqb t.pass t.pass refl)) refl
  case_begins is alone pass (pass_begun next none more some_due is_pass_over) =
      and_from _ _ (and_from _ _ (and_from _ _ (and_from _ _ (and_from _ _ (has_run is none) (none_due p.shared.keys t (is_pass_over refl))) (lt-ltb 0 due some_due)) (eq-eqb (suc t.pass) (suc t.pass) refl)) (all_taken p.shared.keys t step.after (pass refl refl))) refl
  case_begins is alone pass (thread_ended next none nothing_due is_pass_over) =
      let nothing : nat_eq due 0 ≡ true = eq-eqb due 0 nothing_due in
      and_from _ _ (ends_with (end ∷ []) is none (is_pass_over refl) (or_left (nat_eq due 0) _ nothing) (or_left (nat_eq due 0) _ nothing) (λ is_last. absurd (false≢true (alone is_last refl)))) refl
  case_begins is alone pass (thread_ended_with_keys next left none some limit all is_pass_over) =
      and_from _ _ (and_from _ _ (eq-eqb left due all) (lt-ltb 0 left some))
      (and_from _ _ (ends_with (what.Leftover left ∷ end ∷ []) is none (is_pass_over refl) (or_right (nat_eq due 0) _ (le-leb passes t.pass limit)) (or_right (nat_eq due 0) _ (or_left (nat_eq left due) _ (eq-eqb left due all))) (λ is_last. absurd (false≢true (alone is_last refl)))) refl)
  case_begins is alone pass (last_ended next none is_last nothing_due is_pass_over) =
      let nothing : nat_eq due 0 ≡ true = eq-eqb due 0 nothing_due in
      and_from _ _ (ends_with (end ∷ what.ExitBegun 0 ∷ []) is none (is_pass_over refl) (or_left (nat_eq due 0) _ nothing) (or_left (nat_eq due 0) _ nothing) (λ is_last. refl)) exits_at_end
  case_begins is alone pass (last_ended_with_keys next left none is_last some limit all is_pass_over) =
      and_from _ _ (and_from _ _ (eq-eqb left due all) (lt-ltb 0 left some))
      (and_from _ _ (ends_with (what.Leftover left ∷ end ∷ what.ExitBegun 0 ∷ []) is none (is_pass_over refl) (or_right (nat_eq due 0) _ (le-leb passes t.pass limit)) (or_right (nat_eq due 0) _ (or_left (nat_eq left due) _ (eq-eqb left due all))) (λ is_last. refl)) exits_at_end)
  case_begins is alone pass (fork_handler_called next at call handler) = of_each_phase (λ (w : What). each_may_begin passes (step_with (w ∷ [])) ≡ true) call.func refl refl refl at.phase
  case_begins is alone pass (main_returned frame s v returned kind once) = and_from _ _ (may_exit (what.ExitBegun v ∷ []) is) refl
  case_begins is alone pass (process_exited frame v once) = and_from _ _ (may_exit (what.ExitBegun (value_of p.shared.globals frame v) ∷ []) is) refl
  case_begins is alone pass _ = refl

-- ---- each step of a run

module _ (script : Script) (config : Config) where
  -- so it is of the step of an entry that moves a thread
  may_begin_of_step : (before : List Entry) (r : Run) → run script config before ≡ Some r → (e : Entry) (p : Process) (t : Thread) → IsTaken script config r.world e p t → each_may_begin config.passes (step_of script config r p e t) ≡ true
  unfolding environment_of
  may_begin_of_step before r is e p t taken =
      let passes : ℕ = config.passes in
      let o : Transition = transition_by script config r.world p t e.alt in
      let environment : Environment = environment_of config r.world p t.id in
      let moves : Moves script config r.world p e t = moves_of_run script config before r is e p t taken in
      let it : HasValidId p e.tid t = mover script config r.world p e t moves in
      let made = process_taken script config before r is e p t taken in
      let reported : ThreadSummary = reported_by (of_thread summary e.tid) e.pid r.events in
      let fits : FitsAny script passes t reported = of_made_thread summary (FitsAny script passes) r (threads_fit script config before r is) e.pid e.tid t (ap (option_and_then (thread_with e.tid)) made ∙ it.found) it.here in
      let body : List Stmt = body_at script t.frames in
      let next : NextStatement = next_of script t.frames in
      let exits : environment.is_last ≡ true → t.status ≡ status.Ending → exits_if_ends o.events ≡ true = λ alone ending.
      subst (λ (st : Status). exits_if_ends (acts_or e.alt st (transition_at passes body p.shared t environment e.alt next st)).events ≡ true) (sym ending) (last_exits passes body p.shared t environment alone e.alt next) in
      let pass : o.own ≡ Some own_action.BeginPass → o.named ≡ None → (thread_moved e.tid o t).specific ≡ with_pass t.specific = λ begins none.
      data_moved e.tid o t ∙ ap (λ (live : Bool). named_data o.named (cond live (own_data o.own t.specific) t.specific)) it.valid ∙ ap₂ (λ (a : Option OwnAction) (n : Option NamedAction). named_data n (own_data a t.specific)) begins none in
      case_begins passes (step_of script config r p e t) environment (no_frames script t.status t.reason t.frames t.handlers reported fits.by_status) (last_of_others t.id p.threads) refl exits pass (case_of_step script config r.world p e t moves)

  -- each event of a step may come in it
  pub each_may_begin_of_run : EveryStep script config (λ s. each_may_begin config.passes s ≡ true)
  each_may_begin_of_run = every_step script config (λ s. each_may_begin config.passes s ≡ true) may_begin_of_step
