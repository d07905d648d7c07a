-- A thread that waits cannot go on, and one that has no choice waits.
use Rattle.pct_names.proofs.Names.{◌++◌, ◌<◌, [], All, All-head, Alt, ap, arith, body_at, body_of, Bool, Busy, choices_at, choices_of}
use Rattle.pct_names.proofs.Names.{Environment, environment_of, false, false_from_ne_true, false≢true, Frame, Func, go_if, has_no_frame}
use Rattle.pct_names.proofs.Names.{if◌then◌else◌, is_blocked, is_busy, is_empty, is_enabled, is_ended_status, is_ended_thread}
use Rattle.pct_names.proofs.Names.{is_free_mutex, is_running_child, is_some, length, List, made_process, may_pass_point, nat_lt, next_in}
use Rattle.pct_names.proofs.Names.{next_of, NextStatement, None, NoStatement, not, offers, once_at, OnceState, Option, option_and_then}
use Rattle.pct_names.proofs.Names.{option_map_or, Process, refl, Script, SharedState, slice_get, slice_get-get_or, slice_index, Some}
use Rattle.pct_names.proofs.Names.{statement_at, StatementIn, Status, Stmt, subst, sym, Thread, true, true_from_ne_false, World, ℕ, ◌∙◌}
use Rattle.pct_names.proofs.Names.{◌∷◌, ◌≡◌}
use Rattle.std.proofs.lemmas.Bool.{true≢false}
use Rattle.pct_model.specs.declared.schedule.Alt.TheVariants as alt
use Rattle.pct_model.specs.declared.state.Status.TheVariants as status
use Rattle.pct_model.specs.declared.statement.Stmt.TheVariants as statement
use Rattle.pct_transition_cases.proofs.OfferedChoices.{goes_at, may_go_on, offered_of}
use Rattle.pct_transition_cases.proofs.EnabledChoices.{ending_enabled, running_enabled}
use Rattle.pct_ending_laws.proofs.KeptStates.{every_state_is_kept}
use Rattle.pct_thread_invariants.proofs.lift.MadeThreads.{HasValidId, with_valid_id, process_is_made}
use Rattle.pct_thread_invariants.proofs.lift.ProcessIds.{HavePids, have_pids, ids_of_made}
use Rattle.pct_view_laws.specs.declared.wait.Wait.{Wait}
use Rattle.pct_view_laws.specs.Listed.{BlockedThreadsWait, IsBlockedIfWaiting}
use Rattle.pct_view_laws.specs.Waits.{once_wait, wait_at, wait_by, wait_in}
use Rattle.pct_view_laws.proofs.ListedThreads.{IsListed, listed_was}

-- ---- tests

-- where a thread waits unless a test holds, and where it waits if one holds
waits_unless : (test : Bool) (w : Wait) → is_some (if test then None else Some w) ≡ not test
waits_unless true w = refl
waits_unless false w = refl

waits_if : (test : Bool) (w : Wait) → is_some (if test then Some w else None) ≡ not (not test)
waits_if true w = refl
waits_if false w = refl

-- a thread that waits only where it has no choice has none if it waits
none_if_waiting : (choices : List Alt) (w : Option Wait) → is_some (if is_enabled choices then None else w) ≡ true → is_enabled choices ≡ false
none_if_waiting [] w waits = refl
none_if_waiting (choice ∷ choices) w waits = absurd (false≢true waits)

-- where there is no choice, there is no `go`
go_disabled : (go : Bool) (rest : List Alt) → is_enabled (go_if go ++ rest) ≡ false → go ≡ false
go_disabled true rest none = absurd (true≢false none)
go_disabled false rest none = refl

-- nor where other choices stand between
go_disabled_before : (go : Bool) (others rest : List Alt) → is_enabled (go_if go ++ others ++ rest) ≡ false → go ≡ false
go_disabled_before true others rest none = absurd (true≢false none)
go_disabled_before false others rest none = refl

-- where there is no choice, none is offered
none_offered : (choices : List Alt) (c : Alt) → is_enabled choices ≡ false → offers choices c ≡ false
none_offered [] c none = refl
none_offered (choice ∷ choices) c none = absurd (true≢false none)

-- a thread has a next statement
abbrev has_statement : NextStatement → Bool
has_statement NoStatement = false
has_statement (StatementIn frame s) = true

-- ---- by status

module _ (shared : SharedState) (environment : Environment) where
  -- a thread that has not ended waits by its status exactly if what the status waits for has not occurred
  waits_unless_goes : (s : Status) → is_ended_status s ≡ false → is_some (wait_in shared environment s) ≡ not (goes_at shared environment s)
  unfolding wait_in
  waits_unless_goes (status.AtPoint index) alive = waits_unless (may_pass_point index) _
  waits_unless_goes (status.Joining id) alive = waits_unless (is_ended_thread id environment) _
  waits_unless_goes (status.InSem s) alive = waits_unless (nat_lt 0 (slice_index shared.counts s)) _
  waits_unless_goes (status.InWaitPid pid) alive = waits_if (is_running_child pid environment.family) _
  waits_unless_goes (status.Reacquire c m why) alive = waits_unless (is_free_mutex m shared) _
  waits_unless_goes (status.Ended v) alive = absurd (true≢false alive)
  waits_unless_goes _ alive = refl

  -- so it waits where it cannot go on and has no other choice
  suspended_waits : (s : Status) (acting : List Alt) → is_ended_status s ≡ false → is_enabled (go_if (goes_at shared environment s) ++ acting) ≡ false → is_some (wait_in shared environment s) ≡ true
  suspended_waits s acting alive none = waits_unless_goes s alive ∙ ap not (go_disabled (goes_at shared environment s) acting none)

  -- at a once control the thread waits exactly if the control is busy
  waits_if_busy : (o : ℕ) (state : OnceState) → is_some (once_wait shared environment o state) ≡ is_busy state
  waits_if_busy o (Busy id) = refl
  waits_if_busy o _ = refl

  -- at a statement that blocks a thread, it waits
  waits_at_blocked : (frame : Frame) (s : Stmt) → is_blocked s shared ≡ true → is_some (wait_at shared environment (StatementIn frame s)) ≡ true
  unfolding wait_at
  waits_at_blocked frame (statement.Lock m) blocked = waits_unless (is_free_mutex m shared) _ ∙ blocked
  waits_at_blocked frame (statement.CallOnce o f) blocked = waits_if_busy o (once_at shared.onces o) ∙ blocked
  waits_at_blocked frame _ blocked = absurd (false≢true blocked)

module _ (body : List Stmt) (shared : SharedState) (t : Thread) (environment : Environment) where
  -- a thread that waits cannot go on
  waiting_blocked : (next : NextStatement) (s : Status) (choices : List Alt) → (offers choices alt.Go ≡ true → goes_at shared environment s ≡ true) → is_ended_status s ≡ false → is_some (wait_by shared environment choices next s) ≡ true → offers choices alt.Go ≡ false
  unfolding wait_by
  waiting_blocked next status.Running choices goes alive waits = none_offered choices alt.Go (none_if_waiting choices (wait_at shared environment next) waits)
  waiting_blocked next s choices goes alive waits =
      false_from_ne_true (offers choices alt.Go) (λ offered. true≢false (sym waits ∙ waits_unless_goes shared environment s alive ∙ ap not (goes offered)))

  -- one that has no choice waits
  disabled_waits : (next : NextStatement) (s : Status) → (s ≡ status.Running → has_statement next ≡ true) → is_ended_status s ≡ false → is_enabled (choices_at body shared t environment next s) ≡ false
      → is_some (wait_by shared environment (choices_at body shared t environment next s) next s) ≡ true
  unfolding choices_at wait_by
  disabled_waits NoStatement status.Running has alive none = absurd (false≢true (has refl))
  disabled_waits (StatementIn frame s) status.Running has alive none =
      ap (λ (b : Bool). is_some (if b then None else wait_at shared environment (StatementIn frame s))) none
      ∙ waits_at_blocked shared environment frame s (true_from_ne_false (is_blocked s shared) (λ free. true≢false (sym (running_enabled body shared t environment frame s free) ∙ none)))
  disabled_waits next (status.AtPoint index) has alive none = suspended_waits shared environment (status.AtPoint index) _ alive none
  disabled_waits next (status.Joining id) has alive none = suspended_waits shared environment (status.Joining id) _ alive none
  disabled_waits next (status.InSem s) has alive none = waits_unless_goes shared environment (status.InSem s) alive ∙ ap not (go_disabled_before (nat_lt 0 (slice_index shared.counts s)) _ _ none)
  disabled_waits next (status.InWaitPid pid) has alive none = suspended_waits shared environment (status.InWaitPid pid) _ alive none
  disabled_waits next (status.Waiting c m) has alive none = waits_unless_goes shared environment (status.Waiting c m) alive
  disabled_waits next (status.Reacquire c m why) has alive none = suspended_waits shared environment (status.Reacquire c m why) _ alive none
  disabled_waits next status.Ending has alive none = absurd (true≢false (sym (ending_enabled body shared t environment t.handlers) ∙ none))
  disabled_waits next (status.Ended v) has alive none = absurd (true≢false alive)
  disabled_waits next _ has alive none = absurd (true≢false none)

-- ---- every run

-- at a pc within the body of a function there is a statement
statement_within : (script : Script) (frame : Frame) → frame.pc < length (body_of script frame.func) → is_some (statement_at script frame) ≡ true
unfolding statement_at
statement_within script frame = by (slice_get script.funcs frame.func)
  where
    by : (found : Option Func) → frame.pc < length (option_map_or (λ f. f.body) found []) → is_some (option_and_then (λ f. slice_get f.body frame.pc) found) ≡ true
    by None low = absurd (omega (arith, low))
    by (Some f) low = ap is_some (slice_get-get_or f.body frame.pc statement.End low)

-- a frame at a statement has a next one
has_some : (frame : Frame) (s : Option Stmt) → is_some s ≡ true → has_statement (next_in frame s) ≡ true
has_some frame None some = absurd (false≢true some)
has_some frame (Some s) some = refl

-- a thread that is running has a next statement
runs_at_statement : (script : Script) (frames : List Frame) → is_empty frames ≡ false → All (λ (frame : Frame). frame.pc < length (body_of script frame.func)) frames → has_statement (next_of script frames) ≡ true
runs_at_statement script [] some places = absurd (true≢false some)
runs_at_statement script (frame ∷ below) some places =
    has_some frame (statement_at script frame) (statement_within script frame (All-head (λ (f : Frame). f.pc < length (body_of script f.func)) frame below places))

-- so it is of each thread that is listed after a run
pub blocked_threads_wait : BlockedThreadsWait
blocked_threads_wait script config entries after l is among =
    let w : World = after.world in
    let pids : HavePids config.slots w = have_pids script config entries after is in
    let listed : IsListed script config w l = listed_was script config w pids l among in
    let p : Process = listed.process in
    let t : Thread = listed.thread in
    let made : made_process p.pid w ≡ Some p = process_is_made p.pid t.id w p pids.distinct listed.live in
    let live : HasValidId p t.id t = with_valid_id t.id p t (ids_of_made config.slots w pids p.pid p made).distinct listed.holds in
    let kept = (every_state_is_kept script config entries after is).threads p.pid p made t.id t live.found live.here in
    let body : List Stmt = body_at script t.frames in
    let environment : Environment = environment_of config w p t.id in
    let next : NextStatement = next_of script t.frames in
    subst IsBlockedIfWaiting listed.same (record {
      blocked = waiting_blocked body p.shared t environment next t.status (choices_of script config w p t) (λ offered. may_go_on (offered_of body p.shared t environment alt.Go next t.status offered) refl refl) listed.unended;
      waits = disabled_waits body p.shared t environment next t.status (λ runs. runs_at_statement script t.frames (kept.frames ∙ ap has_no_frame runs) kept.places) listed.unended;
    })
