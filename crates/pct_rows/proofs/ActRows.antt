-- The law of cancellation, of a step and of a state: made steps in which a thread acts upon a request, or sets its cancelability, and made
-- states of suspended threads.
-- Some keep the law, and each that does not has the name of the sentence that it breaks.
use Rattle.pct_names.proofs.Names.{[], ap, Asynchronous, Bool, calls_cancellation_point, choices_of, codes, cond, default_config, Deferred}
use Rattle.pct_names.proofs.Names.{Disable, Enable, Event, false, false≢true, first_process, Func, is_at_cancellation_point, is_static}
use Rattle.pct_names.proofs.Names.{IsTrue, List, list_any, map, Mode, nat_eq, new_frame, new_thread, None, none-some, NoStatement}
use Rattle.pct_names.proofs.Names.{option_map_or, Prepare, Process, refl, replicate, Script, Some, State, StatementIn, Status, Stmt, subst}
use Rattle.pct_names.proofs.Names.{sym, Thread, thread_with, true, What, World, ℕ, ◌∙◌, ◌∷◌, ◌≡◌}
use Rattle.std.proofs.lemmas.Bool.{eqb-true, eq-eqb}
use Rattle.pct_model.specs.declared.event.What.TheVariants as what
use Rattle.pct_model.specs.declared.state.Cause.TheVariants as cause
use Rattle.pct_model.specs.declared.state.FrameKind.TheVariants as kind
use Rattle.pct_model.specs.declared.state.Status.TheVariants as status
use Rattle.pct_model.specs.declared.statement.Dest.TheVariants as destination
use Rattle.pct_model.specs.declared.statement.Operand.TheVariants as operand
use Rattle.pct_model.specs.declared.statement.Stmt.TheVariants as statement
use Rattle.pct_model.specs.declared.stop.Why.TheVariants as why
use Rattle.pct_laws.specs.CancelEvents.{has_to_act}
use Rattle.pct_laws.specs.CancelLaw.{acts_where_it_may, acts_at_calls, is_suspended, is_to_act, Awakened, SetsCancelability}
use Rattle.pct_laws.specs.ThreadSteps.{ThreadStep}
use Rattle.pct_rows.proofs.OnLiterals.{checks_on_literals, runs_on_literals}

-- ---- a script

-- `main` calls pthread_testcancel, emits 1, calls read, pthread_join and fclose, and returns
abbrev statements : List Stmt
statements =
    statement.TestCancel
    ∷ statement.Emit (operand.Num 1)
    ∷ statement.PointCall 25
    ∷ statement.Join (operand.Num 2) destination.Drop
    ∷ statement.PointCall 47
    ∷ statement.Return (operand.Num 0)
    ∷ statement.End
    ∷ []

abbrev funcs : List Func
funcs = record { name = codes "main"; locals = codes "x" ∷ []; body = statements } ∷ []

passes : IsTrue (is_static (record { globals = []; mutexes = []; conds = []; sems = []; onces = []; funcs = funcs }))
unfolding checks_on_literals
passes = refl

abbrev script : Script
script = record { globals = []; mutexes = []; conds = []; sems = []; onces = []; funcs = funcs; passes_checks = passes }

-- ---- events

-- an event of thread 1 of process 1
abbrev event : What → Event
event w = record { pid = 1; tid = 1; what = w }

-- the thread requests its own end, after these events
abbrev requested_after : List Event → List Event
requested_after earlier = event (what.Request 1) ∷ earlier

abbrev requested : List Event
requested = requested_after []

-- it disables its cancelability, and makes it asynchronous
abbrev disables : Event
disables = event (what.StateSet false)

abbrev asynchronous : List Event
asynchronous = requested_after (event (what.ModeSet true) ∷ [])

-- ---- steps

-- a thread at a statement of `main`, with this status
abbrev at : ℕ → Status → Thread
at pc status = record (new_thread 1 false (new_frame 0 0 kind.Main)) { status = status; frames = record (new_frame 0 0 kind.Main) { pc = pc } ∷ [] }

-- a step after these events
abbrev step : List Event → Thread → List What → ThreadStep
step earlier before events = record {
  pid = 1;
  tid = 1;
  earlier = earlier;
  process = record (first_process script) { threads = before ∷ [] };
  before = before;
  process_after = record (first_process script) { threads = record before { status = status.Ending; frames = [] } ∷ [] };
  after = record before { status = status.Ending; frames = [] };
  events = events;
}

-- a thread acts upon a request, and does so in a condition wait
abbrev acts : List Event → Thread → ThreadStep
acts earlier before = step earlier before (what.EndingCanceled ∷ [])

abbrev leaves_wait : List Event → Thread → ThreadStep
leaves_wait earlier before = step earlier before (what.WaitCanceled 0 ∷ [])

-- at pthread_testcancel, suspended in a point, and with the asynchronous type at any statement
acts_at_a_point : acts_where_it_may script (acts requested (at 0 status.Running)) ≡ true
unfolding runs_on_literals
acts_at_a_point = refl

acts_in_a_point : acts_where_it_may script (acts requested (at 1 (status.AtPoint 16))) ≡ true
acts_in_a_point = refl

acts_in_a_wait : acts_where_it_may script (leaves_wait requested (at 1 (status.Waiting 0 0))) ≡ true
acts_in_a_wait = refl

acts_anywhere : acts_where_it_may script (acts asynchronous (at 1 status.Running)) ≡ true
unfolding runs_on_literals
acts_anywhere = refl

-- the deferred type, at `emit`
a_deferred_thread_acts_at_a_point : acts_where_it_may script (acts requested (at 1 status.Running)) ≡ false
unfolding runs_on_literals
a_deferred_thread_acts_at_a_point = refl

-- the newest type counts, by the events, whatever the thread has
one_that_was_asynchronous_too : acts_where_it_may script (acts (event (what.ModeSet false) ∷ asynchronous) (at 1 status.Running)) ≡ false
unfolding runs_on_literals
one_that_was_asynchronous_too = refl

by_its_events : acts_where_it_may script (acts requested (record (at 1 status.Running) { mode = Asynchronous })) ≡ false
unfolding runs_on_literals
by_its_events = refl

-- without a statement
nor_where_it_has_no_frame : acts_where_it_may script (acts requested (record (at 0 status.Running) { frames = [] })) ≡ false
nor_where_it_has_no_frame = refl

-- at pthread_testcancel, but with a status that is none of a cancellation point
not_as_it_ends : acts_where_it_may script (acts requested (at 0 status.Ending)) ≡ false
not_as_it_ends = refl

it_leaves_a_wait_where_it_may : acts_where_it_may script (leaves_wait requested (at 1 status.Running)) ≡ false
unfolding runs_on_literals
it_leaves_a_wait_where_it_may = refl

-- ---- steps at calls

-- a running thread with a request to act upon acts at read
acts_at_read : acts_at_calls script (acts requested (at 2 status.Running)) ≡ true
unfolding runs_on_literals
acts_at_read = refl

-- or the call stops the run: there is no thread to join
stops_at_join : acts_at_calls script (step requested (at 3 status.Running) (what.Stopped why.ThreadId ∷ [])) ≡ true
unfolding runs_on_literals
stops_at_join = refl

-- it calls read without a request, and with cancelability disabled; it emits and calls fclose; and it goes on in a point
calls_read : acts_at_calls script (step [] (at 2 status.Running) (what.Called 25 ∷ [])) ≡ true
unfolding runs_on_literals
calls_read = refl

calls_read_while_disabled : acts_at_calls script (step (requested_after (disables ∷ [])) (at 2 status.Running) (what.Called 25 ∷ [])) ≡ true
unfolding runs_on_literals
calls_read_while_disabled = refl

emits : acts_at_calls script (step requested (at 1 status.Running) (what.Emit 1 ∷ [])) ≡ true
unfolding runs_on_literals
emits = refl

calls_fclose : acts_at_calls script (step requested (at 4 status.Running) (what.Done 47 ∷ [])) ≡ true
unfolding runs_on_literals
calls_fclose = refl

returns_from_read : acts_at_calls script (step requested (at 2 (status.AtPoint 25)) (what.Done 25 ∷ [])) ≡ true
returns_from_read = refl

it_does_not_call_read : acts_at_calls script (step requested (at 2 status.Running) (what.Called 25 ∷ [])) ≡ false
unfolding runs_on_literals
it_does_not_call_read = refl

nor_passes_pthread_testcancel : acts_at_calls script (step requested (at 0 status.Running) (what.Done 23 ∷ [])) ≡ false
unfolding runs_on_literals
nor_passes_pthread_testcancel = refl

nor_joins_a_thread : acts_at_calls script (step requested (at 3 status.Running) (what.Called 22 ∷ [])) ≡ false
unfolding runs_on_literals
nor_joins_a_thread = refl

nor_goes_on_without_an_event : acts_at_calls script (step requested (at 2 status.Running) []) ≡ false
unfolding runs_on_literals
nor_goes_on_without_an_event = refl

nor_calls_it_as_it_acts : acts_at_calls script (step requested (at 2 status.Running) (what.EndingCanceled ∷ what.Called 25 ∷ [])) ≡ false
unfolding runs_on_literals
nor_calls_it_as_it_acts = refl

-- ---- steps that set cancelability

-- a thread with this cancelability state and type
abbrev cancelable : State → Mode → Thread
cancelable state mode = record (at 0 status.Running) { state = state; mode = mode }

-- a step with these events, before and after which the thread is such a one
abbrev sets : List What → Thread → Thread → ThreadStep
sets events before after = record (step [] before events) { after = after }

abbrev is_enabled : State → Bool
is_enabled Enable = true
is_enabled Disable = false

abbrev is_deferred : Mode → Bool
is_deferred Deferred = true
is_deferred Asynchronous = false

a_call_sets_the_state : SetsCancelability (sets (what.StateSet false ∷ []) (cancelable Enable Deferred) (cancelable Disable Deferred))
a_call_sets_the_state = record { state = refl; mode = refl }

and_does_not_leave_it : SetsCancelability (sets (what.StateSet false ∷ []) (cancelable Enable Deferred) (cancelable Enable Deferred)) → ⊥
and_does_not_leave_it law = absurd (false≢true (sym (ap is_enabled law.state)))

nor_set_the_type : SetsCancelability (sets (what.StateSet false ∷ []) (cancelable Enable Deferred) (cancelable Disable Asynchronous)) → ⊥
nor_set_the_type law = absurd (false≢true (ap is_deferred law.mode))

another_sets_the_type : SetsCancelability (sets (what.ModeSet true ∷ []) (cancelable Enable Deferred) (cancelable Enable Asynchronous))
another_sets_the_type = record { state = refl; mode = refl }

it_is_asynchronous_then : SetsCancelability (sets (what.ModeSet true ∷ []) (cancelable Enable Deferred) (cancelable Enable Deferred)) → ⊥
it_is_asynchronous_then law = absurd (false≢true (sym (ap is_deferred law.mode)))

or_deferred : SetsCancelability (sets (what.ModeSet false ∷ []) (cancelable Enable Asynchronous) (cancelable Enable Deferred))
or_deferred = record { state = refl; mode = refl }

it_is_deferred_then : SetsCancelability (sets (what.ModeSet false ∷ []) (cancelable Enable Asynchronous) (cancelable Enable Asynchronous)) → ⊥
it_is_deferred_then law = absurd (false≢true (ap is_deferred law.mode))

it_is_disabled_and_deferred_at_the_end : SetsCancelability (sets (what.EndingCanceled ∷ []) (cancelable Enable Asynchronous) (cancelable Disable Deferred))
it_is_disabled_and_deferred_at_the_end = record { state = refl; mode = refl }

so_it_is_in_a_wait : SetsCancelability (sets (what.Acquired 0 ∷ what.EndingInWait 0 0 ∷ []) (cancelable Enable Asynchronous) (cancelable Disable Deferred))
so_it_is_in_a_wait = record { state = refl; mode = refl }

no_end_leaves_it_enabled : SetsCancelability (sets (what.EndingExit 5 ∷ []) (cancelable Enable Asynchronous) (cancelable Enable Deferred)) → ⊥
no_end_leaves_it_enabled law = absurd (false≢true (sym (ap is_enabled law.state)))

nor_asynchronous : SetsCancelability (sets (what.EndingExit 5 ∷ []) (cancelable Enable Asynchronous) (cancelable Disable Asynchronous)) → ⊥
nor_asynchronous law = absurd (false≢true (ap is_deferred law.mode))

no_other_step_enables_it : SetsCancelability (sets (what.Emit 1 ∷ []) (cancelable Disable Deferred) (cancelable Enable Deferred)) → ⊥
no_other_step_enables_it law = absurd (false≢true (sym (ap is_enabled law.state)))

-- ---- cancellation points

-- the statements that call a function that is a cancellation point, and others
points : map (λ s. calls_cancellation_point (StatementIn (new_frame 0 0 kind.Main) s)) (statement.TestCancel ∷ statement.Join (operand.Num 2) (destination.Drop) ∷ statement.CondWait 0 0 ∷ statement.CondTimedWait destination.Drop 0 0 ∷ statement.SemWait 0 ∷ statement.SemTimedWait destination.Drop 0 ∷ statement.WaitPid destination.Drop (operand.Num 2) destination.Drop ∷ statement.PointCall 25 ∷ []) ≡ replicate 8 true
unfolding runs_on_literals
points = refl

no_points : map (λ s. calls_cancellation_point (StatementIn (new_frame 0 0 kind.Main) s)) (statement.Emit (operand.Num 1) ∷ statement.Lock 0 ∷ statement.Unlock 0 ∷ statement.SemPost 0 ∷ statement.ThreadExit (operand.Num 1) ∷ statement.Fork destination.Drop destination.Drop ∷ statement.CancelThread (operand.Num 1) ∷ statement.PointCall 999 ∷ []) ≡ replicate 8 false
unfolding runs_on_literals
no_points = refl

-- the statuses of a thread that is suspended in such a call, whatever its next statement; and the others, without a statement
at_a_point : map (is_at_cancellation_point NoStatement) (status.AtPoint 16 ∷ status.Joining 2 ∷ status.InSem 0 ∷ status.InWaitPid 2 ∷ status.Waiting 0 0 ∷ status.Reacquire 0 0 cause.Signalled ∷ status.Reacquire 0 0 cause.Broadcast ∷ status.Reacquire 0 0 cause.TimedOut ∷ status.Reacquire 0 0 cause.Canceled ∷ []) ≡ replicate 9 true
at_a_point = refl

at_none : map (is_at_cancellation_point NoStatement) (status.Running ∷ status.Ending ∷ status.Forking (record { phase = Prepare; next = 0; length = 0; answer = 0 }) ∷ status.Exiting ∷ status.Ended 5 ∷ []) ≡ replicate 5 false
at_none = refl

-- ---- states

-- process 1 with thread 1 alone, which has this status and state, and a request pending or not
abbrev thread : Status → State → Bool → Thread
thread status state pending = record (new_thread 1 false (new_frame 0 0 kind.Main)) { status = status; state = state; pending = pending }

abbrev process : Thread → Process
process t = record (first_process script) { threads = t ∷ [] }

abbrev world : Thread → World
world t = record { processes = process t ∷ []; stop = None }

-- the law of this state
abbrev IsAwakened : Thread → List Event → Type 0
IsAwakened t events = Awakened script default_config (world t) events

-- the choices of the thread
abbrev may_act : Thread → Bool
may_act t = list_any is_to_act (choices_of script default_config (world t) (process t) t)

-- what is found among one is that one
found_one : {T : Type 0} (x y : T) (is_it : Bool) → cond is_it (Some x) None ≡ Some y → (is_it ≡ true) × (x ≡ y)
found_one x y true is = (refl, ap (λ o. option_map_or (λ z. z) o x) is)
found_one x y false is = absurd (none-some y is)

-- the law of a state with one thread
awakened : (t : Thread) (events : List Event) → t.id ≡ 1 → (is_suspended t.status ≡ true → has_to_act 1 1 events ≡ true → may_act t ≡ true) → IsAwakened t events
awakened t events first kept pid p is_process tid u is_thread here suspended acts =
    let found = found_one (process t) p (nat_eq 1 pid) is_process in
    let has : thread_with tid (process t) ≡ Some u = ap (λ (q : Process). thread_with tid q) found.1 ∙ is_thread in
    let own = found_one t u (nat_eq t.id tid) has in
    let its_pid : 1 ≡ pid = eqb-true 1 pid found.0 in
    let its_tid : 1 ≡ tid = sym first ∙ eqb-true t.id tid own.0 in
    let acts_there : has_to_act 1 1 events ≡ true = ap (λ n. has_to_act 1 n events) its_tid ∙ ap (λ n. has_to_act n tid events) its_pid ∙ acts in
    let may : may_act t ≡ true = kept (ap (λ (x : Thread). is_suspended x.status) own.1 ∙ suspended) acts_there in
    subst (λ (q : Process). list_any is_to_act (choices_of script default_config (world t) q u) ≡ true) found.1 (subst (λ (x : Thread). list_any is_to_act (choices_of script default_config (world t) (process t) x) ≡ true) own.1 may)

-- the statuses of threads that are suspended in a cancellation point
abbrev suspended_ones : List Status
suspended_ones = status.AtPoint 16 ∷ status.AtPoint 25 ∷ status.Joining 2 ∷ status.InSem 0 ∷ status.InWaitPid 2 ∷ status.Waiting 0 0 ∷ status.Reacquire 0 0 cause.Signalled ∷ status.Reacquire 0 0 cause.Broadcast ∷ status.Reacquire 0 0 cause.TimedOut ∷ []

are_suspended : map is_suspended suspended_ones ≡ replicate 9 true
are_suspended = refl

are_not : map is_suspended (status.Running ∷ status.Reacquire 0 0 cause.Canceled ∷ status.Ending ∷ status.Forking (record { phase = Prepare; next = 0; length = 0; answer = 0 }) ∷ status.Exiting ∷ status.Ended 5 ∷ []) ≡ replicate 6 false
are_not = refl

-- with a request pending each of them may act
each_may_act : map (λ status. may_act (thread status Enable true)) suspended_ones ≡ replicate 9 true
unfolding runs_on_literals
each_may_act = refl

is_awakened : IsAwakened (thread (status.AtPoint 16) Enable true) (requested_after [])
unfolding runs_on_literals
is_awakened = awakened (thread (status.AtPoint 16) Enable true) (requested_after []) refl (λ is acts. refl)

-- one that has no request to act upon may wait on: without a request, and with cancelability disabled
waits_on : IsAwakened (thread (status.AtPoint 16) Enable false) []
waits_on = awakened (thread (status.AtPoint 16) Enable false) [] refl (λ is acts. absurd (false≢true acts))

waits_on_while_disabled : IsAwakened (thread (status.AtPoint 16) Disable true) (requested_after (disables ∷ []))
waits_on_while_disabled = awakened (thread (status.AtPoint 16) Disable true) (requested_after (disables ∷ [])) refl (λ is acts. absurd (false≢true acts))

-- and one that is not suspended is not asked
runs_on : IsAwakened (thread status.Running Disable true) (requested_after [])
runs_on = awakened (thread status.Running Disable true) (requested_after []) refl (λ is acts. absurd (false≢true is))

-- the request is not pending, or cancelability is disabled, against the events
a_request_is_pending : IsAwakened (thread (status.AtPoint 16) Enable false) (requested_after []) → ⊥
unfolding runs_on_literals
a_request_is_pending law = absurd (false≢true (law 1 (process (thread (status.AtPoint 16) Enable false)) refl 1 (thread (status.AtPoint 16) Enable false) refl refl refl refl))

cancelability_is_enabled : IsAwakened (thread (status.AtPoint 16) Disable true) (requested_after []) → ⊥
unfolding runs_on_literals
cancelability_is_enabled law = absurd (false≢true (law 1 (process (thread (status.AtPoint 16) Disable true)) refl 1 (thread (status.AtPoint 16) Disable true) refl refl refl refl))

-- so it is with each of the statuses: a state in which such a thread may not act upon the request is refused
a_suspended_thread_is_awakened : (t : Thread) → t.id ≡ 1 → t.gone ≡ false → is_suspended t.status ≡ true → may_act t ≡ false → IsAwakened t (requested_after []) → ⊥
a_suspended_thread_is_awakened t first here suspended may_not law =
    absurd (false≢true (sym may_not ∙ law 1 (process t) refl 1 t (ap (λ b. cond b (Some t) None) (eq-eqb t.id 1 first)) here suspended refl))

none_may_act : map (λ status. may_act (thread status Enable false)) suspended_ones ≡ replicate 9 false
unfolding runs_on_literals
none_may_act = refl
