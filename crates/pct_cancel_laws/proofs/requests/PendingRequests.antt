-- A request is pending for a thread that has not ended exactly if the events report one.
use Rattle.pct_names.proofs.Names.{◌&&◌, [], Alt, and_from, and_left, ap, ap₂, body_at, Bool, changed, cond, Config, Entry, environment_of}
use Rattle.pct_names.proofs.Names.{Event, event_of, false, false≢true, find, has_valid_id, holds_slot, inl, inr, is_waiting_on, List}
use Rattle.pct_names.proofs.Names.{list_any, made_process, map, moved, named_after, NamedAction, nat_eq, next_of, NextStatement, None}
use Rattle.pct_names.proofs.Names.{none-some, not, Option, option_and_then, or_from, own_after, OwnAction, Process, refl, requests, reverse}
use Rattle.pct_names.proofs.Names.{same_Some, Script, SharedState, Some, Status, Stmt, subst, suc, sym, Thread, thread_at, thread_moved}
use Rattle.pct_names.proofs.Names.{thread_with, Transition, transition_by, true, unblocked, value_of, What, with_id, World, ◌||◌, ℕ, ◌∙◌}
use Rattle.pct_names.proofs.Names.{◌∷◌, ◌≡◌, ◌⊎◌}
use mathlib.Core.Bool.{or-false, or_assoc}
use Rattle.std.proofs.Common.{eqb-true, eq-eqb, ne_eqb}
use Rattle.std.proofs.lemmas.Bool.{true≢false}
use Rattle.pct_model.specs.declared.state.Cause.TheVariants as cause
use Rattle.pct_model.specs.declared.state.Status.TheVariants as status
use Rattle.pct_model.specs.declared.transition.NamedAction.TheVariants as named_action
use Rattle.pct_model.specs.declared.transition.OwnAction.TheVariants as own_action
use Rattle.pct_laws.specs.CancelEvents.{requests_id, is_requested}
use Rattle.pct_laws.specs.Kept.{EachThread}
use Rattle.pct_laws.specs.KnownThreads.{is_in}
use Rattle.pct_transition_cases.proofs.CaseOfTransition.{case_of}
use Rattle.pct_transition_cases.proofs.TransitionCases.{TransitionCase, request_sent, fork_handler_called}
use Rattle.pct_thread_invariants.proofs.lift.KeyedLists.{found_passes}
use Rattle.pct_thread_invariants.proofs.lift.TakenSteps.{AfterEveryRun}
use Rattle.pct_thread_invariants.proofs.lift.ChangedThreads.{either_keeps, going_on_keeps, other_threads, named_keeps}
use Rattle.pct_thread_invariants.proofs.lift.HandlerEvents.{of_each_phase}
use Rattle.pct_thread_invariants.proofs.lift.ReportedBy.{Reading, reported_by, is_reading, after_own}
use Rattle.pct_thread_invariants.proofs.lift.ThreadsAfter.{initial_thread, Moves, mover, After, was_made, is_new, is_absent, after}
use Rattle.pct_thread_invariants.proofs.lift.ThreadsAfter.{same_gone}
use Rattle.pct_thread_invariants.proofs.lift.InheritedThreads.{Heir, is_replica, is_gone, has_none, heir}
use Rattle.pct_thread_invariants.proofs.lift.MadeThreads.{with_valid_id}
use Rattle.pct_thread_invariants.proofs.lift.EveryProcess.{FitsReports, IsProcessRule, every_process, moves_of_run}
use Rattle.pct_thread_invariants.proofs.thread.NamedThreads.{swapped, unnamed, unnamed_flags, IsNamed, named_by}

-- ---- transitions

-- the action sends no request
abbrev sends_none : Option NamedAction → Bool
sends_none (Some (named_action.Request id)) = false
sends_none _ = true

-- the transition sends no request
record SendsNone (o : Transition) : Type 0 where
  named : sends_none o.named ≡ true
  events : (id : ℕ) → list_any (requests_id id) (reverse o.events) ≡ false

-- the transition sends a request to a thread that holds its slot, and nothing else
record SendsOne (threads : List Thread) (o : Transition) : Type 0 where
  next : ℕ
  id : ℕ
  target : Thread
  is_target : with_id id threads ≡ Some target
  is : requests next id ≡ o

module _ (config : Config) (w : World) (p : Process) (passes : ℕ) (body : List Stmt) (shared : SharedState) (t : Thread) where
  -- each case sends one request, or none
  case_sends : {next : NextStatement} {s : Status} {o : Transition} → TransitionCase passes body shared t (environment_of config w p t.id) false next s o → SendsNone o ⊎ SendsOne p.threads o
  unfolding environment_of requests
  case_sends (request_sent frame id target is) = inr (record { next = suc frame.pc; id = value_of shared.globals frame id; target = target; is_target = is; is = refl })
  case_sends (fork_handler_called next at call is) = inl (record { named = refl; events = λ id. of_each_phase (λ (w : What). list_any (requests_id id) (w ∷ []) ≡ false) call.func refl refl refl at.phase })
  case_sends _ = inl (record { named = refl; events = λ id. refl })

-- each transition sends one request, or none
sends : (script : Script) (config : Config) (w : World) (p : Process) (t : Thread) (choice : Alt) → SendsNone (transition_by script config w p t choice) ⊎ SendsOne p.threads (transition_by script config w p t choice)
sends script config w p t choice =
    case_sends config w p config.passes (body_at script t.frames) p.shared t
    (case_of config.passes (body_at script t.frames) p.shared t (environment_of config w p t.id) false choice (next_of script t.frames) t.status (λ known. absurd (false≢true known)))

-- ---- a thread

-- an action of a thread's own transition changes no pending request
after_action : (a : Option OwnAction) (t : Thread) → (own_after a t).pending ≡ t.pending
unfolding own_after
after_action (Some own_action.PopHandler) t = refl
after_action _ t = refl

-- nor does its whole transition
own_pending : (o : Transition) (t : Thread) → (moved o t).pending ≡ t.pending
own_pending o t = after_action o.own _ ∙ going_on_keeps (λ (u : Thread). u.pending) (λ t s frames. refl) o.next t

-- an action that sends no request changes none
quiet_action : (a : Option NamedAction) → sends_none a ≡ true → (t : Thread) → (named_after a t).pending ≡ t.pending
unfolding named_after
quiet_action (Some (named_action.EndJoin id)) is t = either_keeps (λ (u : Thread). u.pending) (has_valid_id id t) (record t { joined = true }) t t refl refl
quiet_action (Some (named_action.Request id)) is t = absurd (false≢true is)
quiet_action (Some (named_action.Detach id)) is t = either_keeps (λ (u : Thread). u.pending) (has_valid_id id t) (record t { detached = true }) t t refl refl
quiet_action (Some (named_action.Wake id)) is t = either_keeps (λ (u : Thread). u.pending) (has_valid_id id t) (record t { status = unblocked cause.Signalled t.status }) t t refl refl
quiet_action (Some (named_action.WakeAll c)) is t = either_keeps (λ (u : Thread). u.pending) (is_waiting_on c t.status) (record t { status = unblocked cause.Broadcast t.status }) t t refl refl
quiet_action _ is t = refl

-- a request becomes pending for the thread that it names, unless that has ended
request_action : (id : ℕ) (t : Thread) → (named_after (Some (named_action.Request id)) t).pending ≡ ((has_valid_id id t && not t.ended) || t.pending)
unfolding named_after
request_action id t = by (has_valid_id id t && not t.ended)
  where
    by : (b : Bool) → (cond b (record t { pending = true }) t).pending ≡ (b || t.pending)
    by true = refl
    by false = refl

-- a thread that has not ended after an action of its own had not ended before it
unended_before : (a : Option OwnAction) (t : Thread) → (own_after a t).ended ≡ false → t.ended ≡ false
unfolding own_after
unended_before (Some (own_action.EndThread v)) t alive = absurd (true≢false alive)
unended_before (Some own_action.EndLast) t alive = absurd (true≢false alive)
unended_before _ t alive = alive

module _ (tid : ℕ) (o : Transition) (u : Thread) where
  -- its own transition, if it is the thread that moves
  moved_unended : (live : Bool) → (cond live (moved o u) u).ended ≡ false → u.ended ≡ false
  moved_unended true alive = sym (going_on_keeps (λ (x : Thread). x.ended) (λ t s frames. refl) o.next u) ∙ unended_before o.own _ alive
  moved_unended false alive = alive

  -- an action that names a thread does not end it
  same_end : (thread_moved tid o u).ended ≡ (unnamed tid o u).ended
  same_end = named_keeps (λ (x : Thread). x.ended) (λ t j p d k s is. refl) o.named (unnamed tid o u)

  -- a thread that has not ended after a transition had not ended before it
  unended : (thread_moved tid o u).ended ≡ false → u.ended ≡ false
  unended alive = moved_unended (has_valid_id tid u) (sym same_end ∙ alive)

  -- a request is pending for it until an action names it, as before
  same_pending : (unnamed tid o u).pending ≡ u.pending
  same_pending = either_keeps (λ (x : Thread). x.pending) (has_valid_id tid u) (moved o u) u u (own_pending o u) refl

-- ---- what is reported

-- the events report a request for the thread with an id
abbrev request_for : ℕ → Reading Bool
request_for id = record { start = λ initial. false; next = λ e k. requests_id id e.what || k; inherits = λ e. false; born = λ parent k. k }

-- after the events of a step
request_later : (e : Entry) (id : ℕ) (added : List What) (k : Bool) → after_own (request_for id) (map (event_of e) added) k ≡ (list_any (requests_id id) added || k)
request_later e id [] k = refl
request_later e id (w ∷ added) k = ap (λ (rest : Bool). requests_id id w || rest) (request_later e id added k) ∙ sym (or_assoc (requests_id id w) (list_any (requests_id id) added) k)

-- one event
request_event : (own requests k : Bool) → ((own && requests) || k) ≡ cond own (requests || k) k
request_event true requests k = refl
request_event false requests k = refl

-- the requests of CancelEvents.antt are the reading
request_reading : (tid pid : ℕ) (events : List Event) → is_requested pid tid events ≡ reported_by (request_for tid) pid events
request_reading tid = is_reading (request_for tid) (λ pid events. is_requested pid tid events) (λ pid. refl) (λ pid e earlier. request_event (is_in pid e) (requests_id tid e.what) (is_requested pid tid earlier))

-- a thread that was made and has not ended has the request that is reported; none is reported for one that was not made
abbrev IsPending : Option Thread → Bool → Type 0
IsPending None k = k ≡ false
IsPending (Some t) k = t.gone ≡ false → t.ended ≡ false → t.pending ≡ k

-- each thread of a process has the request that is reported
abbrev ArePending : Process → (ℕ → Bool) → Type 0
ArePending p k = (id : ℕ) → IsPending (thread_with id p) (k id)

-- ---- a step

module _ (script : Script) (config : Config) (w : World) (p : Process) (e : Entry) (t : Thread) (k : ℕ → Bool) (moves : Moves script config w p e t) (pending : ArePending p k) where
  abbrev o : Transition
  o = transition_by script config w p t e.alt

  -- the events of the step report a request for the thread with an id
  abbrev sent : ℕ → Bool
  sent id = list_any (requests_id id) (reverse o.events)

  -- the thread with an id, before the step
  before : (id : ℕ) (found : Option Thread) → thread_with id p ≡ found → IsPending found (k id)
  before id found is = subst (λ (x : Option Thread). IsPending x (k id)) is (pending id)

  -- a thread that was made before
  made_before : (id : ℕ) (u : Thread) → thread_with id p ≡ Some u → (thread_moved e.tid o u).gone ≡ false → (thread_moved e.tid o u).ended ≡ false → u.pending ≡ k id
  made_before id u is here alive = before id (Some u) is (sym (same_gone e.tid o u) ∙ here) (unended e.tid o u alive)

  module _ (none : SendsNone o) where
    -- a transition that sends no request keeps the requests
    none_by : (id : ℕ) {found : Option Thread} → After script config w p e t moves id found → IsPending found (sent id || k id)
    none_by id (was_made u is new) = λ here alive.
        quiet_action o.named none.named (unnamed e.tid o u) ∙ same_pending e.tid o u ∙ made_before id u is here alive ∙ ap (λ (b : Bool). b || k id) (sym (none.events id))
    none_by id (is_new new is makes named) = λ here alive. sym (or_from (sent id) (k id) (none.events id) (before id None is))
    none_by id (is_absent is new) = or_from (sent id) (k id) (none.events id) (before id None is)

  module _ (one : SendsOne p.threads o) where
    -- the events report the request that is sent
    is_sent : (id : ℕ) → sent id ≡ nat_eq one.id id
    unfolding requests
    is_sent id = ap (λ (x : Transition). list_any (requests_id id) (reverse x.events)) (sym one.is) ∙ or-false (nat_eq one.id id)

    -- the thread that sends a request runs on
    runs : (u : Thread) → (moved o u).status ≡ status.Running
    unfolding requests thread_at own_after
    runs u = ap (λ (x : Transition). (moved x u).status) (sym one.is)

    -- the target was made
    target_made : thread_with one.id p ≡ Some one.target
    target_made = (with_valid_id one.id p one.target moves.ids.distinct one.is_target).found

    -- a transition keeps the id of a thread
    same_id : (id : ℕ) (u : Thread) → thread_with id p ≡ Some u → (unnamed e.tid o u).id ≡ id
    same_id id u is = ap (λ (f : ℕ × Bool × Bool × Bool). f.0) (unnamed_flags e.tid o u) ∙ eqb-true u.id id (found_passes (λ (x : Thread). nat_eq x.id id) p.threads u is)

    -- the thread that the request names, or another one
    named_pending : (id : ℕ) (u : Thread) → thread_with id p ≡ Some u → (unnamed e.tid o u).ended ≡ false → (same : Bool) → nat_eq one.id id ≡ same → ((has_valid_id one.id (unnamed e.tid o u) && not (unnamed e.tid o u).ended) || u.pending) ≡ (same || u.pending)
    named_pending id u is alive true same =
        let it : one.id ≡ id = eqb-true one.id id same in
        let named : IsNamed p e.tid t moves.ids.distinct o id = named_by p e.tid t moves.ids.distinct o one.id id one.target one.is_target (eq-eqb id one.id (sym it)) (runs one.target) in
        let target : named.target ≡ u = same_Some named.target u (sym named.made ∙ is) in
        let live : has_valid_id one.id (unnamed e.tid o u) ≡ true =
        and_from (nat_eq (unnamed e.tid o u).id one.id) (holds_slot (unnamed e.tid o u)) (eq-eqb (unnamed e.tid o u).id one.id (same_id id u is ∙ sym it)) (ap (λ (x : Thread). holds_slot (unnamed e.tid o x)) (sym target) ∙ named.holds) in
        ap₂ (λ (live ended : Bool). (live && not ended) || u.pending) live alive
    named_pending id u is alive false other =
        ap (λ (live : Bool). (live && not (unnamed e.tid o u).ended) || u.pending)
        (and_left (nat_eq (unnamed e.tid o u).id one.id) (holds_slot (unnamed e.tid o u)) (ap (λ (n : ℕ). nat_eq n one.id) (same_id id u is) ∙ swapped id one.id ∙ other))

    -- a transition that sends a request keeps the requests
    one_by : (id : ℕ) {found : Option Thread} → After script config w p e t moves id found → IsPending found (sent id || k id)
    unfolding requests
    one_by id (was_made u is new) = λ here alive.
        ap (λ (x : Transition). (named_after x.named (unnamed e.tid o u)).pending) (sym one.is) ∙ request_action one.id (unnamed e.tid o u)
        ∙ ap (λ (b : Bool). (has_valid_id one.id (unnamed e.tid o u) && not (unnamed e.tid o u).ended) || b) (same_pending e.tid o u)
        ∙ named_pending id u is (sym (same_end e.tid o u) ∙ alive) (nat_eq one.id id) refl
        ∙ ap₂ (λ (a b : Bool). a || b) (sym (is_sent id)) (made_before id u is here alive)
    one_by id (is_new new is makes named) = absurd (none-some new (ap (λ (x : Transition). x.created) one.is ∙ makes))
    one_by id (is_absent is new) =
        or_from (sent id) (k id) (is_sent id ∙ ne_eqb one.id id (λ same. none-some one.target (sym is ∙ ap (λ (n : ℕ). thread_with n p) (sym same) ∙ target_made))) (before id None is)

  -- and so each transition
  own_by : SendsNone o ⊎ SendsOne p.threads o → (id : ℕ) → IsPending (thread_with id (changed e.tid o p)) (sent id || k id)
  own_by (inl none) id = none_by none id (after script config w p e t moves id)
  own_by (inr one) id = one_by one id (after script config w p e t moves id)

  -- the requests of the process after the step are those that are reported then
  own_kept : ArePending (changed e.tid o p) (λ id. after_own (request_for id) (map (event_of e) (reverse o.events)) (k id))
  own_kept id = subst (IsPending (thread_with id (changed e.tid o p))) (sym (request_later e id (reverse o.events) (k id))) (own_by (sends script config w p t e.alt) id)

  -- no request is pending for the replica of a thread that forks
  born_by : (id : ℕ) {found : Option Thread} → Heir p e.tid t id found → IsPending found false
  born_by id (is_replica named) = λ here alive. refl
  born_by id (is_gone u found other) = λ here alive. absurd (true≢false here)
  born_by id (has_none other) = refl

-- ---- every run

module _ (script : Script) (config : Config) where
  -- none is pending for the initial thread
  initial_by : (same : Bool) → IsPending (cond same (Some (initial_thread script)) None) false
  initial_by true = λ here alive. refl
  initial_by false = refl

  -- each step keeps the requests
  request_rule : IsProcessRule request_for ArePending script config (Moves script config)
  request_rule = record {
    initial = λ id. initial_by (nat_eq 1 id);
    own = λ w p e t k moves pending. own_kept script config w p e t k moves pending;
    born = λ w p e t k new moves fork pending id. born_by script config w p e t k moves pending id (heir e.tid new p t (mover script config w p e t moves) id);
    other = λ pid o p k pending. subst (λ (threads : List Thread). (id : ℕ) → IsPending (find (λ t. nat_eq t.id id) threads) (k id)) (sym (other_threads pid o p)) pending;
  }

  -- and so for a thread of a process, if that was made
  by_process : (tid : ℕ) (found : Option Process) (k : ℕ → Bool) → FitsReports request_for ArePending found k → IsPending (option_and_then (thread_with tid) found) (k tid)
  by_process tid None k nothing = nothing tid
  by_process tid (Some p) k pending = pending tid

  -- after every run, a request is pending for a thread that has not ended exactly if the events report one
  pub pending_of_run : AfterEveryRun script config (λ r. EachThread r.world (λ pid tid t. t.ended ≡ false → t.pending ≡ is_requested pid tid r.events))
  pending_of_run entries r is pid tid t made here alive =
      subst (λ (found : Option Thread). IsPending found (reported_by (request_for tid) pid r.events)) made
      (by_process tid (made_process pid r.world) (λ id. reported_by (request_for id) pid r.events) (every_process request_for ArePending script config (Moves script config) request_rule (moves_of_run script config) entries r is pid))
      here alive ∙ sym (request_reading tid pid r.events)
