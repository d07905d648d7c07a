-- A thread of a process after a transition of one of them: whether it is joined and detached, by the action that names a thread.
use Rattle.pct_names.proofs.Names.{◌&&◌, [], acts_on_request, ap, begins_join, Bool, cond, creates, detaches, ends_join, Environment}
use Rattle.pct_names.proofs.Names.{eqb-false, false, false≢true, has_valid_id, holds_slot, is_ended_status, is_waiting_on, List, list_any}
use Rattle.pct_names.proofs.Names.{moved, named_after, NamedAction, nat_eq, NewThread, NextStatement, not, Option, option_map_or, own_after}
use Rattle.pct_names.proofs.Names.{Process, refl, requests, reverse, SharedState, Some, Status, Stmt, sym, Thread, thread_at, thread_moved}
use Rattle.pct_names.proofs.Names.{thread_with, Transition, true, unblocked, value_of, What, with_id, ◌||◌, ℕ, ◌∙◌, ◌∷◌, ◌≡◌}
use mathlib.Core.Bool.{or-false}
use Rattle.std.proofs.Common.{ne_eqb, eqb-true, eq-eqb}
use Rattle.pct_model.specs.declared.state.Cause.TheVariants as cause
use Rattle.pct_model.specs.declared.state.Status.TheVariants as status
use Rattle.pct_model.specs.declared.transition.NamedAction.TheVariants as named_action
use Rattle.pct_thread_invariants.proofs.lift.HandlerEvents.{of_each_phase}
use Rattle.pct_laws.specs.KnownThreads.{detaches_id, joins_id}
use Rattle.pct_thread_invariants.proofs.lift.KeyedLists.{AreDistinct}
use Rattle.pct_thread_invariants.proofs.lift.ThreadIds.{ids_of}
use Rattle.pct_thread_invariants.proofs.lift.ChangedThreads.{either_keeps, flags, moved_flags}
use Rattle.pct_thread_invariants.proofs.lift.MadeThreads.{HasValidId, with_valid_id}
use Rattle.pct_thread_invariants.proofs.thread.JoinTransitions.{Kind, quiet, ends, detaches_one}
use Rattle.pct_thread_invariants.proofs.thread.JoinTransitions.{names_detach, releases, names_join}
use Rattle.pct_transition_cases.proofs.TransitionCases.{TransitionCase, thread_made, join_ended, thread_detached, fork_handler_called}

-- ---- what the events report

pub swapped : (m n : ℕ) → nat_eq m n ≡ nat_eq n m
swapped m n = by_test (nat_eq m n) refl
  where
    by_test : (same : Bool) → nat_eq m n ≡ same → same ≡ nat_eq n m
    by_test true is = sym (eq-eqb n m (sym (eqb-true m n is)))
    by_test false is = sym (ne_eqb n m (λ same. eqb-false m n is (sym same)))

module _ (id : ℕ) where
  -- the thread is the one that is created, and is detached
  abbrev pub created_detached : Option NewThread → Bool
  created_detached created = option_map_or (λ new. nat_eq new.id id && new.detached) created false

  module _ {passes : ℕ} {body : List Stmt} {shared : SharedState} {t : Thread} {environment : Environment} {offered : Bool} where
    -- the events report the thread that is joined
    pub joined_reported : {next : NextStatement} {s : Status} {o : Transition} → TransitionCase passes body shared t environment offered next s o → list_any (joins_id id) (reverse o.events) ≡ names_join id o.named
    joined_reported (join_ended frame operand d n v target is ended) = or-false (nat_eq n id) ∙ swapped n id
    joined_reported (fork_handler_called next at call is) = of_each_phase (λ (w : What). list_any (joins_id id) (w ∷ []) ≡ false) call.func refl refl refl at.phase
    joined_reported _ = refl

    -- the events report the thread that is detached, and whether the one that is created is
    pub detached_reported : {next : NextStatement} {s : Status} {o : Transition} → TransitionCase passes body shared t environment offered next s o → list_any (detaches_id id) (reverse o.events) ≡ (names_detach id o.named || created_detached o.created)
    detached_reported (thread_made frame result d f v detached new among) = or-false (nat_eq new id && detached)
    detached_reported (thread_detached frame n target is joinable alone) = ap (λ (b : Bool). b || false) (swapped (value_of shared.globals frame n) id)
    detached_reported (fork_handler_called next at call is) = of_each_phase (λ (w : What). list_any (detaches_id id) (w ∷ []) ≡ false) call.func refl refl refl at.phase
    detached_reported _ = refl

-- ---- the threads of the process

-- a thread that is named becomes joined or detached by it
becomes : (flag : Thread → Bool) (b : Bool) (x y : Thread) → flag x ≡ true → flag (cond b x y) ≡ (b || flag y)
becomes flag true x y is = is
becomes flag false x y is = refl

named_joined : (a : Option NamedAction) (t : Thread) → (named_after a t).joined ≡ ((names_join t.id a && holds_slot t) || t.joined)
unfolding named_after
named_joined (Some (named_action.EndJoin id)) t = becomes (λ (u : Thread). u.joined) (has_valid_id id t) (record t { joined = true }) t refl
named_joined (Some (named_action.Request id)) t = either_keeps (λ (u : Thread). u.joined) (has_valid_id id t && not t.ended) (record t { pending = true }) t t refl refl
named_joined (Some (named_action.Detach id)) t = either_keeps (λ (u : Thread). u.joined) (has_valid_id id t) (record t { detached = true }) t t refl refl
named_joined (Some (named_action.Wake id)) t = either_keeps (λ (u : Thread). u.joined) (has_valid_id id t) (record t { status = unblocked cause.Signalled t.status }) t t refl refl
named_joined (Some (named_action.WakeAll c)) t = either_keeps (λ (u : Thread). u.joined) (is_waiting_on c t.status) (record t { status = unblocked cause.Broadcast t.status }) t t refl refl
named_joined _ t = refl

named_detached : (a : Option NamedAction) (t : Thread) → (named_after a t).detached ≡ ((names_detach t.id a && holds_slot t) || t.detached)
unfolding named_after
named_detached (Some (named_action.EndJoin id)) t = either_keeps (λ (u : Thread). u.detached) (has_valid_id id t) (record t { joined = true }) t t refl refl
named_detached (Some (named_action.Request id)) t = either_keeps (λ (u : Thread). u.detached) (has_valid_id id t && not t.ended) (record t { pending = true }) t t refl refl
named_detached (Some (named_action.Detach id)) t = becomes (λ (u : Thread). u.detached) (has_valid_id id t) (record t { detached = true }) t refl
named_detached (Some (named_action.Wake id)) t = either_keeps (λ (u : Thread). u.detached) (has_valid_id id t) (record t { status = unblocked cause.Signalled t.status }) t t refl refl
named_detached (Some (named_action.WakeAll c)) t = either_keeps (λ (u : Thread). u.detached) (is_waiting_on c t.status) (record t { status = unblocked cause.Broadcast t.status }) t t refl refl
named_detached _ t = refl

-- the thread runs after a transition that joins or detaches a thread
runs_after : {tid : ℕ} {threads : List Thread} {s : Status} {o : Transition} → (k : Kind tid threads s o) (id : ℕ) → releases id o.named ≡ true → (t : Thread) → (moved o t).status ≡ status.Running
unfolding creates begins_join ends_join detaches requests acts_on_request thread_at own_after
runs_after (ends next d n v target s is_target ended) id names t = refl
runs_after (detaches_one next n target s is_target alone) id names t = refl
runs_after (quiet is nothing) id names t = absurd (false≢true (sym (is.named id) ∙ names))
runs_after _ id names t = absurd (false≢true names)

module _ (tid : ℕ) (o : Transition) where
  -- a thread before the action that may name it
  abbrev pub unnamed : Thread → Thread
  unnamed u = cond (has_valid_id tid u) (moved o u) u

  pub unnamed_flags : (u : Thread) → flags (unnamed u) ≡ flags u
  unnamed_flags u = either_keeps flags (has_valid_id tid u) (moved o u) u u (moved_flags o u) refl

  -- a thread becomes joined where the action joins it, and detached where it detaches it
  pub joined_after : (u : Thread) → (thread_moved tid o u).joined ≡ ((names_join u.id o.named && holds_slot (unnamed u)) || u.joined)
  joined_after u = named_joined o.named (unnamed u) ∙ ap (λ (f : ℕ × Bool × Bool × Bool). (names_join f.0 o.named && holds_slot (unnamed u)) || f.2) (unnamed_flags u)

  pub detached_after : (u : Thread) → (thread_moved tid o u).detached ≡ ((names_detach u.id o.named && holds_slot (unnamed u)) || u.detached)
  detached_after u = named_detached o.named (unnamed u) ∙ ap (λ (f : ℕ × Bool × Bool × Bool). (names_detach f.0 o.named && holds_slot (unnamed u)) || f.3) (unnamed_flags u)

module _ (p : Process) (tid : ℕ) (t : Thread) (distinct : AreDistinct (ids_of p.threads)) where
  -- the thread that a transition names, which holds its slot until then
  pub record IsNamed (o : Transition) (id : ℕ) : Type 0 where
    pub target : Thread
    pub made : thread_with id p ≡ Some target
    pub here : target.gone ≡ false
    pub holds : holds_slot (unnamed tid o target) ≡ true

  -- a thread that holds its slot holds it while it is not named
  unnamed_holds : (o : Transition) (u : Thread) (live : Bool) → has_valid_id tid u ≡ live → u.gone ≡ false → holds_slot u ≡ true → (moved o u).status ≡ status.Running → holds_slot (cond live (moved o u) u) ≡ true
  unnamed_holds o u true is here holds runs =
      ap (λ (s : Status). not (moved o u).gone && not (is_ended_status s && ((moved o u).joined || (moved o u).detached))) runs
      ∙ ap (λ (f : ℕ × Bool × Bool × Bool). not f.1 && true) (moved_flags o u) ∙ ap (λ (gone : Bool). not gone && true) here
  unnamed_holds o u false is here holds runs = holds

  pub named_by : (o : Transition) (n id : ℕ) (target : Thread) → with_id n p.threads ≡ Some target → nat_eq id n ≡ true → (moved o target).status ≡ status.Running → IsNamed o id
  named_by o n id target is_target same runs =
      let live : HasValidId p n target = with_valid_id n p target distinct is_target in
      record {
        target = target;
        made = ap (λ (i : ℕ). thread_with i p) (eqb-true id n same) ∙ live.found;
        here = live.here;
        holds = unnamed_holds o target (has_valid_id tid target) refl live.here live.holds runs;
      }

  -- the thread that is joined or detached
  pub is_named : {o : Transition} (k : Kind t.id p.threads t.status o) (id : ℕ) → releases id o.named ≡ true → IsNamed o id
  unfolding creates begins_join ends_join detaches requests acts_on_request
  is_named {o} (ends next d n v target s is_target ended) id names =
      named_by o n id target is_target (sym (or-false (nat_eq id n)) ∙ names) (runs_after {tid = t.id} {threads = p.threads} {s = t.status} (ends next d n v target s is_target ended) id names target)
  is_named {o} (detaches_one next n target s is_target alone) id names =
      named_by o n id target is_target names (runs_after {tid = t.id} {threads = p.threads} {s = t.status} (detaches_one next n target s is_target alone) id names target)
  is_named (quiet is nothing) id names = absurd (false≢true (sym (is.named id) ∙ names))
  is_named k id names = absurd (false≢true names)
