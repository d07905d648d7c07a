-- What a step leaves of another thread of its process: it is unblocked by a signal or a broadcast, and changed by a request, a detach, a
-- join and the deletion of a key.
use Rattle.pct_names.proofs.Names.{◌&&◌, [], and_from, and_left, and_parts, ap, Bool, Cause, cond, Config, Entry, Environment}
use Rattle.pct_names.proofs.Names.{environment_of, eqb-false, false, false≢true, has_valid_id, holds_slot, is_ended_status, is_waiting_on}
use Rattle.pct_names.proofs.Names.{IsSomeAnd, key_place, List, list_any, moved, named_after, nat_eq, NextStatement, none-some, not, Option}
use Rattle.pct_names.proofs.Names.{Process, refl, Run, run, same_Some, Script, set, SharedState, slice_get, Some, Status, Stmt, subst, suc}
use Rattle.pct_names.proofs.Names.{sym, Thread, thread_moved, thread_with, Transition, transition_by, true, value_of, Waiter, What, with_id}
use Rattle.pct_names.proofs.Names.{without_value, zero, ◌||◌, ℕ, ◌∙◌, ◌∷◌, ◌≡◌, ◌≢◌}
use Rattle.std.proofs.Common.{ap₂, eq-eqb, eqb-true, ne_eqb}
use Rattle.std.proofs.Math.Bool.{or-false}
use Rattle.pct_model.specs.CondCalls as machine
use Rattle.pct_model.specs.declared.event.What.TheVariants as what
use Rattle.pct_model.specs.declared.state.Cause.TheVariants as cause
use Rattle.pct_model.specs.declared.state.Status.TheVariants as status
use Rattle.pct_laws.specs.WakeLaw.{is_blocked_on, unblocked, KeepsOther, KeepsOthers}
use Rattle.pct_transition_cases.proofs.TransitionCases.{TransitionCase, join_ended, thread_detached, request_sent, signal_handed_on}
use Rattle.pct_transition_cases.proofs.TransitionCases.{signal_sent, signal_lost, broadcast_sent, fork_handler_called, key_deleted}
use Rattle.pct_thread_invariants.proofs.lift.EveryProcess.{moves_of_run}
use Rattle.pct_thread_invariants.proofs.lift.HandlerEvents.{of_each_phase}
use Rattle.pct_thread_invariants.proofs.lift.KeyedLists.{AreDistinct, found_passes}
use Rattle.pct_thread_invariants.proofs.lift.MadeThreads.{HasValidId, with_valid_id}
use Rattle.pct_thread_invariants.proofs.lift.MovedThreads.{EveryStep, step_of, case_of_step, every_step}
use Rattle.pct_thread_invariants.proofs.lift.TakenSteps.{IsTaken}
use Rattle.pct_thread_invariants.proofs.lift.ThreadIds.{ids_of}
use Rattle.pct_thread_invariants.proofs.lift.ThreadsAfter.{Moves, After, was_made, is_new, is_absent, after}
use Rattle.pct_wake_laws.proofs.SeenWaiters.{same_blocked, find_some, found_among, has_number}
use Rattle.pct_wake_laws.proofs.WaitingThreads.{waits_by_id, waits_on}

-- ---- the words of the law

same_unblocked : (why : Cause) (s : Status) → machine.unblocked why s ≡ unblocked why s
same_unblocked why (status.Waiting c m) = refl
same_unblocked why _ = refl

-- an action that names threads is all by which a transition changes another thread
by_name_alone : (tid : ℕ) (o : Transition) (u : Thread) → has_valid_id tid u ≡ false → thread_moved tid o u ≡ named_after o.named u
by_name_alone tid o u other = ap (λ (live : Bool). named_after o.named (cond live (moved o u) u)) other

-- ---- lists

-- an item stays as another place is written
pub other_item : {A : Type 0} (xs : List A) (i j : ℕ) (y : A) → j ≢ i → slice_get (set xs i y) j ≡ slice_get xs j
other_item [] i j y other = refl
other_item (x ∷ xs) zero zero y other = absurd (other refl)
other_item (x ∷ xs) zero (suc j) y other = refl
other_item (x ∷ xs) (suc i) zero y other = refl
other_item (x ∷ xs) (suc i) (suc j) y other = other_item xs i j y (λ same. other (ap suc same))

-- ---- one thread, by the transition of another

module _ (tid : ℕ) (u : Thread) where
  abbrev Keeps : List What → Thread → Type 0
  Keeps events after = KeepsOther events tid u after

  -- the thread is named by an action exactly if the event has its id
  abbrev IsNamed : ℕ → Bool → Type 0
  IsNamed id live = live ≡ nat_eq id tid

  abbrev woken : Bool → Status
  woken named = cond named (unblocked cause.Signalled u.status) u.status

  -- a signal, and one that is handed on
  woken_is : (id : ℕ) (live : Bool) → IsNamed id live → (cond live (record u { status = machine.unblocked cause.Signalled u.status }) u).status ≡ woken (nat_eq id tid)
  woken_is id true is = same_unblocked cause.Signalled u.status ∙ ap woken is
  woken_is id false is = ap woken is

  signalled : (c id : ℕ) (live : Bool) → IsNamed id live → Keeps (what.Signalled c id ∷ []) (cond live (record u { status = machine.unblocked cause.Signalled u.status }) u)
  signalled c id true is = record { unblocks = woken_is id true is; pending = refl; detached = refl; joined = refl; in_pass = λ place quiet. refl; rest = refl }
  signalled c id false is = record { unblocks = woken_is id false is; pending = refl; detached = refl; joined = refl; in_pass = λ place quiet. refl; rest = refl }

  handed_on : (c id : ℕ) (live : Bool) → IsNamed id live
      → Keeps (what.WaitCanceled c ∷ what.HandedOn c id ∷ []) (cond live (record u { status = machine.unblocked cause.Signalled u.status }) u)
  handed_on c id true is = record { unblocks = woken_is id true is; pending = refl; detached = refl; joined = refl; in_pass = λ place quiet. refl; rest = refl }
  handed_on c id false is = record { unblocks = woken_is id false is; pending = refl; detached = refl; joined = refl; in_pass = λ place quiet. refl; rest = refl }

  -- a broadcast
  broadcast : (c n : ℕ) (waits : Bool) → waits ≡ is_blocked_on c u.status
      → Keeps (what.BroadcastTo c n ∷ []) (cond waits (record u { status = machine.unblocked cause.Broadcast u.status }) u)
  broadcast c n true is = record {
    unblocks = same_unblocked cause.Broadcast u.status ∙ ap (λ (b : Bool). cond b (unblocked cause.Broadcast u.status) u.status) is;
    pending = refl;
    detached = refl;
    joined = refl;
    in_pass = λ place quiet. refl;
    rest = refl;
  }
  broadcast c n false is = record {
    unblocks = ap (λ (b : Bool). cond b (unblocked cause.Broadcast u.status) u.status) is;
    pending = refl;
    detached = refl;
    joined = refl;
    in_pass = λ place quiet. refl;
    rest = refl;
  }

  -- a request, a detach, a join, and a key that is deleted
  requested : (id : ℕ) (live ended : Bool) → IsNamed id live → ended ≡ u.ended → Keeps (what.Request id ∷ []) (cond (live && not ended) (record u { pending = true }) u)
  requested id live ended is same = by live ended is same
    where
      says : (live ended : Bool) → IsNamed id live → ended ≡ u.ended → ((live && not ended) || u.pending) ≡ (((nat_eq id tid || false) && not u.ended) || u.pending)
      says live ended is same = ap₂ (λ (a b : Bool). (a && not b) || u.pending) (is ∙ sym (or-false (nat_eq id tid))) same

      by : (live ended : Bool) → IsNamed id live → ended ≡ u.ended → Keeps (what.Request id ∷ []) (cond (live && not ended) (record u { pending = true }) u)
      by true false is same = record { unblocks = refl; pending = says true false is same; detached = refl; joined = refl; in_pass = λ place quiet. refl; rest = refl }
      by true true is same = record { unblocks = refl; pending = says true true is same; detached = refl; joined = refl; in_pass = λ place quiet. refl; rest = refl }
      by false ended is same = record { unblocks = refl; pending = says false ended is same; detached = refl; joined = refl; in_pass = λ place quiet. refl; rest = refl }

  detached : (id : ℕ) (live : Bool) → IsNamed id live → Keeps (what.Detached id ∷ []) (cond live (record u { detached = true }) u)
  detached id live is = by live (ap (λ (b : Bool). b || u.detached) (is ∙ sym (or-false (nat_eq id tid))))
    where
      by : (live : Bool) → (live || u.detached) ≡ ((nat_eq id tid || false) || u.detached) → Keeps (what.Detached id ∷ []) (cond live (record u { detached = true }) u)
      by true says = record { unblocks = refl; pending = refl; detached = says; joined = refl; in_pass = λ place quiet. refl; rest = refl }
      by false says = record { unblocks = refl; pending = refl; detached = says; joined = refl; in_pass = λ place quiet. refl; rest = refl }

  joined : (id v : ℕ) (live : Bool) → IsNamed id live → Keeps (what.Joined id v ∷ []) (cond live (record u { joined = true }) u)
  joined id v live is = by live (ap (λ (b : Bool). b || u.joined) (is ∙ sym (or-false (nat_eq id tid))))
    where
      by : (live : Bool) → (live || u.joined) ≡ ((nat_eq id tid || false) || u.joined) → Keeps (what.Joined id v ∷ []) (cond live (record u { joined = true }) u)
      by true says = record { unblocks = refl; pending = refl; detached = refl; joined = says; in_pass = λ place quiet. refl; rest = refl }
      by false says = record { unblocks = refl; pending = refl; detached = refl; joined = says; in_pass = λ place quiet. refl; rest = refl }

  forgotten : (k : ℕ) → Keeps (what.KeyGone k ∷ []) (record u { specific = without_value (key_place k) u.specific })
  forgotten k = record {
    unblocks = refl;
    pending = refl;
    detached = refl;
    joined = refl;
    rest = refl;
    in_pass = λ place other. other_item u.specific.in_pass (key_place k) place false (λ same. eqb-false (key_place k) place (sym (or-false _) ∙ other) (sym same));
  }

  -- the thread after the transition of another: `named` is of the threads that the transition names, `awaited` of those that wait
  module _ {passes : ℕ} {body : List Stmt} {shared : SharedState} {t : Thread} {environment : Environment}
      (named : (id : ℕ) (target : Thread) → environment.named id ≡ Some target → IsNamed id (has_valid_id id u))
      (awaited : (c id : ℕ) → list_any (λ (w : Waiter). nat_eq id w.id) (environment.waiters c) ≡ true → IsNamed id (has_valid_id id u))
      (numbered : nat_eq 0 tid ≡ false) where
    case_keeps : {next : NextStatement} {s : Status} {o : Transition} → TransitionCase passes body shared t environment true next s o → Keeps o.events (named_after o.named u)
    unfolding named_after
    case_keeps (join_ended frame operand d id v target is ended) = joined id v (has_valid_id id u) (named id target is)
    case_keeps (thread_detached frame id target is joinable other) = detached (value_of shared.globals frame id) (has_valid_id (value_of shared.globals frame id) u) (named _ target is)
    case_keeps (request_sent frame id target is) = requested (value_of shared.globals frame id) (has_valid_id (value_of shared.globals frame id) u) u.ended (named _ target is) refl
    case_keeps (signal_handed_on next c m id asked among) = handed_on c id (has_valid_id id u) (awaited c id (among refl))
    case_keeps (signal_sent frame c id among) = signalled c id (has_valid_id id u) (awaited c id (among refl))
    case_keeps (signal_lost frame c) = signalled c 0 false (sym numbered)
    case_keeps (broadcast_sent frame c) = broadcast c _ (is_waiting_on c u.status) (same_blocked c u.status)
    case_keeps (fork_handler_called next at call is) =
        of_each_phase (λ (w : What). Keeps (w ∷ []) u) call.func
        (record { unblocks = refl; pending = refl; detached = refl; joined = refl; in_pass = λ place quiet. refl; rest = refl })
        (record { unblocks = refl; pending = refl; detached = refl; joined = refl; in_pass = λ place quiet. refl; rest = refl })
        (record { unblocks = refl; pending = refl; detached = refl; joined = refl; in_pass = λ place quiet. refl; rest = refl }) at.phase
    case_keeps (key_deleted frame key is_key) = forgotten (value_of shared.globals frame key)
    case_keeps _ = record { unblocks = refl; pending = refl; detached = refl; joined = refl; in_pass = λ place quiet. refl; rest = refl }

-- ---- one thread of a process

-- a thread that waits has not ended
waiting_alive : (c : ℕ) (s : Status) → is_waiting_on c s ≡ true → is_ended_status s ≡ false
waiting_alive c (status.Ended v) waits = absurd (false≢true waits)
waiting_alive c _ waits = refl

-- so it can be looked up by its id
waiter_is_live : (c id : ℕ) (t : Thread) → waits_on c t && nat_eq id t.id ≡ true → has_valid_id id t ≡ true
waiter_is_live c id t both =
    let parts : (waits_on c t ≡ true) × (nat_eq id t.id ≡ true) = and_parts (waits_on c t) (nat_eq id t.id) both in
    let waits : (not t.gone ≡ true) × (is_waiting_on c t.status ≡ true) = and_parts (not t.gone) (is_waiting_on c t.status) parts.0 in
    and_from (nat_eq t.id id) (holds_slot t) (eq-eqb t.id id (sym (eqb-true id t.id parts.1)))
    (and_from (not t.gone) _ waits.0 (ap (λ (b : Bool). not (b && (t.joined || t.detached))) (waiting_alive c t.status waits.1)))

module _ (tid : ℕ) (p : Process) (distinct : AreDistinct (ids_of p.threads)) (u : Thread) (found : thread_with tid p ≡ Some u) where
  is_named : (id : ℕ) (target : Thread) → with_id id p.threads ≡ Some target → has_valid_id id u ≡ nat_eq id tid
  is_named id target is = by (nat_eq id tid) refl
    where
      named : u.id ≡ tid
      named = eqb-true u.id tid (found_passes (λ (x : Thread). nat_eq x.id tid) p.threads u found)

      by : (same : Bool) → nat_eq id tid ≡ same → has_valid_id id u ≡ same
      by true same =
          let it : HasValidId p id target = with_valid_id id p target distinct is in
          ap (has_valid_id id) (same_Some u target (sym found ∙ ap (λ (n : ℕ). thread_with n p) (sym (eqb-true id tid same)) ∙ it.found)) ∙ it.valid
      by false differs = and_left (nat_eq u.id id) (holds_slot u) (ne_eqb u.id id (λ same. eqb-false id tid differs (sym same ∙ named)))

-- ---- each step of a run

module _ (script : Script) (config : Config) where
  others_of_step : (before : List Entry) (r : Run) → run script config before ≡ Some r → (e : Entry) (p : Process) (t : Thread) → IsTaken script config r.world e p t → KeepsOthers (step_of script config r p e t)
  unfolding environment_of
  others_of_step before r is e p t taken tid u differs found =
      let o : Transition = transition_by script config r.world p t e.alt in
      let moves : Moves script config r.world p e t = moves_of_run script config before r is e p t taken in
      let distinct : AreDistinct (ids_of p.threads) = moves.ids.distinct in
      let still : has_valid_id e.tid u ≡ false = and_left (nat_eq u.id e.tid) (holds_slot u) (ne_eqb u.id e.tid (λ same. differs (sym (eqb-true u.id tid (found_passes (λ (x : Thread). nat_eq x.id tid) p.threads u found)) ∙ same))) in
      let kept : KeepsOther o.events tid u (named_after o.named u) =
      case_keeps tid u (λ id target is_target. is_named tid p distinct u found id target is_target) (λ c id among.
      let target = find_some (λ (x : Thread). waits_on c x && nat_eq id x.id) (has_valid_id id) (waiter_is_live c id) p.threads (waits_by_id config.slots c id p.threads moves.some among) in
      is_named tid p distinct u found id target.0 target.1)
      (has_number config.slots p.threads moves.ids moves.some tid (found_among (λ (x : Thread). x.id) tid p.threads u found)) (case_of_step script config r.world p e t moves) in
      by moves (subst (KeepsOther o.events tid u) (sym (by_name_alone e.tid o u still)) kept) (after script config r.world p e t moves tid)
    where
      by : (moves : Moves script config r.world p e t) {after : Option Thread} → KeepsOther (transition_by script config r.world p t e.alt).events tid u (thread_moved e.tid (transition_by script config r.world p t e.alt) u)
          → After script config r.world p e t moves tid after → IsSomeAnd after (KeepsOther (transition_by script config r.world p t e.alt).events tid u)
      by moves kept (was_made x is none) = subst (λ (y : Thread). KeepsOther (transition_by script config r.world p t e.alt).events tid u (thread_moved e.tid (transition_by script config r.world p t e.alt) y)) (same_Some u x (sym found ∙ is)) kept
      by moves kept (is_new new none makes named) = absurd (none-some u (sym none ∙ found))
      by moves kept (is_absent none nothing) = absurd (none-some u (sym none ∙ found))

  -- each step leaves the other threads of its process as the law says
  pub others_of_run : EveryStep script config KeepsOthers
  others_of_run = every_step script config KeepsOthers others_of_step
