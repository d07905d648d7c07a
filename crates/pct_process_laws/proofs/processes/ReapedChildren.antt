-- waitpid gives the status of a child that a fork of the process made, that has ended, and that was not reaped before: the parent of a
-- process forked it, its end is that of an event, and it was reaped if an event reports so.
use Rattle.pct_names.proofs.Names.{◌&&◌, ◌+◌, [], after_transition, and_from, and_parts, and_right, ap, arith, as_reaped, body_at, Bool}
use Rattle.pct_names.proofs.Names.{changed, child_of, cond, Config, Entry, Environment, environment_of, Event, event_of, false}
use Rattle.pct_names.proofs.Names.{false_from_ne_true, false≢true, family_among, family_of, filter, find, has_ended, inl, inr}
use Rattle.pct_names.proofs.Names.{is_live_process, is_some, is_unreaped, List, list_any, list_any-append, made_process, map, nat_eq}
use Rattle.pct_names.proofs.Names.{next_of, NextStatement, None, none-some, not, not-true, Option, option_map, option_or, or_cases}
use Rattle.pct_names.proofs.Names.{or_right, orphaned, other_process_after, position_or_len, Process, process_after, process_moved}
use Rattle.pct_names.proofs.Names.{ProcessAction, ProcessEnd, refl, Relative, relative_of, reverse, Run, run, same_Some, Script}
use Rattle.pct_names.proofs.Names.{shared_moved, SharedState, Some, Status, Stmt, subst, sym, Thread, threads_moved, Transition}
use Rattle.pct_names.proofs.Names.{transition_by, true, was_reaped, What, World, ◌||◌, ℕ, ◌∙◌, ◌∷◌, ◌≡◌, ◌≢◌, ◌⊎◌}
use mathlib.Core.Bool.{or-false}
use Rattle.std.proofs.Common.{eq-eqb, eqb-true}
use Rattle.std.specs.Option.{IsSomeAnd}
use Rattle.std.proofs.lemmas.Bool.{true≢false}
use Rattle.pct_model.specs.declared.event.What.TheVariants as what
use Rattle.pct_model.specs.declared.process.Child.{Child}
use Rattle.pct_model.specs.declared.transition.ProcessAction.TheVariants as process_action
use Rattle.pct_laws.specs.Kept.{EachProcess}
use Rattle.pct_laws.specs.KnownThreads.{is_in, makes_process}
use Rattle.pct_laws.specs.ProcessLaw.{has_status, has_in, reaps_process, may_change}
use Rattle.pct_transition_cases.proofs.CaseOfTransition.{case_of}
use Rattle.pct_transition_cases.proofs.TransitionCases.{TransitionCase, fork_handler_called, child_reaped}
use Rattle.pct_thread_invariants.proofs.lift.ChangedThreads.{pids_of}
use Rattle.pct_thread_invariants.proofs.lift.EveryProcess.{process_taken, of_made, IsProcessRule, every_process}
use Rattle.pct_thread_invariants.proofs.lift.HandlerEvents.{of_each_phase}
use Rattle.pct_thread_invariants.proofs.lift.KeyedLists.{AreDistinct, found_at, found_passes, not_found, mapped_some}
use Rattle.pct_thread_invariants.proofs.lift.MadeThreads.{child_made, IsStep, is_step, process_after_step}
use Rattle.pct_thread_invariants.proofs.lift.ProcessIds.{HavePids, have_pids, ids_of_made}
use Rattle.pct_thread_invariants.proofs.lift.ReportedBy.{Reading, reported_by, after_own}
use Rattle.pct_thread_invariants.proofs.lift.TakenSteps.{IsTaken, with_step, AfterEveryRun, every_run}
use Rattle.pct_process_laws.proofs.processes.ProcessEnds.{end_status_of_run}
use Rattle.pct_process_laws.proofs.processes.StoppedRuns.{any_added}

-- ---- another process

-- what is kept as a process is reaped, and as its parent ends, is kept by each action of a thread of another process
module _ (P : Process → Type 0) (reaped : (p : Process) → P p → P (record p { ended = as_reaped p.ended })) (orphan : (p : Process) → P p → P (orphaned p.ended p)) where
  -- either of two processes
  if_then : (b : Bool) (x y : Process) → P x → P y → P (cond b x y)
  if_then true x y first second = first
  if_then false x y first second = second

  -- the action of the transition
  other_keeps : (pid : ℕ) (a : Option ProcessAction) (p : Process) → P p → P (other_process_after pid a p)
  unfolding other_process_after
  other_keeps pid (Some (process_action.Reap child)) p holds = if_then (nat_eq p.pid child) (record p { ended = as_reaped p.ended }) p (reaped p holds) holds
  other_keeps pid (Some (process_action.End n)) p holds = if_then (nat_eq p.parent pid) (orphaned p.ended p) p (orphan p holds) holds
  other_keeps pid _ p holds = holds

-- ---- parents

-- whether process n made the process, by a fork
abbrev made_reading : ℕ → Reading Bool
made_reading n = record { start = λ initial. false; next = λ e k. k; inherits = λ e. nat_eq e.pid n; born = λ parent k. true }

-- the parent of a process, if it has one, made it
abbrev MadeByParent : Process → (ℕ → Bool) → Type 0
MadeByParent p k = (p.parent ≡ 0) ⊎ (k p.parent ≡ true)

-- no event of the process itself changes that
reading_stays : (n : ℕ) (added : List Event) (k : Bool) → after_own (made_reading n) added k ≡ k
reading_stays n [] k = refl
reading_stays n (e ∷ added) k = reading_stays n added k

-- no action of a thread of the process changes its parent
own_parent : (a : Option ProcessAction) (p : Process) → (process_after a p).parent ≡ p.parent
unfolding process_after
own_parent (Some (process_action.End n)) p = refl
own_parent _ p = refl

-- a process whose parent ends has no parent, or keeps it
orphan_parent : (k : ℕ → Bool) (end : Option ProcessEnd) (p : Process) → MadeByParent p k → MadeByParent (orphaned end p) k
orphan_parent k None p holds = inl refl
orphan_parent k (Some end) p holds = holds

-- by whether the newest event is one of the process, or makes it
made_by : (own makes k has : Bool) → (k ≡ true → has ≡ true) → cond own k (cond makes true k) ≡ true → (makes || has) ≡ true
made_by true makes k has before is = or_right makes has (before is)
made_by false true k has before is = refl
made_by false false k has before is = before is

-- where a reading says so, there is the event
made_event : (n pid : ℕ) (events : List Event) → reported_by (made_reading n) pid events ≡ true → has_in (makes_process pid) n events ≡ true
made_event n pid [] is = absurd (false≢true is)
made_event n pid (e ∷ earlier) is =
    made_by (is_in pid e) (nat_eq e.pid n && makes_process pid e.what) (reported_by (made_reading n) pid earlier) (has_in (makes_process pid) n earlier) (made_event n pid earlier) is

-- ---- every run

module _ (script : Script) (config : Config) where
  -- the process of an entry has its pid
  abbrev HasPid : World → Process → Entry → Thread → Type 0
  HasPid w p e t = p.pid ≡ e.pid

  -- so it is for every legal entry
  have_pid : (before : List Entry) (r : Run) → run script config before ≡ Some r → (e : Entry) (p : Process) (t : Thread) → IsTaken script config r.world e p t → p.pid ≡ e.pid
  have_pid before r is e p t taken = eqb-true p.pid e.pid (and_parts (nat_eq p.pid e.pid) (not (has_ended p)) (found_passes (is_live_process e.pid) r.world.processes p taken.is_process)).0

  -- as a rule of every process
  parent_rule : IsProcessRule made_reading MadeByParent script config HasPid
  unfolding child_of
  parent_rule = record {
    initial = inl refl;
    own = λ w p e t k known holds.
        let o : Transition = transition_by script config w p t e.alt in
        let same : (changed e.tid o p).parent ≡ p.parent = own_parent o.process (record p { threads = threads_moved e.tid o p.threads; shared = shared_moved e.tid o p.shared }) in
        elim holds [
          | inl none ↦ inl (same ∙ none)
          | inr made ↦ inr (reading_stays (changed e.tid o p).parent (map (event_of e) (reverse o.events)) (k (changed e.tid o p).parent) ∙ ap k same ∙ made)
        ];
    born = λ w p e t k new known fork holds. inr (ap (λ (b : Bool). cond b true false) (eq-eqb e.pid p.pid (sym known)));
    other = λ pid o p k holds. other_keeps (λ q. MadeByParent q k) (λ q made. made) (λ q made. orphan_parent k q.ended q made) pid o.process p holds;
  }

  -- the parent of a process, if it has one, made it by a fork
  pub parents_of_run : AfterEveryRun script config (λ r. EachProcess r.world (λ pid p. p.parent ≢ 0 → has_in (makes_process pid) p.parent r.events ≡ true))
  parents_of_run entries r is pid p made some =
      elim (of_made made_reading MadeByParent r (every_process made_reading MadeByParent script config HasPid parent_rule have_pid entries r is) pid p made) [
        | inl none ↦ absurd (some none)
        | inr forked ↦ made_event p.parent pid r.events forked
      ]

-- ---- children

-- a child that is found among the processes that were not reaped
module _ (test : Relative → Bool) (pid : ℕ) (has_pid : (r : Relative) → test r ≡ true → nat_eq r.pid pid ≡ true) (rel : Relative) where
  abbrev IsRelative : List Process → Process → Type 0
  IsRelative processes q = (find (λ (x : Process). nat_eq x.pid pid) processes ≡ Some q) × (is_unreaped q ≡ true) × (relative_of q ≡ rel)

  -- where another process is before it
  one_more : (x : Process) (processes : List Process) → list_any (λ m. nat_eq m x.pid) (pids_of processes) ≡ false → (q : Process) × IsRelative processes q → (q : Process) × IsRelative (x ∷ processes) q
  one_more x processes distinct found =
      let differs : nat_eq x.pid pid ≡ false = false_from_ne_true (nat_eq x.pid pid) (λ same.
      none-some found.0 (sym (not_found (λ (q : Process). q.pid) pid processes (subst (λ (k : ℕ). list_any (λ m. nat_eq m k) (pids_of processes) ≡ false) (eqb-true x.pid pid same) distinct)) ∙ found.1.0)) in
      (found.0, (ap (λ (b : Bool). cond b (Some x) (find (λ (y : Process). nat_eq y.pid pid) processes)) differs ∙ found.1.0, found.1.1, found.1.2))

  -- it is found by its pid
  relative_found : (processes : List Process) → AreDistinct (pids_of processes) → find test (map relative_of (filter is_unreaped processes)) ≡ Some rel → (q : Process) × IsRelative processes q
  relative_found [] distinct is = absurd (none-some rel is)
  relative_found (x ∷ processes) distinct is = by_first (is_unreaped x) (test (relative_of x)) refl refl (relative_found processes distinct.1) is
    where
      by_first : (unreaped passes : Bool) → is_unreaped x ≡ unreaped → test (relative_of x) ≡ passes → (find test (map relative_of (filter is_unreaped processes)) ≡ Some rel → (q : Process) × IsRelative processes q)
          → find test (map relative_of (cond unreaped (x ∷ filter is_unreaped processes) (filter is_unreaped processes))) ≡ Some rel → (q : Process) × IsRelative (x ∷ processes) q
      by_first true true unreaped passes later first = (
        x,
        (
          ap (λ (b : Bool). cond b (Some x) (find (λ (y : Process). nat_eq y.pid pid) processes)) (has_pid (relative_of x) passes),
          unreaped,
          same_Some (relative_of x) rel (sym (ap (λ (b : Bool). cond b (Some (relative_of x)) (find test (map relative_of (filter is_unreaped processes)))) passes) ∙ first),
        ),
      )
      by_first true false unreaped fails later first = one_more x processes distinct.0 (later (sym (ap (λ (b : Bool). cond b (Some (relative_of x)) (find test (map relative_of (filter is_unreaped processes)))) fails) ∙ first))
      by_first false passes unreaped is_test later first = one_more x processes distinct.0 (later first)

-- the child of a process that waitpid finds: it has ended with a status, and was not reaped
record IsEndedChild (w : World) (parent pid n : ℕ) : Type 0 where
  child : Process
  made : made_process pid w ≡ Some child
  unreaped : was_reaped child.ended ≡ false
  its_parent : child.parent ≡ parent
  end : ProcessEnd
  has_end : child.ended ≡ Some end
  its_status : end.status ≡ n

-- such a child is one of the state, where no two processes have one pid
ended_child : (w : World) → AreDistinct (pids_of w.processes) → (parent pid n : ℕ) (child : Child) → (family_of w parent).child pid ≡ Some child → child.ended ≡ Some n → IsEndedChild w parent pid n
unfolding family_among
ended_child w distinct parent pid n child is ended =
    let test : Relative → Bool = λ r. nat_eq r.pid pid && nat_eq r.parent parent in
    let from = mapped_some (λ (r : Relative). record { ended = r.ended }) (find test (map relative_of (filter is_unreaped w.processes))) child is in
    let q = relative_found test pid (λ r passes. (and_parts (nat_eq r.pid pid) (nat_eq r.parent parent) passes).0) from.0 w.processes distinct from.1 in
    let passes = and_parts (nat_eq from.0.pid pid) (nat_eq from.0.parent parent) (found_passes test (map relative_of (filter is_unreaped w.processes)) from.0 from.1) in
    let end = mapped_some (λ (end : ProcessEnd). end.status) q.0.ended n (ap (λ (r : Relative). r.ended) q.1.2 ∙ ap (λ (c : Child). c.ended) from.2 ∙ ended) in
    record {
      child = q.0;
      made = q.1.0;
      unreaped = not-true (was_reaped q.0.ended) q.1.1;
      its_parent = ap (λ (r : Relative). r.parent) q.1.2 ∙ eqb-true from.0.parent parent passes.1;
      end = end.0;
      has_end = end.1;
      its_status = end.2;
    }

-- ---- reaped processes

-- a transition that reaps the process with an id: it finds the child, and its actions reap that
record Reaps (environment : Environment) (pid : ℕ) (e : Entry) (o : Transition) : Type 0 where
  child : Child
  is_child : environment.family.child pid ≡ Some child
  status : ℕ
  ended : child.ended ≡ Some status
  reaps : (q : Process) → q.pid ≡ pid → other_process_after e.pid o.process q ≡ record q { ended = as_reaped q.ended }

module _ (passes : ℕ) (body : List Stmt) (shared : SharedState) (t : Thread) (environment : Environment) (offered : Bool) (e : Entry) (pid : ℕ) where
  -- a transition with the event that a process is reaped, reaps it
  case_reaps : {next : NextStatement} {s : Status} {o : Transition} → TransitionCase passes body shared t environment offered next s o → list_any (reaps_process pid) (reverse o.events) ≡ true → Reaps environment pid e o
  unfolding other_process_after
  case_reaps (child_reaped frame result d operand q n child is ended) reaps =
      let same : q ≡ pid = eqb-true q pid (sym (or-false (nat_eq q pid)) ∙ reaps) in
      record {
        child = child;
        is_child = ap environment.family.child (sym same) ∙ is;
        status = n;
        ended = ended;
        reaps = λ x number. ap (λ (b : Bool). cond b (record x { ended = as_reaped x.ended }) x) (eq-eqb x.pid q (number ∙ sym same));
      }
  case_reaps {o = o} (fork_handler_called next at call is) reaps =
      absurd (false≢true (sym (of_each_phase (λ (w : What). list_any (reaps_process pid) (w ∷ []) ≡ false) call.func refl refl refl at.phase) ∙ reaps))
  case_reaps _ reaps = absurd (false≢true reaps)

-- a process that was reaped has ended
reaped_has_ended : (end : Option ProcessEnd) → was_reaped end ≡ true → is_some end ≡ true
reaped_has_ended None is = absurd (false≢true is)
reaped_has_ended (Some end) is = refl

-- one that has ended is reaped by waitpid
as_reaped_is : (end : Option ProcessEnd) → is_some end ≡ true → was_reaped (as_reaped end) ≡ true
as_reaped_is None is = absurd (false≢true is)
as_reaped_is (Some end) is = refl

-- one that was reaped stays so as its parent ends
orphan_reaped : (end : Option ProcessEnd) (p : Process) → was_reaped p.ended ≡ true → was_reaped (orphaned end p).ended ≡ true
orphan_reaped None p is = is
orphan_reaped (Some end) p is = refl

module _ (script : Script) (config : Config) where
  -- a process was reaped, if an event reports so
  abbrev ReapedIfReported : Run → Type 0
  ReapedIfReported r = (pid : ℕ) → list_any (λ e. reaps_process pid e.what) r.events ≡ true → IsSomeAnd (made_process pid r.world) (λ q. was_reaped q.ended ≡ true)

  module _ (r : Run) (pids : HavePids config.slots r.world) (e : Entry) (p : Process) (t : Thread) (taken : IsTaken script config r.world e p t) (is_made : made_process e.pid r.world ≡ Some p) where
    abbrev o : Transition
    o = transition_by script config r.world p t e.alt

    -- a process that has ended is not that of the thread
    not_live : (q : Process) → has_ended q ≡ true → process_moved e.pid e.tid o q ≡ other_process_after e.pid o.process q
    not_live q ended = ap (λ (b : Bool). cond b (changed e.tid o q) (other_process_after e.pid o.process q)) (and_right (nat_eq q.pid e.pid) (not (has_ended q)) (ap not ended))

    -- one that was reaped stays so
    stays_reaped : (q : Process) → was_reaped q.ended ≡ true → was_reaped (process_moved e.pid e.tid o q).ended ≡ true
    stays_reaped q is =
        ap (λ (x : Process). was_reaped x.ended) (not_live q (reaped_has_ended q.ended is))
        ∙ other_keeps (λ x. was_reaped x.ended ≡ true) (λ x reaped. as_reaped_is x.ended (reaped_has_ended x.ended reaped)) (λ x reaped. orphan_reaped x.ended x reaped) e.pid o.process q is

    -- and one that has ended is reaped, if the actions reap it
    becomes_reaped : (q : Process) → has_ended q ≡ true → other_process_after e.pid o.process q ≡ record q { ended = as_reaped q.ended } → was_reaped (process_moved e.pid e.tid o q).ended ≡ true
    becomes_reaped q ended reaps = ap (λ (x : Process). was_reaped x.ended) (not_live q ended ∙ reaps) ∙ as_reaped_is q.ended ended

    -- the process with an id after the step
    after_step : (pid : ℕ) (q : Process) → made_process pid r.world ≡ Some q → was_reaped (process_moved e.pid e.tid o q).ended ≡ true → IsSomeAnd (made_process pid (after_transition e.pid e.tid o r.world)) (λ q. was_reaped q.ended ≡ true)
    after_step pid q made reaped =
        let after : World = after_transition e.pid e.tid o r.world in
        let step : IsStep e p t o r.world after = is_step script config r.world e p t pids.distinct (ids_of_made config.slots r.world pids e.pid p is_made).distinct taken in
        let new : Option Process = find (λ q. nat_eq q.pid pid) (child_made e.tid p step.made) in
        subst (λ (found : Option Process). IsSomeAnd found (λ q. was_reaped q.ended ≡ true))
        (sym (process_after_step e p t o r.world after step pid ∙ ap (λ (found : Option Process). option_or (option_map (process_moved e.pid e.tid o) found) new) made)) reaped

    -- a process that was reaped before the step
    reaped_before : (pid : ℕ) (found : Option Process) → made_process pid r.world ≡ found → IsSomeAnd found (λ q. was_reaped q.ended ≡ true) → IsSomeAnd (made_process pid (after_transition e.pid e.tid o r.world)) (λ q. was_reaped q.ended ≡ true)
    reaped_before pid None is none = absurd none
    reaped_before pid (Some q) is reaped = after_step pid q is (stays_reaped q reaped)

    -- the child that the step reaps
    reaped_now : (pid : ℕ) → list_any (reaps_process pid) (reverse o.events) ≡ true → IsSomeAnd (made_process pid (after_transition e.pid e.tid o r.world)) (λ q. was_reaped q.ended ≡ true)
    unfolding environment_of
    reaped_now pid reaps =
        let environment : Environment = environment_of config r.world p t.id in
        let c : TransitionCase config.passes (body_at script t.frames) p.shared t environment true (next_of script t.frames) t.status o =
        case_of config.passes (body_at script t.frames) p.shared t environment true e.alt (next_of script t.frames) t.status (λ known. taken.offered) in
        let it : Reaps environment pid e o = case_reaps config.passes (body_at script t.frames) p.shared t environment true e pid c reaps in
        let found : IsEndedChild r.world p.pid pid it.status = ended_child r.world pids.distinct p.pid pid it.status it.child it.is_child it.ended in
        let ended : has_ended found.child ≡ true = ap (λ (end : Option ProcessEnd). is_some end) found.has_end in
        let number : found.child.pid ≡ pid = eqb-true found.child.pid pid (found_passes (λ (q : Process). nat_eq q.pid pid) r.world.processes found.child found.made) in
        after_step pid found.child found.made (becomes_reaped found.child ended (it.reaps found.child number))

    -- both
    reaped_after : ReapedIfReported r → ReapedIfReported (with_step e o r)
    reaped_after before pid is =
        let test : Event → Bool = λ x. reaps_process pid x.what in
        let added : List What = reverse o.events in
        elim (or_cases (list_any (reaps_process pid) added) (list_any test r.events)
        (ap (λ (b : Bool). b || list_any test r.events) (sym (any_added (reaps_process pid) e added)) ∙ sym (list_any-append test (map (event_of e) added) r.events) ∙ is)) [
          | inl now ↦ reaped_now pid now
          | inr earlier ↦ reaped_before pid (made_process pid r.world) refl (before pid earlier)
        ]

  -- after every run
  reaped_of_run : AfterEveryRun script config ReapedIfReported
  reaped_of_run =
      every_run script config ReapedIfReported
      (λ before r is e p t taken holds. reaped_after r (have_pids script config before r is) e p t taken (process_taken script config before r is e p t taken) holds) (λ some pid is. absurd (false≢true is))

  -- ---- the row

  -- waitpid gives the status of a child that has ended, and was not reaped
  module _ (before : List Entry) (r : Run) (is : run script config before ≡ Some r) (e : Entry) (p : Process) (t : Thread) (taken : IsTaken script config r.world e p t) where
    -- its process has not the pid 0, which stands for no parent
    some_pid : p.pid ≢ 0
    some_pid none =
        let at : ℕ = position_or_len (is_live_process e.pid) r.world.processes in
        let number : p.pid ≡ 1 + at = (have_pids script config before r is).numbers at p (found_at (is_live_process e.pid) r.world.processes p taken.is_process) in
        absurd (omega (arith, number, none))

    -- what the law asks of the event
    pub reaps_child : (pid n : ℕ) (child : Child) → (environment_of config r.world p t.id).family.child pid ≡ Some child → child.ended ≡ Some n → may_change (what.Reaped pid n) e.pid e.tid r.events ≡ true
    unfolding environment_of
    reaps_child pid n child is_child ended =
        let found : IsEndedChild r.world p.pid pid n = ended_child r.world (have_pids script config before r is).distinct p.pid pid n child is_child ended in
        let same : p.pid ≡ e.pid = have_pid script config before r is e p t taken in
        and_from _ _ (and_from _ _ (subst (λ (parent : ℕ). has_in (makes_process pid) parent r.events ≡ true) (found.its_parent ∙ same) (parents_of_run script config before r is pid found.child found.made (λ none. some_pid (sym found.its_parent ∙ none))))
        (ap (has_status n) (sym (end_status_of_run script config before r is pid found.child found.made) ∙ ap (λ (end : Option ProcessEnd). option_map (λ x. x.status) end) found.has_end) ∙ eq-eqb found.end.status n found.its_status))
        (ap not (false_from_ne_true (list_any (λ e. reaps_process pid e.what) r.events) (λ reaped. true≢false (sym (subst (λ (q : Option Process). IsSomeAnd q (λ q. was_reaped q.ended ≡ true)) found.made (reaped_of_run before r is pid reaped)) ∙ found.unreaped))))
