-- The law of creation, of processes: a step makes the processes that its events report, and each is a child of the process of its thread,
-- with the replica of the thread.
use Rattle.pct_names.proofs.Names.{◌&&◌, ◌++◌, [], after_transition, All, All-from_recursion, AllByRecursion, ap, Bool, child_by, child_of}
use Rattle.pct_names.proofs.Names.{cond, Config, drop, Entry, Environment, false, false≢true, filter, find, flat_map, ForkAt, Forking}
use Rattle.pct_names.proofs.Names.{forks_by, has_valid_id, holds_slot, in_child, inherited, is_ended_status, is_last, Legal, length, List}
use Rattle.pct_names.proofs.Names.{list_all, list_any, made_process, map, nat_eq, NextStatement, None, none-some, not, Option, Phase}
use Rattle.pct_names.proofs.Names.{Prepare, Process, process_moved, refl, replica_of, Run, run, Script, SharedState, Some, Status, step}
use Rattle.pct_names.proofs.Names.{Stmt, subst, sym, take, Thread, Transition, transition_by, true, What, with_id, ◌||◌, ℕ, ◌∙◌, ◌∷◌, ◌≡◌}
use Rattle.std.proofs.Common.{eqb-true, eq-eqb}
use Rattle.pct_laws.specs.CreationLaw.{CreatesProcesses, IsChild, is_another, process_of, status_in_child, status_in_child_by}
use Rattle.pct_laws.specs.ProcessSteps.{EachStepOfProcesses}
use Rattle.pct_laws.specs.ThreadSteps.{ThreadStep}
use Rattle.pct_transition_cases.proofs.TransitionCases.{TransitionCase, fork_handler_called, process_forked}
use Rattle.pct_thread_invariants.proofs.ThreadsOfRun.{threads_fit}
use Rattle.pct_thread_invariants.proofs.lift.ChangedThreads.{pids_of, process_moved_pid}
use Rattle.pct_thread_invariants.proofs.lift.CreatedThreads.{Makes, makes_none, forks}
use Rattle.pct_thread_invariants.proofs.lift.EveryProcess.{moves_of_run, process_taken}
use Rattle.pct_thread_invariants.proofs.lift.EveryThread.{of_its_threads}
use Rattle.pct_thread_invariants.proofs.lift.HandlerEvents.{of_each_phase}
use Rattle.pct_thread_invariants.proofs.lift.KeyedLists.{AreDistinct, found_passes, keys_changed, not_found, only_one_gives}
use Rattle.pct_thread_invariants.proofs.lift.MadeThreads.{child_made, IsStep, is_step}
use Rattle.pct_thread_invariants.proofs.lift.MovedThreads.{case_of_step}
use Rattle.pct_thread_invariants.proofs.lift.ProcessIds.{have_pids}
use Rattle.pct_thread_invariants.proofs.lift.TakenSteps.{IsTaken}
use Rattle.pct_thread_invariants.proofs.lift.ThreadIds.{ids_of}
use Rattle.pct_thread_invariants.proofs.lift.ThreadsAfter.{Moves}
use Rattle.pct_thread_invariants.proofs.thread.EndingSteps.{ended_by_status}
use Rattle.pct_thread_invariants.proofs.thread.ThreadRule.{summary, FitsAny}
use Rattle.pct_creation_laws.proofs.creations.NewItems.{first_items, new_items}

-- ---- the events of a transition

-- a transition that makes no process reports none
case_quiet : {passes : ℕ} {body : List Stmt} {shared : SharedState} {t : Thread} {environment : Environment} {next : NextStatement} {s : Status} {o : Transition} → TransitionCase passes body shared t environment true next s o
    → (tid : ℕ) (p : Process) → child_by tid p o.process ≡ [] → flat_map process_of o.events ≡ []
unfolding child_by
case_quiet (process_forked next at new prepares is) tid p none = absurd (cc)
case_quiet (fork_handler_called next at call is) tid p none = of_each_phase (λ (w : What). flat_map process_of (w ∷ []) ≡ []) call.func refl refl refl at.phase
case_quiet _ tid p none = refl

-- ---- the thread of a child

-- the thread was inherited
abbrev is_there : Thread → Bool
is_there t = not t.gone

module _ (tid : ℕ) where
  -- the thread, as a child has it, if it was inherited
  abbrev heir : Thread → List Thread
  heir t = filter is_there (inherited tid t ∷ [])

  heirs_by : (there : Bool) (t : Thread) (heirs : List Thread) → cond there (t ∷ heirs) heirs ≡ cond there (t ∷ []) [] ++ heirs
  heirs_by true t heirs = refl
  heirs_by false t heirs = refl

  heirs_are : (threads : List Thread) → filter is_there (map (inherited tid) threads) ≡ flat_map heir threads
  heirs_are [] = refl
  heirs_are (t ∷ threads) =
      heirs_by (is_there (inherited tid t)) (inherited tid t) (filter is_there (map (inherited tid) threads))
      ∙ ap (λ (heirs : List Thread). heir t ++ heirs) (heirs_are threads)

  -- it is the replica of the thread that called fork alone
  one_heir : (threads : List Thread) (t : Thread) → AreDistinct (ids_of threads) → with_id tid threads ≡ Some t
      → filter is_there (map (inherited tid) threads) ≡ replica_of t ∷ []
  unfolding inherited
  one_heir threads t distinct is =
      heirs_are threads
      ∙ only_one_gives (λ (u : Thread). u.id) heir holds_slot tid (λ u other. ap (λ b. filter is_there (cond b (replica_of u) (record u { gone = true }) ∷ [])) other) threads t distinct is
      ∙ ap (λ b. filter is_there (cond b (replica_of t) (record t { gone = true }) ∷ [])) (found_passes (has_valid_id tid) threads t is)

-- ---- other threads

-- a thread is another one that has not ended, exactly if it is not one of those that the last thread leaves
another_by : (gone is_end reclaimed ended same : Bool) → (gone ≡ false → is_end ≡ true → ended ≡ true)
    → not (not (not gone && not (is_end && reclaimed)) || (ended || same)) ≡ (not gone && not ended && not same)
another_by true is_end reclaimed ended same by_status = refl
another_by false true true true same by_status = refl
another_by false true false true same by_status = refl
another_by false false reclaimed true same by_status = refl
another_by false true reclaimed false same by_status = absurd (false≢true (by_status refl refl))
another_by false false reclaimed false same by_status = refl

-- not each item passes a test, exactly if one passes the other
not_all : (a b rest some : Bool) → not a ≡ b → not rest ≡ some → not (a && rest) ≡ (b || some)
not_all true b rest some first others = others ∙ ap (λ x. x || some) first
not_all false b rest some first others = ap (λ x. x || some) first

module _ (test other : Thread → Bool) where
  -- what is found after another thread, with another id
  found_after : (first : Thread) (rest : List Thread) → list_any (λ m. nat_eq m first.id) (ids_of rest) ≡ false → (id : ℕ) (t : Thread) → find (λ u. nat_eq u.id id) rest ≡ Some t
      → find (λ u. nat_eq u.id id) (first ∷ rest) ≡ Some t
  found_after first rest absent id t is = by_id (nat_eq first.id id) refl
    where
      by_id : (same : Bool) → nat_eq first.id id ≡ same → cond same (Some first) (find (λ u. nat_eq u.id id) rest) ≡ Some t
      by_id true same =
          absurd (none-some t (sym (not_found (λ (u : Thread). u.id) id rest (subst (λ (n : ℕ). list_any (λ m. nat_eq m n) (ids_of rest) ≡ false) (eqb-true first.id id same) absent)) ∙ is))
      by_id false differs = is

  one_fails : (threads : List Thread) → AreDistinct (ids_of threads) → ((id : ℕ) (t : Thread) → find (λ u. nat_eq u.id id) threads ≡ Some t → not (test t) ≡ other t)
      → not (list_all test threads) ≡ list_any other threads
  one_fails [] distinct each = refl
  one_fails (t ∷ threads) distinct each =
      not_all (test t) (other t) (list_all test threads) (list_any other threads)
      (each t.id t (ap (λ b. cond b (Some t) (find (λ u. nat_eq u.id t.id) threads)) (eq-eqb t.id t.id refl)))
      (one_fails threads distinct.1 (λ id u is. each id u (found_after t threads distinct.0 id u is)))

-- ---- the child

-- a step of a thread in fork makes a child of its process
child_lawful : (s : ThreadStep) (new : ℕ) → s.process.pid ≡ s.pid → AreDistinct (ids_of s.process.threads) → with_id s.tid s.process.threads ≡ Some s.before
    → not (is_last s.tid s.process.threads) ≡ list_any (is_another s.tid) s.process.threads → (at : ForkAt) → s.before.status ≡ Forking at → at.phase ≡ Prepare
    → IsChild s (child_of s.tid new s.process)
unfolding child_of
child_lawful s new pid distinct is environment at forking prepares = record {
  parent = pid;
  runs = refl;
  copy = ap (λ (b : Bool). record s.process.shared { exit_value = None; restricted = b }) environment;
  thread = replica_of s.before;
  alone = one_heir s.tid s.process.threads s.before distinct is;
  is_replica = record {
    id = refl;
    frames = refl;
    in_fork = ap status_in_child forking ∙ ap (λ (x : Phase). status_in_child_by x at.length) prepares ∙ ap (λ (x : Status). Some (in_child x)) (sym forking);
    handlers = refl;
    state = refl;
    mode = refl;
    detached = refl;
    at_start = record { no_request = refl; not_ending = refl; no_pass = refl; not_ended = refl; not_joined = refl };
  };
}

-- ---- each step of a run

module _ (script : Script) (config : Config) where
  module _ (before : List Entry) (r : Run) (is : run script config before ≡ Some r) (e : Entry) (p : Process) (t : Thread) (taken : IsTaken script config r.world e p t) where
    abbrev o : Transition
    o = transition_by script config r.world p t e.alt

    moves : Moves script config r.world p e t
    moves = moves_of_run script config before r is e p t taken

    process_is : made_process e.pid r.world ≡ Some p
    process_is = process_taken script config before r is e p t taken

    -- another thread that has not ended
    environment_is : not (is_last e.tid p.threads) ≡ list_any (is_another e.tid) p.threads
    environment_is = one_fails (λ u. not (holds_slot u) || (u.ended || nat_eq u.id e.tid)) (is_another e.tid) p.threads moves.ids.distinct (λ id u found.
        another_by u.gone (is_ended_status u.status) (u.joined || u.detached) u.ended (nat_eq u.id e.tid) (λ here is_end.
        let rule = of_its_threads summary (FitsAny script config.passes) r (threads_fit script config before r is) e.pid p process_is id u found here in
        sym rule.1.agrees.end ∙ ended_by_status script u.status u.reason u.frames u.handlers rule.0 is_end rule.1.by_status))

    module _ (s : ThreadStep) where
      -- the step, by what it says of the process and of the thread before it
      abbrev made : ThreadStep
      made = record s { pid = e.pid; tid = e.tid; process = p; before = t; events = o.events }

      -- the law of the new processes
      abbrev Lawful : List Process → Type 0
      Lawful new = (pids_of new ≡ flat_map process_of o.events) × AllByRecursion (IsChild made) new

      new_lawful : {made_id : Option ℕ} → Makes r.world t.status o made_id → Lawful (child_made e.tid p made_id)
      unfolding forks_by child_of
      new_lawful (makes_none nothing quiet) = (sym (case_quiet (case_of_step script config r.world p e t moves) e.tid p (nothing e.tid p)), tt)
      new_lawful (forks new fork) = (ap (λ (x : Transition). flat_map process_of x.events) (sym fork.is), (child_lawful made new (eqb-true p.pid e.pid (found_passes (λ (q : Process). nat_eq q.pid e.pid) r.world.processes p process_is)) moves.ids.distinct taken.is_thread environment_is fork.at fork.in_fork fork.prepares, tt))

      processes_of_step : CreatesProcesses made r.world.processes (after_transition e.pid e.tid o r.world).processes
      processes_of_step =
          let step : IsStep e p t o r.world (after_transition e.pid e.tid o r.world) = is_step script config r.world e p t (have_pids script config before r is).distinct moves.ids.distinct taken in
          let new : List Process = child_made e.tid p step.made in
          let lawful : Lawful new = new_lawful step.makes in
          let new_are : drop (length r.world.processes) (after_transition e.pid e.tid o r.world).processes ≡ new =
          ap (drop (length r.world.processes)) step.processes ∙ new_items (process_moved e.pid e.tid o) r.world.processes new in
          record {
            kept =
                ap (λ (processes : List Process). pids_of (take (length r.world.processes) processes)) step.processes
                ∙ ap pids_of (first_items (process_moved e.pid e.tid o) r.world.processes new)
                ∙ keys_changed (λ (q : Process). q.pid) (process_moved e.pid e.tid o) (process_moved_pid e.pid e.tid o) r.world.processes;
            reported = ap pids_of new_are ∙ lawful.0;
            created = subst (All (IsChild made)) (sym new_are) (All-from_recursion _ _ lawful.1);
          }

  -- each step makes the processes that its events report
  pub new_processes_of_run : (entries : List Entry) → EachStepOfProcesses script config entries CreatesProcesses
  new_processes_of_run entries before later e r s are is step =
      let legal : Legal script config r.world e = step.legal in
      let p : Process = legal.process in
      let t : Thread = legal.thread in
      let o : Transition = transition_by script config r.world p t e.alt in
      let taken : IsTaken script config r.world e p t = record { running = legal.running; is_process = legal.live; is_thread = legal.holds; offered = legal.offered } in
      let after : List Process = (after_transition e.pid e.tid o r.world).processes in
      subst (λ (q : Process). CreatesProcesses (record s { process = q }) r.world.processes after) step.process
      (subst (λ (u : Thread). CreatesProcesses (record s { process = p; before = u }) r.world.processes after) step.before
      (subst (λ (ws : List What). CreatesProcesses (record s { process = p; before = t; events = ws }) r.world.processes after) step.events
      (subst (λ (n : ℕ). CreatesProcesses (record s { process = p; before = t; events = o.events; pid = n }) r.world.processes after) step.pid
      (subst (λ (n : ℕ). CreatesProcesses (record s { process = p; before = t; events = o.events; pid = e.pid; tid = n }) r.world.processes after) step.tid
      (processes_of_step before r is e p t taken s)))))
