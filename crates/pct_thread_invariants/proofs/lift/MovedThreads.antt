-- Each step of a run: the thread that makes it is moved by a transition, the events of which are those of the step.
use Rattle.pct_names.proofs.Names.{[], after_transition, AllByRecursion, and_parts, ap, body_at, Bool, changed, Config, Entry}
use Rattle.pct_names.proofs.Names.{environment_of, find, Legal, List, list_all, made_process, made_thread, nat_eq, next_of, Option}
use Rattle.pct_names.proofs.Names.{option_and_then, option_map, option_or, Process, process_moved, refl, Run, run, same_Some, Script, Some}
use Rattle.pct_names.proofs.Names.{subst, sym, Thread, thread_created, thread_moved, thread_with, Transition, transition_by, true, What}
use Rattle.pct_names.proofs.Names.{World, ◌∙◌, ◌∷◌, ◌≡◌}
use Rattle.pct_laws.specs.ThreadSteps.{ThreadStep, IsThreadStep, EachStep}
use Rattle.pct_transition_cases.proofs.CaseOfTransition.{case_of}
use Rattle.pct_transition_cases.proofs.TransitionCases.{TransitionCase}
use Rattle.pct_thread_invariants.proofs.lift.TakenSteps.{IsTaken}
use Rattle.pct_thread_invariants.proofs.lift.EveryProcess.{process_taken, moves_of_run}
use Rattle.pct_thread_invariants.proofs.lift.MadeThreads.{is_step, process_after_step, own_process_is, own_thread_with, child_made}
use Rattle.pct_thread_invariants.proofs.lift.ProcessIds.{HavePids, have_pids}
use Rattle.pct_thread_invariants.proofs.lift.ThreadsAfter.{Moves, mover}

-- what holds of each event that passes a test holds of each of some events, if all pass
pub each_passing : (P : What → Type 0) (test : What → Bool) → ((w : What) → test w ≡ true → P w) → (events : List What) → list_all test events ≡ true → AllByRecursion P events
each_passing P test holds [] all = tt
each_passing P test holds (w ∷ events) all =
    let parts : (test w ≡ true) × (list_all test events ≡ true) = and_parts (test w) (list_all test events) all in
    (holds w parts.0, each_passing P test holds events parts.1)

module _ (script : Script) (config : Config) where
  -- the fact is true of each step that goes on from a run
  abbrev pub EveryStep : (ThreadStep → Type 0) → Type 0
  EveryStep Holds = (before : List Entry) (r : Run) → run script config before ≡ Some r → (e : Entry) (s : ThreadStep) → IsThreadStep script config r e s → Holds s

  -- so it is of each step of the run of a schedule
  pub each_step : (Holds : ThreadStep → Type 0) → EveryStep Holds → (entries : List Entry) → EachStep script config entries Holds
  each_step Holds every entries before after e r s are is step = every before r is e s step

  -- the step of an entry that moves thread t of process p, after a run
  abbrev pub step_of : Run → Process → Entry → Thread → ThreadStep
  step_of r p e t = record {
    pid = e.pid;
    tid = e.tid;
    earlier = r.events;
    process = p;
    before = t;
    process_after = changed e.tid (transition_by script config r.world p t e.alt) p;
    after = thread_moved e.tid (transition_by script config r.world p t e.alt) t;
    events = (transition_by script config r.world p t e.alt).events;
  }

  -- the transition of a step, by case
  pub case_of_step : (w : World) (p : Process) (e : Entry) (t : Thread) → Moves script config w p e t
      → TransitionCase config.passes (body_at script t.frames) p.shared t (environment_of config w p t.id) true (next_of script t.frames) t.status (transition_by script config w p t e.alt)
  case_of_step w p e t moves = case_of config.passes (body_at script t.frames) p.shared t (environment_of config w p t.id) true e.alt (next_of script t.frames) t.status (λ known. moves.offered)

  module _ (before : List Entry) (r : Run) (is : run script config before ≡ Some r) (e : Entry) (p : Process) (t : Thread) (taken : IsTaken script config r.world e p t) where
    abbrev o : Transition
    o = transition_by script config r.world p t e.alt

    abbrev next : World
    next = after_transition e.pid e.tid o r.world

    pids : HavePids config.slots r.world
    pids = have_pids script config before r is

    moves : Moves script config r.world p e t
    moves = moves_of_run script config before r is e p t taken

    -- the process of the thread that a step moves, after it
    changed_is : made_process e.pid next ≡ Some (changed e.tid o p)
    changed_is =
        process_after_step e p t o r.world next (is_step script config r.world e p t pids.distinct moves.ids.distinct taken) e.pid
        ∙ ap (λ (q : Option Process). option_or (option_map (process_moved e.pid e.tid o) q) (find (λ (x : Process). nat_eq x.pid e.pid) (child_made e.tid p (is_step script config r.world e p t pids.distinct moves.ids.distinct taken).made))) (process_taken script config before r is e p t taken)
        ∙ ap (λ (q : Process). Some q) (own_process_is e.pid e.tid r.world p pids.distinct taken.is_process o)

    -- the thread itself is its thread with the same id
    moved_is : made_thread e.pid e.tid next ≡ Some (thread_moved e.tid o t)
    moved_is =
        ap (option_and_then (thread_with e.tid)) changed_is ∙ own_thread_with e.pid e.tid o p e.tid
        ∙ ap (λ (u : Option Thread). option_or (option_map (thread_moved e.tid o) u) (find (λ (x : Thread). nat_eq x.id e.tid) (thread_created o.created))) (mover script config r.world p e t moves).found

  -- a legal entry, after a run, takes its transition
  abbrev taken_by : (r : Run) (e : Entry) (legal : Legal script config r.world e) → IsTaken script config r.world e legal.process legal.thread
  taken_by r e legal = record { running = legal.running; is_process = legal.live; is_thread = legal.holds; offered = legal.offered }

  -- and makes this step
  pub makes_step : (before : List Entry) (r : Run) → run script config before ≡ Some r → (e : Entry) (legal : Legal script config r.world e) → IsThreadStep script config r e (step_of r legal.process e legal.thread)
  makes_step before r is e legal = record {
    legal = legal;
    pid = refl;
    tid = refl;
    earlier = refl;
    process = refl;
    before = refl;
    process_after = changed_is before r is e legal.process legal.thread (taken_by r e legal);
    after = moved_is before r is e legal.process legal.thread (taken_by r e legal);
    events = refl;
  }

  -- what holds of each step of an entry that moves a thread, holds of each step that goes on from a run
  pub every_step : (Holds : ThreadStep → Type 0)
      → ((before : List Entry) (r : Run) → run script config before ≡ Some r → (e : Entry) (p : Process) (t : Thread) → IsTaken script config r.world e p t → Holds (step_of r p e t))
      → EveryStep Holds
  every_step Holds each before r is e s step =
      let legal : Legal script config r.world e = step.legal in
      let p : Process = legal.process in
      let t : Thread = legal.thread in
      let o : Transition = transition_by script config r.world p t e.alt in
      let taken : IsTaken script config r.world e p t = taken_by r e legal in
      let process_after : changed e.tid o p ≡ s.process_after = same_Some (changed e.tid o p) s.process_after (sym (changed_is before r is e p t taken) ∙ step.process_after) in
      let after : thread_moved e.tid o t ≡ s.after = same_Some (thread_moved e.tid o t) s.after (sym (moved_is before r is e p t taken) ∙ step.after) in
      subst (λ q. Holds (record s { process = q })) step.process
      (subst (λ u. Holds (record s { process = p; before = u })) step.before
      (subst (λ q. Holds (record s { process = p; before = t; process_after = q })) process_after
      (subst (λ u. Holds (record s { process = p; before = t; process_after = changed e.tid o p; after = u })) after
      (subst (λ ws. Holds (record s { process = p; before = t; process_after = changed e.tid o p; after = thread_moved e.tid o t; events = ws })) step.events
      (subst (λ n. Holds (record (step_of r p e t) { pid = n; tid = s.tid; earlier = s.earlier })) step.pid
      (subst (λ n. Holds (record (step_of r p e t) { tid = n; earlier = s.earlier })) step.tid
      (subst (λ es. Holds (record (step_of r p e t) { earlier = es })) step.earlier (each before r is e p t taken))))))))
