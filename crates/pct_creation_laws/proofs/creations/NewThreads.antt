-- The law of creation, of threads: a step makes the threads that its events report, and each is one that pthread_create makes.
use Rattle.pct_names.proofs.Names.{[], All, All-from_recursion, AllByRecursion, ap, Bool, changed, Config, drop, Entry, Environment}
use Rattle.pct_names.proofs.Names.{flat_map, length, List, map, new_frame, NewThread, next_of, NextStatement, None, none-some, Option}
use Rattle.pct_names.proofs.Names.{Process, refl, Run, run, same_Some, Script, SharedState, Some, Start, Status, Stmt, subst, sym, take}
use Rattle.pct_names.proofs.Names.{Thread, thread_created, thread_moved, Transition, transition_by, true, value_of, What, ℕ, ◌∙◌, ◌∷◌, ◌≡◌}
use Rattle.pct_model.specs.declared.state.FrameKind.TheVariants as kind
use Rattle.pct_laws.specs.CreationLaw.{CreatesThreads, frames_at_start, IsCreated, thread_of}
use Rattle.pct_transition_cases.proofs.TransitionCases.{TransitionCase, thread_made, fork_handler_called}
use Rattle.pct_thread_invariants.proofs.lift.ChangedThreads.{changed_threads, thread_moved_keeps}
use Rattle.pct_thread_invariants.proofs.lift.EveryProcess.{moves_of_run}
use Rattle.pct_thread_invariants.proofs.lift.HandlerEvents.{of_each_phase}
use Rattle.pct_thread_invariants.proofs.lift.KeyedLists.{keys_changed}
use Rattle.pct_thread_invariants.proofs.lift.MovedThreads.{EveryStep, step_of, case_of_step, every_step}
use Rattle.pct_thread_invariants.proofs.lift.TakenSteps.{IsTaken}
use Rattle.pct_thread_invariants.proofs.lift.ThreadIds.{ids_of}
use Rattle.pct_creation_laws.proofs.creations.NewItems.{first_items, new_items}

-- ---- a transition

-- the thread that a transition creates at a statement, if it creates one, is the one that its events report
data Creates (globals : List ℕ) (next : NextStatement) (o : Transition) : Type 0 where
  creates_none : o.created ≡ None → flat_map thread_of o.events ≡ [] → Creates globals next o
  creates_one : (new : NewThread) → o.created ≡ Some new → flat_map thread_of o.events ≡ (new.id, new.detached) ∷ []
      → frames_at_start globals next ≡ Some (new_frame new.func new.arg kind.Start ∷ []) → Creates globals next o

case_creates : {passes : ℕ} {body : List Stmt} {shared : SharedState} {t : Thread} {environment : Environment} {next : NextStatement} {s : Status} {o : Transition} → TransitionCase passes body shared t environment true next s o
    → Creates shared.globals next o
case_creates {shared = shared} (thread_made frame result id f v detached n among) =
    creates_one (record { id = n; detached = detached; func = f; arg = value_of shared.globals frame v }) refl refl refl
case_creates (fork_handler_called next at call is) =
    creates_none refl (of_each_phase (λ (w : What). flat_map thread_of (w ∷ []) ≡ []) call.func refl refl refl at.phase)
case_creates _ = creates_none refl refl

-- ---- each step of a run

module _ (script : Script) (config : Config) where
  module _ (before : List Entry) (r : Run) (is : run script config before ≡ Some r) (e : Entry) (p : Process) (t : Thread) (taken : IsTaken script config r.world e p t) where
    abbrev o : Transition
    o = transition_by script config r.world p t e.alt

    -- the threads after it
    after : List Thread
    after = (changed e.tid o p).threads

    new_are : drop (length p.threads) (changed e.tid o p).threads ≡ thread_created o.created
    new_are = ap (drop (length p.threads)) (changed_threads e.tid o p) ∙ new_items (thread_moved e.tid o) p.threads (thread_created o.created)

    -- the law of the new threads
    abbrev Lawful : List Thread → Type 0
    Lawful new = (map (λ (u : Thread). (u.id, u.detached)) new ≡ flat_map thread_of o.events) × AllByRecursion (IsCreated script (step_of script config r p e t)) new

    new_lawful : (created : Option NewThread) → o.created ≡ created → Creates p.shared.globals (next_of script t.frames) o → Lawful (thread_created created)
    new_lawful None makes (creates_none none quiet) = (sym quiet, tt)
    new_lawful None makes (creates_one new one reports starts) = absurd (none-some new (sym makes ∙ one))
    new_lawful (Some n) makes (creates_none none quiet) = absurd (none-some n (sym none ∙ makes))
    new_lawful (Some n) makes (creates_one new one reports starts) =
        let same : new ≡ n = same_Some new n (sym one ∙ makes) in
        subst (λ (x : NewThread). Lawful (thread_created (Some x))) same (
          sym reports,
          (
            record {
              start = starts;
              runs = refl;
              enabled = refl;
              deferred = refl;
              no_handlers = refl;
              at_start = record { no_request = refl; not_ending = refl; no_pass = refl; not_ended = refl; not_joined = refl };
              is_there = refl;
            },
            tt,
          ),
        )

    threads_of_step : CreatesThreads script (step_of script config r p e t)
    threads_of_step =
        let lawful : Lawful (thread_created o.created) = new_lawful o.created refl (case_creates (case_of_step script config r.world p e t (moves_of_run script config before r is e p t taken))) in
        record {
          kept =
              ap (λ (threads : List Thread). ids_of (take (length p.threads) threads)) (changed_threads e.tid o p)
              ∙ ap ids_of (first_items (thread_moved e.tid o) p.threads (thread_created o.created))
              ∙ keys_changed (λ (u : Thread). u.id) (thread_moved e.tid o) (λ u. ap (λ (i : ℕ × Bool). i.0) (thread_moved_keeps e.tid o u)) p.threads;
          reported = ap (map (λ (u : Thread). (u.id, u.detached))) new_are ∙ lawful.0;
          created = subst (All (IsCreated script (step_of script config r p e t))) (sym new_are) (All-from_recursion _ _ lawful.1);
        }

  -- each step makes the threads that its events report
  pub new_threads_of_run : EveryStep script config (CreatesThreads script)
  new_threads_of_run = every_step script config (CreatesThreads script) threads_of_step
