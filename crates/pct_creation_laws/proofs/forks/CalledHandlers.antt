-- The law of fork handlers, of each step of a run.
use Rattle.pct_names.proofs.Names.{[], All-from_recursion, AllByRecursion, ap, body_at, Bool, cond, Config, ends, Entry, Environment}
use Rattle.pct_names.proofs.Names.{environment_of, false, false≢true, ForkAt, handler_event, has_valid_id, inl, inr, is_forking, is_some}
use Rattle.pct_names.proofs.Names.{List, list_any, moved, next_of, None, none-some, option_and_then, or_parts, Parent, Phase, Prepare}
use Rattle.pct_names.proofs.Names.{Process, refl, Run, run, same_Some, Script, Some, Status, subst, sym, Thread, thread_moved, thread_with}
use Rattle.pct_names.proofs.Names.{Transition, transition_by, true, What, while_called, ℕ, ◌∙◌, ◌∷◌, ◌≡◌, ◌≢◌, ◌⊎◌}
use Rattle.pct_model.specs.declared.event.What.TheVariants as what
use Rattle.pct_model.specs.declared.state.Phase.TheVariants as phase
use Rattle.pct_laws.specs.ForkLaw.{answer_in, calls_fork, is_handler_call, CallsHandler, EachHandler, fork_by, fork_of, ForksWithNoneLeft}
use Rattle.pct_laws.specs.ForkLaw.{KeepsFork, left_to_call}
use Rattle.pct_laws.specs.Kept.{is_in_fork_handler, IsSuspendedAt}
use Rattle.pct_laws.specs.ThreadSteps.{ThreadStep}
use Rattle.pct_transition_cases.proofs.PlacedStatements.{is_placed}
use Rattle.pct_thread_invariants.proofs.ThreadsOfRun.{threads_kept}
use Rattle.pct_thread_invariants.proofs.lift.ChangedThreads.{named_keeps, same_settled}
use Rattle.pct_thread_invariants.proofs.lift.EveryProcess.{moves_of_run, process_taken}
use Rattle.pct_thread_invariants.proofs.lift.HandlerEvents.{of_each_phase}
use Rattle.pct_thread_invariants.proofs.lift.MadeThreads.{HasValidId}
use Rattle.pct_thread_invariants.proofs.lift.MovedThreads.{EveryStep, step_of, case_of_step, every_step}
use Rattle.pct_thread_invariants.proofs.lift.TakenSteps.{IsTaken}
use Rattle.pct_thread_invariants.proofs.lift.ThreadsAfter.{Moves, mover}
use Rattle.pct_process_laws.proofs.ForksOfRun.{forks_of_run}
use Rattle.pct_creation_laws.proofs.forks.ForkSteps.{ForkStep, begins_by, fork_begins, fork_made, fork_returns, fork_stays, fork_step}
use Rattle.pct_creation_laws.proofs.forks.ForkSteps.{goes_on_by, handler_called, HasNone, has_none}
use Rattle.pct_creation_laws.proofs.forks.KeptForks.{fork_resumes}
use Rattle.pct_creation_laws.proofs.forks.LeftHandlers.{first_is_left, none_is_left}
use Rattle.pct_creation_laws.proofs.forks.ReturnedForks.{fork_ends}

-- where no fork handler is called, the law asks nothing of the events
one_quiet : (s : ThreadStep) (w : What) → is_handler_call w ≡ false → EachHandler w s
one_quiet s (what.PrepareRun f) quiet = absurd (false≢true (sym quiet))
one_quiet s (what.ParentRun f) quiet = absurd (false≢true (sym quiet))
one_quiet s (what.ChildRun f) quiet = absurd (false≢true (sym quiet))
one_quiet s _ quiet = tt

all_quiet : (s : ThreadStep) (events : List What) → list_any is_handler_call events ≡ false → AllByRecursion (λ w. EachHandler w s) events
all_quiet s [] quiet = tt
all_quiet s (w ∷ events) quiet = let parts = or_parts (is_handler_call w) (list_any is_handler_call events) quiet in (one_quiet s w parts.0, all_quiet s events parts.1)

-- the event of a call of a handler
quiet_answer : (at : Phase) (f : ℕ) → answer_in (handler_event at f ∷ []) ≡ None
quiet_answer at f = of_each_phase (λ (w : What). answer_in (w ∷ []) ≡ None) f refl refl refl at

loud_call : (at : Phase) (f : ℕ) → list_any is_handler_call (handler_event at f ∷ []) ≡ true
loud_call at f = of_each_phase (λ (w : What). list_any is_handler_call (w ∷ []) ≡ true) f refl refl refl at

at_phase : (s : ThreadStep) (f : ℕ) (at : Phase) → CallsHandler at f s → EachHandler (handler_event at f) s
at_phase s f phase.Prepare call = call
at_phase s f phase.Parent call = call
at_phase s f phase.Child call = call

module _ (script : Script) (config : Config) where
  module _ (before : List Entry) (r : Run) (is : run script config before ≡ Some r) (e : Entry) (p : Process) (t : Thread) (taken : IsTaken script config r.world e p t) where
    abbrev o : Transition
    o = transition_by script config r.world p t e.alt

    abbrev environment : Environment
    environment = environment_of config r.world p t.id

    abbrev s : ThreadStep
    s = step_of script config r p e t

    moves : Moves script config r.world p e t
    moves = moves_of_run script config before r is e p t taken

    after_is : fork_of (thread_moved e.tid o t) ≡ fork_of (moved o t)
    after_is =
        named_keeps fork_of (λ t joined pending detached specific s same. same_settled (λ (st : Status). fork_by st t.kept) (λ c m why. refl) s t.status same) o.named (cond (has_valid_id e.tid t) (moved o t) t)
        ∙ ap (λ (b : Bool). fork_of (cond b (moved o t) t)) (mover script config r.world p e t moves).valid

    -- it keeps the values of a fork exactly if it is in a fork handler
    keeps : is_some t.kept ≡ is_in_fork_handler t.status t.frames
    keeps =
        let it : HasValidId p e.tid t = mover script config r.world p e t moves in
        (forks_of_run script config before r is e.pid e.tid t (ap (option_and_then (thread_with e.tid)) (process_taken script config before r is e p t taken) ∙ it.found) it.here).keeps

    -- a thread in fork is in its call
    suspended : IsSuspendedAt (next_of script t.frames) t.status
    suspended =
        let it : HasValidId p e.tid t = mover script config r.world p e t moves in
        (threads_kept script config before r is e.pid e.tid p t (process_taken script config before r is e p t taken) it.found it.here).suspended

    none_kept : HasNone t.status t.kept
    none_kept = has_none t.status t.frames t.kept keeps

    -- what the step does to the fork of its thread
    abbrev Steps : Type 0
    Steps = ForkStep config.passes (body_at script t.frames) p.shared t environment (next_of script t.frames) t.status o.events (fork_of t) (fork_of (moved o t))

    step : Steps
    step = fork_step config.passes (body_at script t.frames) p.shared t environment (case_of_step script config r.world p e t moves) none_kept (goes_on_by config.passes (body_at script t.frames) p.shared t environment e.alt (next_of script t.frames) t.status)

    called_by : Steps → AllByRecursion (λ w. EachHandler w s) o.events
    called_by (fork_begins call other no_events) = subst (AllByRecursion (λ w. EachHandler w s)) (sym no_events) tt
    called_by (fork_stays ends in_fork answer quiet is) = all_quiet s o.events quiet
    called_by (handler_called at call event was is next) =
        subst (AllByRecursion (λ w. EachHandler w s)) (sym event) (
          at_phase s call.func at.phase (record {
            fork = at;
            next = (while_called at call.index).next;
            before = was;
            in_phase = refl;
            after = after_is ∙ is;
            first = first_is_left p.shared.fork_handlers at call next;
          }),
          tt,
        )
    called_by (fork_made at answer answers quiet was is prepared next) = all_quiet s o.events quiet
    called_by (fork_returns at answer quiet was is unprepared next) = all_quiet s o.events quiet

    made_by : Steps → (answer : ℕ) → answer_in o.events ≡ Some answer → ForksWithNoneLeft answer s
    made_by (fork_begins call other no_events) answer answers = absurd (none-some answer (sym (ap answer_in no_events) ∙ answers))
    made_by (fork_stays ends in_fork no_answer quiet is) answer answers = absurd (none-some answer (sym no_answer ∙ answers))
    made_by (handler_called at call event was is next) answer answers = absurd (none-some answer (sym (ap answer_in event ∙ quiet_answer at.phase call.func) ∙ answers))
    made_by (fork_made at given answered quiet was is prepared next) answer answers = subst (λ (n : ℕ). ForksWithNoneLeft n s) (same_Some given answer (sym answered ∙ answers)) (record {
      fork = at;
      before = was;
      prepared = prepared;
      none_left = none_is_left p.shared.fork_handlers at next;
      after = after_is ∙ is;
    })
    made_by (fork_returns at no_answer quiet was is unprepared next) answer answers = absurd (none-some answer (sym no_answer ∙ answers))

    returned_by : Steps → (fork : ForkAt) → is_forking t.status ≡ true → fork_of t ≡ Some fork → fork_of (moved o t) ≡ None
        → (left_to_call p.shared.fork_handlers fork ≡ []) × (fork.phase ≢ phase.Prepare)
    returned_by (fork_begins call other no_events) fork in_fork was none = absurd (false≢true (sym other ∙ in_fork))
    returned_by (fork_stays ends stays answer quiet is) fork in_fork was none =
        absurd (none-some fork (sym none ∙ is ∙ ap (λ (b : Bool). cond b None (fork_of t)) (stays in_fork) ∙ was))
    returned_by (handler_called at call event was_at is next) fork in_fork was none = absurd (none-some (while_called at call.index) (sym none ∙ is))
    returned_by (fork_made at answer answered quiet was_at is prepared next) fork in_fork was none = absurd (none-some _ (sym none ∙ is))
    returned_by (fork_returns at answer quiet was_at is unprepared next) fork in_fork was none =
        subst (λ (x : ForkAt). (left_to_call p.shared.fork_handlers x ≡ []) × (x.phase ≢ phase.Prepare)) (same_Some at fork (sym was_at ∙ was)) (none_is_left p.shared.fork_handlers at next, unprepared)

    kept_by : Steps → calls_fork (next_of script t.frames) t.status ≡ false → is_some (answer_in o.events) ≡ false → list_any is_handler_call o.events ≡ false
        → (fork_of (moved o t) ≡ fork_of t) ⊎ (fork_of (moved o t) ≡ None)
    kept_by (fork_begins call other no_events) no_call no_answer quiet = absurd (false≢true (sym no_call ∙ call))
    kept_by (fork_stays true stays answer silent is) no_call no_answer quiet = inr is
    kept_by (fork_stays false stays answer silent is) no_call no_answer quiet = inl is
    kept_by (handler_called at call event was is next) no_call no_answer quiet =
        absurd (false≢true (sym quiet ∙ ap (list_any is_handler_call) event ∙ loud_call at.phase call.func))
    kept_by (fork_made at answer answered silent was is prepared next) no_call no_answer quiet = absurd (false≢true (sym no_answer ∙ ap is_some answered))
    kept_by (fork_returns at answer silent was is unprepared next) no_call no_answer quiet = inr is

    forks_of_step : KeepsFork script s
    forks_of_step = record {
      begun = λ calls goes. after_is ∙ begins_by config.passes (body_at script t.frames) p.shared t environment e.alt (next_of script t.frames) t.status calls goes;
      called = All-from_recursion _ _ (called_by step);
      made = made_by step;
      returned = λ fork in_fork was none. returned_by step fork in_fork was (sym after_is ∙ none);
      ends = λ in_fork quiet.
          after_is ∙ fork_ends config.passes (body_at script t.frames) p.shared t environment e.alt (next_of script t.frames) t.status in_fork suspended taken.offered quiet none_kept;
      resumed = λ outside no_call stays.
          after_is ∙ fork_resumes config.passes p.shared t environment (is_placed script t.frames) (case_of_step script config r.world p e t moves) keeps outside no_call stays;
      kept = λ no_call no_answer quiet. elim (kept_by step no_call no_answer quiet) [
        | inl same ↦ inl (after_is ∙ same)
        | inr left ↦ inr (after_is ∙ left)
      ];
    }

  -- each step of a run keeps the law of fork handlers
  pub fork_handlers_of_run : EveryStep script config (KeepsFork script)
  fork_handlers_of_run = every_step script config (KeepsFork script) forks_of_step
