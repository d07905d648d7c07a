-- A thread that has neither begun to end nor begun to exit its process has the cancelability state and type that its events report.
use Rattle.pct_names.proofs.Names.{◌&&◌, [], and_parts, ap, ap₂, body_at, Bool, cond, Config, Environment, environment_of, Event, false}
use Rattle.pct_names.proofs.Names.{false≢true, has_begun_to_end, is_forking, List, mode_if, moved, named_after, NamedAction, next_of}
use Rattle.pct_names.proofs.Names.{NextStatement, not, Option, own_after, refl, reverse, Script, SharedState, state_if, Status, Stmt, subst}
use Rattle.pct_names.proofs.Names.{sym, Thread, thread_at, Transition, transition_by, true, What, ℕ, ◌∙◌, ◌∷◌, ◌≡◌}
use Rattle.pct_laws.specs.CancelEvents.{enabled_after, is_enabled_last, asynchronous_after, is_asynchronous_last, has_not_begun}
use Rattle.pct_laws.specs.Kept.{EachThread}
use Rattle.pct_laws.specs.KnownThreads.{is_own, is_fork_of}
use Rattle.pct_laws.specs.ThreadSummary.{ThreadSummary, no_events, with_event, summary_of}
use Rattle.pct_transition_cases.proofs.CaseOfTransition.{case_of}
use Rattle.pct_transition_cases.proofs.TransitionCases.{TransitionCase, main_returned, start_returned, canceled, canceled_at_point}
use Rattle.pct_transition_cases.proofs.TransitionCases.{canceled_in_join, canceled_in_sem_wait, canceled_in_waitpid, ended_in_wait}
use Rattle.pct_transition_cases.proofs.TransitionCases.{fork_handler_called, exit_called, state_set, mode_set, last_ended}
use Rattle.pct_transition_cases.proofs.TransitionCases.{last_ended_with_keys, process_exited}
use Rattle.pct_thread_invariants.proofs.ThreadsOfRun.{ProcessFits, thread_rule, processes_fit}
use Rattle.pct_thread_invariants.proofs.lift.ChangedThreads.{named_keeps}
use Rattle.pct_thread_invariants.proofs.lift.HandlerEvents.{of_each_phase}
use Rattle.pct_thread_invariants.proofs.lift.TakenSteps.{AfterEveryRun}
use Rattle.pct_thread_invariants.proofs.lift.ReportedBy.{ThreadReading, reported_by, of_thread, is_thread_reading, after_all}
use Rattle.pct_thread_invariants.proofs.lift.EveryThread.{of_made_thread, IsThreadRule, every_thread}
use Rattle.pct_thread_invariants.proofs.thread.Replicas.{InFork, in_fork}
use Rattle.pct_thread_invariants.proofs.thread.ThreadRule.{summary, FitsAny}

-- ---- what the events report

-- what the events so far report of a thread: its summary, and its cancelability state and type as they were set last
record CancelState : Type 0 where
  summary : ThreadSummary
  enabled : Bool
  asynchronous : Bool

-- the reading of it
abbrev cancel_state : ThreadReading CancelState
cancel_state = record {
  start = record { summary = no_events; enabled = true; asynchronous = false };
  next = λ w k. record { summary = with_event w k.summary; enabled = enabled_after w k.enabled; asynchronous = asynchronous_after w k.asynchronous };
  inherits = true;
  replica = λ parent k. record { summary = record k.summary { handlers = parent.summary.handlers }; enabled = parent.enabled; asynchronous = parent.asynchronous };
}

-- the functions of CancelEvents.antt
abbrev reported : ℕ → ℕ → List Event → CancelState
reported tid pid events = record { summary = summary_of pid tid events; enabled = is_enabled_last pid tid events; asynchronous = is_asynchronous_last pid tid events }

-- a summary, a state and a type
abbrev with_summary : ThreadSummary → Bool → Bool → CancelState
with_summary s enabled asynchronous = record { summary = s; enabled = enabled; asynchronous = asynchronous }

-- three values that are chosen by the same tests are chosen together
together : (own fork : Bool) (s t u : ThreadSummary) (a b c d e f : Bool)
    → with_summary (cond own s (cond fork t u)) (cond own a (cond fork b c)) (cond own d (cond fork e f)) ≡ cond own (with_summary s a d) (cond fork (with_summary t b e) (with_summary u c f))
together true fork s t u a b c d e f = refl
together false true s t u a b c d e f = refl
together false false s t u a b c d e f = refl

-- they are the reading
state_reading : (tid pid : ℕ) (events : List Event) → reported tid pid events ≡ reported_by (of_thread cancel_state tid) pid events
state_reading tid = is_thread_reading cancel_state tid (λ pid events. reported tid pid events) (λ pid. refl)
    (λ pid e earlier. together (is_own pid tid e) (is_fork_of pid tid e)
    (with_event e.what (summary_of pid tid earlier)) (record (summary_of pid tid earlier) { handlers = (summary_of e.pid tid earlier).handlers }) (summary_of pid tid earlier)
    (enabled_after e.what (is_enabled_last pid tid earlier)) (is_enabled_last e.pid tid earlier) (is_enabled_last pid tid earlier)
    (asynchronous_after e.what (is_asynchronous_last pid tid earlier)) (is_asynchronous_last e.pid tid earlier) (is_asynchronous_last pid tid earlier))

-- the summary is read as before
summary_after : (added : List What) (k : CancelState) → after_all summary added k.summary ≡ (after_all cancel_state added k).summary
summary_after [] k = refl
summary_after (w ∷ added) k = ap (with_event w) (summary_after added k)

-- ---- the rule

-- the events report neither that the thread began to end nor that it began to exit its process
abbrev pub not_begun : ThreadSummary → Bool
not_begun s = not (has_begun_to_end s.reason) && not s.exiting

-- the thread has the state and the type that are reported
abbrev AsSet : Thread → CancelState → Type 0
AsSet t k = not_begun k.summary ≡ true → (t.state ≡ state_if k.enabled) × (t.mode ≡ mode_if k.asynchronous)

-- a thread that began to exit its process has begun
begun_by_exit : (s : ThreadSummary) → (not (has_begun_to_end s.reason) && false) ≡ true → ⊥
begun_by_exit s alive = false≢true (and_parts (not (has_begun_to_end s.reason)) false alive).1

module _ (passes : ℕ) (body : List Stmt) (shared : SharedState) (t : Thread) (environment : Environment) (offered : Bool) where
  -- the thread after a transition
  case_kept : {next : NextStatement} {s : Status} {o : Transition} (k : CancelState) → TransitionCase passes body shared t environment offered next s o → AsSet t k → AsSet (moved o t) (after_all cancel_state (reverse o.events) k)
  unfolding thread_at own_after
  case_kept k (main_returned frame s v returns is once) as_set alive = absurd (begun_by_exit k.summary alive)
  case_kept k (process_exited frame v alone) as_set alive = absurd (begun_by_exit k.summary alive)
  case_kept k (last_ended next none is_last nothing none_left) as_set alive = absurd (begun_by_exit k.summary alive)
  case_kept k (last_ended_with_keys next left none is_last some limit all none_left) as_set alive = absurd (begun_by_exit k.summary alive)
  case_kept k (start_returned frame s v returns is) as_set alive = absurd (false≢true alive)
  case_kept k (exit_called frame v begun) as_set alive = absurd (false≢true alive)
  case_kept k (canceled next asked where_it_may) as_set alive = absurd (false≢true alive)
  case_kept k (canceled_at_point next index asked) as_set alive = absurd (false≢true alive)
  case_kept k (canceled_in_join next id asked) as_set alive = absurd (false≢true alive)
  case_kept k (canceled_in_sem_wait next sem asked) as_set alive = absurd (false≢true alive)
  case_kept k (canceled_in_waitpid next pid asked) as_set alive = absurd (false≢true alive)
  case_kept k (ended_in_wait next c m free) as_set alive = absurd (false≢true alive)
  case_kept k (state_set frame enable old allowed) as_set alive = (refl, (as_set alive).1)
  case_kept k (mode_set frame asynchronous old) as_set alive = ((as_set alive).0, refl)
  case_kept k (fork_handler_called next at call is) as_set alive =
      of_each_phase (λ (w : What). AsSet t (cancel_state.next w k)) call.func as_set as_set as_set at.phase alive
  case_kept k _ as_set alive = as_set alive

-- a thread that another one names
named_as_set : (a : Option NamedAction) (t : Thread) (k : CancelState) → AsSet t k → AsSet (named_after a t) k
named_as_set a t k as_set alive =
    let is = as_set alive in
    (named_keeps (λ (u : Thread). u.state) (λ t j p d k s same. refl) a t ∙ is.0, named_keeps (λ (u : Thread). u.mode) (λ t j p d k s same. refl) a t ∙ is.1)

module _ (script : Script) (config : Config) where
  -- a thread fits its events, and has the state and the type that they report
  abbrev IsAsSet : Thread → CancelState → Type 0
  IsAsSet t k = FitsAny script config.passes t k.summary × AsSet t k

  -- a thread in fork has not begun to end
  forks_alive : (t : Thread) (k : CancelState) → is_forking t.status ≡ true → FitsAny script config.passes t k.summary → not_begun k.summary ≡ true
  forks_alive t k forks fits =
      let is : InFork script t.reason t.frames t.handlers k.summary = in_fork script t.status t.reason t.frames t.handlers k.summary forks fits.by_status in
      ap₂ (λ (begun exits : Bool). not begun && not exits) (ap has_begun_to_end fits.agrees.reason ∙ is.alive) is.has.not_exiting

  -- each step keeps the state and the type that are reported
  state_rule : IsThreadRule cancel_state IsAsSet script config (ProcessFits script config)
  state_rule =
      let rule : IsThreadRule summary (FitsAny script config.passes) script config (ProcessFits script config) = thread_rule script config in
      record {
        initial = (rule.initial, λ alive. (refl, refl));
        created = λ w p t k choice new known offered is makes. (rule.created w p t k.summary choice new known offered is.0 makes, λ alive. (refl, refl));
        named = λ a t k is. (rule.named a t k.summary is.0, named_as_set a t k is.1);
        kept = λ w p t k choice known offered is.
            let o : Transition = transition_by script config w p t choice in
            let environment : Environment = environment_of config w p t.id in (
              subst (FitsAny script config.passes (moved o t)) (summary_after (reverse o.events) k) (rule.kept w p t k.summary choice known offered is.0),
              case_kept config.passes (body_at script t.frames) p.shared t environment true k (case_of config.passes (body_at script t.frames) p.shared t environment true choice (next_of script t.frames) t.status (λ known. offered)) is.1,
            );
        replica = λ w p t k at known forks is.
            (rule.replica w p t k.summary at known forks is.0, λ alive. is.1 (forks_alive t k (ap is_forking forks) is.0));
      }

  -- after every run, a thread that has neither begun to end nor begun to exit its process has the state and the type that are reported
  pub cancelability_of_run : AfterEveryRun script config (λ r. EachThread r.world (λ pid tid t. has_not_begun pid tid r.events ≡ true → (t.state ≡ state_if (is_enabled_last pid tid r.events)) × (t.mode ≡ mode_if (is_asynchronous_last pid tid r.events))))
  cancelability_of_run entries r is pid tid t made here =
      let fits = of_made_thread cancel_state IsAsSet r (every_thread cancel_state IsAsSet script config (ProcessFits script config) state_rule (processes_fit script config) entries r is) pid tid t made here in
      (subst (IsAsSet t) (sym (state_reading tid pid r.events)) fits).1
