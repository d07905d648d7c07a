-- The law of joins holds of the events of every run.
use Rattle.pct_names.proofs.Names.{◌&&◌, ◌++◌, and_from, ap, Bool, Config, Entry, environment_of, event_of, false, false_from_ne_true}
use Rattle.pct_names.proofs.Names.{false≢true, is_ended_status, join_point, List, list_all, made_process, made_thread, map, nat_eq, next_of}
use Rattle.pct_names.proofs.Names.{NextStatement, not, Option, option_and_then, option_map_or, Process, refl, reverse, Run, run, same_Some}
use Rattle.pct_names.proofs.Names.{Script, Some, Status, Stmt, sym, Thread, thread_with, Transition, transition_by, true}
use Rattle.pct_names.proofs.Names.{true_from_ne_false, value_of, What, with_id, ◌||◌, ℕ, ◌∙◌, ◌∷◌, ◌≡◌}
use Rattle.std.proofs.Common.{eq-eqb}
use Rattle.std.proofs.lemmas.Bool.{true≢false}
use Rattle.pct_model.specs.declared.event.What.TheVariants as what
use Rattle.pct_model.specs.declared.state.Status.TheVariants as status
use Rattle.pct_transition_cases.proofs.TransitionCases.{TransitionCase, join_ended, thread_detached, request_sent, fork_handler_called}
use Rattle.pct_laws.specs.Each.{each}
use Rattle.pct_laws.specs.JoinLaw.{is_live, may_name, allows}
use Rattle.pct_laws.specs.NewestEvents.{reports_call}
use Rattle.pct_laws.specs.Kept.{ThreadKept}
use Rattle.pct_laws.specs.KnownThreads.{is_joined, is_detached}
use Rattle.pct_laws.specs.ThreadSummary.{ThreadSummary, summary_of}
use Rattle.pct_thread_invariants.proofs.ThreadsOfRun.{threads_fit, threads_kept}
use Rattle.pct_thread_invariants.proofs.LastThreads.{last_exits}
use Rattle.pct_thread_invariants.proofs.lift.HandlerEvents.{of_each_phase}
use Rattle.pct_thread_invariants.proofs.lift.MovedThreads.{case_of_step}
use Rattle.pct_thread_invariants.proofs.lift.TakenSteps.{IsTaken, every_run}
use Rattle.pct_thread_invariants.proofs.lift.ReportedBy.{reported_by, of_thread}
use Rattle.pct_thread_invariants.proofs.lift.EveryThread.{of_made_thread}
use Rattle.pct_thread_invariants.proofs.lift.MadeThreads.{HasValidId, with_valid_id}
use Rattle.pct_thread_invariants.proofs.lift.EveryProcess.{process_taken, ids_of_run, moves_of_run}
use Rattle.pct_thread_invariants.proofs.thread.EndingSteps.{goes_on}
use Rattle.pct_thread_invariants.proofs.thread.ThreadRule.{summary, FitsAny}
use Rattle.pct_thread_invariants.proofs.thread.JoinTransitions.{names_none}
use Rattle.pct_join_laws.proofs.joins.ReportedFlags.{known_of_run, joined_of_run, detached_of_run}
use Rattle.pct_thread_invariants.proofs.thread.SuspendedCalls.{call_event, newest_call_of_run}
use Rattle.pct_join_laws.proofs.joins.JoiningThreads.{JoinsOne, joins_of_processes}

-- ---- one thread

-- a thread that holds its slot, and has the status of its end if it has ended, is not reclaimed
unreclaimed_by : (gone ended end_status released : Bool) → (not gone && not (end_status && released)) ≡ true → (ended ≡ true → end_status ≡ true) → (ended && released) ≡ false
unreclaimed_by gone false end_status released holds has_status = refl
unreclaimed_by gone true end_status false holds has_status = refl
unreclaimed_by true true true true holds has_status = absurd (false≢true holds)
unreclaimed_by false true true true holds has_status = absurd (false≢true holds)
unreclaimed_by gone true false true holds has_status = absurd (false≢true (has_status refl))

-- ---- a step

module _ (script : Script) (config : Config) (before : List Entry) (r : Run) (is : run script config before ≡ Some r) (e : Entry) (p : Process) (t : Thread) (taken : IsTaken script config r.world e p t) where
  process_is : made_process e.pid r.world ≡ Some p
  process_is = process_taken script config before r is e p t taken

  live : (id : ℕ) (u : Thread) → with_id id p.threads ≡ Some u → HasValidId p id u
  live id u is_u = with_valid_id id p u (ids_of_run script config before r is e.pid p process_is).distinct is_u

  made : (id : ℕ) (u : Thread) → with_id id p.threads ≡ Some u → made_thread e.pid id r.world ≡ Some u
  made id u is_u = ap (option_and_then (thread_with id)) process_is ∙ (live id u is_u).found

  it : HasValidId p e.tid t
  it = live e.tid t taken.is_thread

  it_made : made_thread e.pid e.tid r.world ≡ Some t
  it_made = made e.tid t taken.is_thread

  -- if it has ended, it names no thread
  ended_silent : t.ended ≡ true → list_all names_none (reverse (transition_by script config r.world p t e.alt).events) ≡ true
  ended_silent ended =
      let reported : ThreadSummary = reported_by (of_thread summary e.tid) e.pid r.events in
      (goes_on script config r.world p t reported e.alt taken.offered (of_made_thread summary (FitsAny script config.passes) r (threads_fit script config before r is) e.pid e.tid t it_made it.here) ended).silent

  not_ended : (t.ended ≡ true → false ≡ true) → t.ended ≡ false
  not_ended silent = false_from_ne_true t.ended (λ ended. false≢true (silent ended))

  -- a thread that another one names, which has not ended
  names_live : (id : ℕ) (u : Thread) → t.ended ≡ false → with_id id p.threads ≡ Some u → is_live e.pid id r.events ≡ true
  names_live id u alive is_u =
      let target : HasValidId p id u = live id u is_u in
      let kept : ThreadKept script p.shared.keys u (summary_of e.pid id r.events) = threads_kept script config before r is e.pid id p u process_is target.found target.here in
      let has_status : u.ended ≡ true → is_ended_status u.status ≡ true = λ ended. true_from_ne_false (is_ended_status u.status) (λ exits.
      true≢false (sym (last_exits script config (threads_fit script config) before r is e.pid p process_is id u target.found (target.here, ended, exits) e.tid t it.found it.here) ∙ alive)) in
      and_from _ _ (known_of_run script config before r is e.pid id ∙ ap (λ (found : Option Thread). option_map_or (λ x. not x.gone) found false) (made id u is_u) ∙ ap not target.here)
      (ap not (
      ap (λ (b : Bool). b && (is_joined e.pid id r.events || is_detached e.pid id r.events)) kept.ended
      ∙ ap (λ (b : Bool). u.ended && (b || is_detached e.pid id r.events)) (sym (joined_of_run script config before r is e.pid id u (made id u is_u) target.here))
      ∙ ap (λ (b : Bool). u.ended && (u.joined || b)) (sym (detached_of_run script config before r is e.pid id u (made id u is_u) target.here))
      ∙ unreclaimed_by u.gone u.ended (is_ended_status u.status) (u.joined || u.detached) target.holds has_status
      ))

  -- a thread that is joined
  joins_ended : (id v : ℕ) (u : Thread) → t.status ≡ status.Joining id → with_id id p.threads ≡ Some u → u.status ≡ status.Ended v → may_name (what.Joined id v) e.pid e.tid r.events ≡ true
  joins_ended id v u joins is_u ended =
      let target : HasValidId p id u = live id u is_u in
      let kept : ThreadKept script p.shared.keys u (summary_of e.pid id r.events) = threads_kept script config before r is e.pid id p u process_is target.found target.here in
      let one : JoinsOne p.threads e.tid id = (joins_of_processes script config before r is e.pid p process_is).joins e.tid t it.found it.here id joins in
      let same : one.target ≡ u = same_Some one.target u (sym one.made ∙ target.found) in
      and_from _ _ (and_from _ _ (and_from _ _ (ap (λ (value : Option ℕ). option_map_or (λ n. nat_eq n v) value false) (kept.value v ended) ∙ eq-eqb v v refl)
      (ap not (sym (joined_of_run script config before r is e.pid id u (made id u is_u) target.here) ∙ ap (λ (x : Thread). x.joined) (sym same) ∙ one.not_joined)))
      (ap not (sym (detached_of_run script config before r is e.pid id u (made id u is_u) target.here) ∙ ap (λ (x : Thread). x.detached) (sym same) ∙ one.joinable)))
      (ap (λ (o : Option What). option_map_or (reports_call join_point) o false) (newest_call_of_run script config before r is e.pid e.tid t it_made it.here (what.Called join_point) (ap (call_event (next_of script t.frames)) joins)))

  -- the events of a transition
  case_lawful : {body : List Stmt} {next : NextStatement} {s : Status} {o : Transition} → t.status ≡ s → TransitionCase config.passes body p.shared t (environment_of config r.world p t.id) true next s o → (t.ended ≡ true → list_all names_none (reverse o.events) ≡ true) → each allows r.events ≡ true
      → each allows (map (event_of e) (reverse o.events) ++ r.events) ≡ true
  unfolding environment_of
  case_lawful joins (join_ended frame operand d id v target is ended) silent law = and_from _ _ (joins_ended id v target joins is ended) law
  case_lawful runs (thread_detached frame id target is joinable alone) silent law = and_from _ _ (names_live (value_of p.shared.globals frame id) target (not_ended silent) is) law
  case_lawful runs (request_sent frame id target is) silent law = and_from _ _ (names_live (value_of p.shared.globals frame id) target (not_ended silent) is) law
  case_lawful runs (fork_handler_called next at call is) silent law = of_each_phase (λ (w : What). each allows (event_of e w ∷ r.events) ≡ true) call.func law law law at.phase
  case_lawful runs _ silent law = assumption

-- ---- every run

-- the law of joins
pub joins_of_run : (script : Script) (config : Config) (entries : List Entry) (r : Run) → run script config entries ≡ Some r → each allows r.events ≡ true
joins_of_run script config entries r is =
    every_run script config (λ r. each allows r.events ≡ true)
    (λ before r is e p t taken law. case_lawful script config before r is e p t taken refl (case_of_step script config r.world p e t (moves_of_run script config before r is e p t taken)) (ended_silent script config before r is e p t taken) law) (λ some. refl) entries r is
