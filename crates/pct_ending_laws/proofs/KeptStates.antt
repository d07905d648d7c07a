-- Every run keeps the laws of its events, and ends in a state that keeps the invariant.
use Rattle.pct_names.proofs.Names.{◌&&◌, All-from_recursion, ap, Called, Config, Entry, false, join_point, List, made_process, made_thread}
use Rattle.pct_names.proofs.Names.{next_of, option_and_then, option_and_then_some, Run, run, Script, Some, sym, Thread, thread_with, true}
use Rattle.pct_names.proofs.Names.{ℕ, ◌∙◌, ◌≡◌}
use Rattle.pct_model.specs.declared.state.Status.TheVariants as status
use Rattle.pct_laws.specs.Calls.{ChangesKeys, EachIsCalled}
use Rattle.pct_laws.specs.CancelLaw.{acts_where_it_may, acts_at_calls, SetsCancelability}
use Rattle.pct_laws.specs.CreationLaw.{CreatesThreads}
use Rattle.pct_laws.specs.Ends.{each_may_begin, KeepsValues}
use Rattle.pct_laws.specs.ForkLaw.{KeepsFork}
use Rattle.pct_laws.specs.Kept.{IsPlainFunction, IsSuspendedInJoin}
use Rattle.pct_laws.specs.CondLaw.{owners_allow, waits_allow, hand_ons_allow}
use Rattle.pct_laws.specs.ResultLaw.{StoresResults}
use Rattle.pct_laws.specs.StatementLaw.{says_statement, suspends_by_call, goes_on_by}
use Rattle.pct_laws.specs.ValueLaw.{uses_a_key, sets_its_value, KeepsThreads}
use Rattle.pct_thread_invariants.proofs.lift.EachAllowed.{each_both}
use Rattle.pct_ending_laws.specs.EndingLaws.{RunsKeepLaws, StatesAreKept}
use Rattle.pct_thread_invariants.proofs.exits.RegisteredFunctions.{registered_of_run}
use Rattle.pct_frame_laws.proofs.frames.LawfulFrames.{frame_law}
use Rattle.pct_process_laws.proofs.ForksOfRun.{forks_of_run}
use Rattle.pct_thread_invariants.proofs.ThreadsOfRun.{once_of_run, keys_kept, threads_kept, last_kept}
use Rattle.pct_ending_laws.proofs.ends.AfterTheEnd.{after_end_of_run}
use Rattle.pct_ending_laws.proofs.ends.HandlersRun.{ran_all}
use Rattle.pct_ending_laws.proofs.ends.LeftoverValues.{leftovers_of_run}
use Rattle.pct_thread_invariants.proofs.lift.MadeNumbers.{numbers_of_run}
use Rattle.pct_thread_invariants.proofs.thread.SuspendedCalls.{call_event, newest_call_of_run}
use Rattle.pct_join_laws.proofs.joins.JoiningThreads.{JoinsOne, joins_of_processes}
use Rattle.pct_join_laws.proofs.joins.ReportedFlags.{known_of_run, joined_of_run, detached_of_run}
use Rattle.pct_join_laws.proofs.joins.LawfulJoins.{joins_of_run}
use Rattle.pct_ending_laws.proofs.KeyEvents.{key_events_of_run, keys_law_of_run}
use Rattle.pct_cancel_laws.proofs.owners.OwnersOfRun.{owners_of_run, owners_kept}
use Rattle.pct_process_laws.proofs.processes.ProcessEnds.{end_status_of_run}
use Rattle.pct_process_laws.proofs.processes.ProcessEnds.{exit_value_of_run}
use Rattle.pct_process_laws.proofs.processes.LawfulProcesses.{processes_of_run}
use Rattle.pct_cancel_laws.proofs.requests.ActingCalls.{acts_at_calls_of_run}
use Rattle.pct_cancel_laws.proofs.requests.ActingSteps.{each_may_act_of_run}
use Rattle.pct_cancel_laws.proofs.requests.AwakenedThreads.{awakened_of_run}
use Rattle.pct_cancel_laws.proofs.requests.CancelStates.{cancelability_of_run}
use Rattle.pct_cancel_laws.proofs.requests.LawfulRequests.{requests_of_run}
use Rattle.pct_cancel_laws.proofs.requests.PendingRequests.{pending_of_run}
use Rattle.pct_cancel_laws.proofs.requests.SetCancelability.{sets_cancelability_of_run}
use Rattle.pct_creation_laws.proofs.creations.NewProcesses.{new_processes_of_run}
use Rattle.pct_creation_laws.proofs.creations.NewThreads.{new_threads_of_run}
use Rattle.pct_creation_laws.proofs.forks.CalledHandlers.{fork_handlers_of_run}
use Rattle.pct_ending_laws.proofs.results.KeptVariables.{globals_of_run, locals_of_run, values_of_run}
use Rattle.pct_ending_laws.proofs.results.OtherProcesses.{processes_of_run as other_processes_of_run}
use Rattle.pct_ending_laws.proofs.results.SetValues.{sets_of_run}
use Rattle.pct_ending_laws.proofs.results.StoredResults.{results_of_run}
use Rattle.pct_ending_laws.proofs.results.UsedKeys.{uses_of_run}
use Rattle.pct_ending_laws.proofs.results.ValuesOfThreads.{threads_of_run}
use Rattle.pct_join_laws.proofs.slots.LawfulCreations.{slots_of_run}
use Rattle.pct_ending_laws.proofs.steps.CalledFunctions.{each_is_called_of_run}
use Rattle.pct_ending_laws.proofs.steps.EndStages.{each_may_begin_of_run}
use Rattle.pct_ending_laws.proofs.steps.KeptKeys.{changes_keys_of_run}
use Rattle.pct_ending_laws.proofs.steps.KeptValues.{keeps_values_of_run}
use Rattle.pct_thread_invariants.proofs.lift.MovedThreads.{each_step}
use Rattle.pct_ending_laws.proofs.steps.NamedWaits.{suspends_of_run, continues_of_run}
use Rattle.pct_ending_laws.proofs.StepsOfRuns.{steps_of_run}
use Rattle.pct_ending_laws.proofs.steps.SaidStatements.{says_statements_of_run}
use Rattle.pct_once_laws.proofs.OncesOfRun.{onces_kept, routines_kept}
use Rattle.pct_once_laws.proofs.RoutineReturns.{once_law}
use Rattle.pct_wake_laws.proofs.SharedChanges.{shared_law}
use Rattle.pct_wake_laws.proofs.WakeLawKept.{wake_law}
use Rattle.pct_cancel_laws.proofs.waits.WaitsOfRun.{waits_of_run, hand_ons_of_run, calls_of_run, waits_kept_of_run}

-- each thread that is suspended in pthread_join
pub kept_joins_of_run : (script : Script) (config : Config) (entries : List Entry) (r : Run) → run script config entries ≡ Some r
    → (pid tid : ℕ) (t : Thread) → made_thread pid tid r.world ≡ Some t → t.gone ≡ false → (id : ℕ) → t.status ≡ status.Joining id → IsSuspendedInJoin pid tid id r.world r.events
kept_joins_of_run script config entries r is pid tid t made here id joins =
    option_and_then_some (thread_with tid) (made_process pid r.world) t made (λ p process_is thread_is.
    let one : JoinsOne p.threads tid id = (joins_of_processes script config entries r is pid p process_is).joins tid t thread_is here id joins in
    let in_process : (n : ℕ) → made_thread pid n r.world ≡ thread_with n p = λ n. ap (option_and_then (thread_with n)) process_is in
    record {
      newest = newest_call_of_run script config entries r is pid tid t made here (Called join_point) (ap (call_event (next_of script t.frames)) joins);
      target = one.target;
      made = in_process id ∙ one.made;
      here = one.here;
      other = one.other;
      not_joined = one.not_joined;
      joinable = one.joinable;
      alone = λ second u is_u. one.alone second u (sym (in_process second) ∙ is_u);
    })

-- the laws of every run
pub every_run_keeps_laws : RunsKeepLaws
every_run_keeps_laws script config entries r is = record {
  steps = steps_of_run script config entries r is;
  once = once_of_run script config entries r is;
  ran_all = ran_all config.passes r.events (once_of_run script config entries r is) (processes_of_run script config entries r is);
  after_end = after_end_of_run script config entries r is;
  calls = record {
    called = each_step script config EachIsCalled (each_is_called_of_run script config) entries;
    changed_keys = each_step script config (ChangesKeys script) (changes_keys_of_run script config) entries;
    keys = keys_law_of_run script config entries r is;
  };
  ends = record {
    stages = each_step script config (λ s. each_may_begin config.passes s ≡ true) (each_may_begin_of_run script config) entries;
    values = each_step script config (KeepsValues script) (keeps_values_of_run script config) entries;
    left = leftovers_of_run script config entries r is;
  };
  cancels = record {
    requests = requests_of_run script config entries r is;
    acts = each_step script config (λ s. acts_where_it_may script s ≡ true) (each_may_act_of_run script config) entries;
    at_calls = each_step script config (λ s. acts_at_calls script s ≡ true) (acts_at_calls_of_run script config) entries;
    set = each_step script config SetsCancelability (sets_cancelability_of_run script config) entries;
    awakened = awakened_of_run script config entries r is;
  };
  statements = record {
    said = each_step script config (λ s. says_statement config.slots script s ≡ true) (says_statements_of_run script config) entries;
    suspended = each_step script config (λ s. suspends_by_call script s ≡ true) (suspends_of_run script config) entries;
    continued = each_step script config (λ s. goes_on_by s.before.status s.events ≡ true) (continues_of_run script config) entries;
  };
  results = each_step script config (StoresResults script) (results_of_run script config) entries;
  values = record {
    keys = each_step script config (λ s. uses_a_key script s ≡ true) (uses_of_run script config) entries;
    set = each_step script config (λ s. sets_its_value script s ≡ true) (sets_of_run script config) entries;
    threads = each_step script config KeepsThreads (threads_of_run script config) entries;
    processes = other_processes_of_run script config entries;
  };
  frames = frame_law script config entries;
  created = record {
    threads = each_step script config (CreatesThreads script) (new_threads_of_run script config) entries;
    processes = new_processes_of_run script config entries;
  };
  forks = each_step script config (KeepsFork script) (fork_handlers_of_run script config) entries;
  joins = joins_of_run script config entries r is;
  conds = each_both (λ e earlier. owners_allow e earlier && waits_allow e earlier) hand_ons_allow r.events (each_both owners_allow waits_allow r.events (owners_of_run script config entries r is) (waits_of_run script config entries r is)) (hand_ons_of_run script config entries r is);
  controls = once_law script config entries r is;
  wakes = wake_law script config entries;
  shared = shared_law script config entries;
  creations = slots_of_run script config entries r is;
  processes = processes_of_run script config entries r is;
}

-- the invariant of the state after every run
pub every_state_is_kept : StatesAreKept
every_state_is_kept script config entries r is = record {
  numbers = numbers_of_run script config entries r is;
  known = known_of_run script config entries r is;
  globals = globals_of_run script config entries r is;
  locals = locals_of_run script config entries r is;
  values = values_of_run script config entries r is;
  keys = keys_kept script config entries r is;
  reported_keys = key_events_of_run script config entries r is;
  ended = end_status_of_run script config entries r is;
  exits = exit_value_of_run script config entries r is;
  exit_functions = λ pid p made. All-from_recursion (IsPlainFunction script) p.shared.exit_functions (registered_of_run script config entries r is pid p made).exit_functions;
  fork_handlers = λ pid p made. (registered_of_run script config entries r is pid p made).fork_handlers;
  forks = forks_of_run script config entries r is;
  threads = λ pid p made tid t found here. threads_kept script config entries r is pid tid p t made found here;
  state = λ pid tid t made here unbegun. (cancelability_of_run script config entries r is pid tid t made here unbegun).0;
  mode = λ pid tid t made here unbegun. (cancelability_of_run script config entries r is pid tid t made here unbegun).1;
  pending = pending_of_run script config entries r is;
  joined = joined_of_run script config entries r is;
  detached = detached_of_run script config entries r is;
  joins = kept_joins_of_run script config entries r is;
  owners = owners_kept script config entries r is;
  onces = onces_kept script config entries r is;
  routines = routines_kept script config entries r is;
  waits = waits_kept_of_run script config entries r is;
  calls_release = calls_of_run script config entries r is;
  last = λ pid p made tid t found here exits. last_kept script config entries r is pid p made tid t found here exits.ended exits.exits;
}
