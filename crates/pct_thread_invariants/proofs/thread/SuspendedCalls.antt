-- The newest event of a thread that is suspended at a generic cancellation point, in pthread_join, in sem_wait, in sem_timedwait or in
-- waitpid is that of the call.
use Rattle.pct_names.proofs.Names.{ap, body_at, Called, Config, Environment, environment_of, Event, false, Frame, if◌then◌else◌, in_child}
use Rattle.pct_names.proofs.Names.{is_timed_wait, join_point, List, moved, next_of, NextStatement, None, none-some, Option, own_after, refl}
use Rattle.pct_names.proofs.Names.{reverse, Script, sem_timedwait_point, sem_wait_point, SharedState, Some, Status, Stmt, sym, Thread}
use Rattle.pct_names.proofs.Names.{thread_at, Transition, true, waitpid_point, What, ℕ, ◌∙◌, ◌≡◌}
use Rattle.pct_model.specs.declared.state.Status.TheVariants as status
use Rattle.pct_laws.specs.Kept.{EachThread}
use Rattle.pct_laws.specs.NewestEvents.{newest_event}
use Rattle.pct_transition_cases.proofs.CaseOfTransition.{case_of}
use Rattle.pct_transition_cases.proofs.TransitionCases.{TransitionCase, rests, join_begun, point_begun, sem_wait_begun}
use Rattle.pct_transition_cases.proofs.TransitionCases.{timed_sem_wait_begun, waitpid_begun}
use Rattle.pct_transition_cases.proofs.PlacedStatements.{IsPlaced, is_placed, next_placed}
use Rattle.pct_thread_invariants.proofs.lift.ChangedThreads.{same_settled, named_keeps}
use Rattle.pct_thread_invariants.proofs.lift.TakenSteps.{AfterEveryRun}
use Rattle.pct_thread_invariants.proofs.lift.ReportedBy.{reported_by, ThreadReading, of_thread, is_thread_reading, after_all}
use Rattle.pct_thread_invariants.proofs.lift.EveryThread.{of_made_thread, IsThreadRule, every_thread}

-- ---- the newest event of a thread

-- the reading of the newest event of a thread
abbrev newest : ThreadReading (Option What)
newest = record { start = None; next = λ w k. Some w; inherits = false; replica = λ parent k. k }

newest_reading : (tid pid : ℕ) (events : List Event) → newest_event pid tid events ≡ reported_by (of_thread newest tid) pid events
newest_reading tid = is_thread_reading newest tid (λ pid events. newest_event pid tid events) (λ pid. refl) (λ pid e earlier. refl)

-- ---- threads in calls

-- the event of the call in which a thread with this next statement and this status is suspended, if that is of a generic point, of
-- pthread_join, of sem_wait, of sem_timedwait or of waitpid
abbrev pub call_event : NextStatement → Status → Option What
call_event next (status.AtPoint index) = Some (Called index)
call_event next (status.Joining id) = Some (Called join_point)
call_event next (status.InSem s) = Some (Called (if is_timed_wait next then sem_timedwait_point else sem_wait_point))
call_event next (status.InWaitPid pid) = Some (Called waitpid_point)
call_event next _ = None

-- the newest event of a thread in such a call is that of the call
abbrev NewestIsCall : Script → Thread → Option What → Type 0
NewestIsCall script t k = (w : What) → call_event (next_of script t.frames) t.status ≡ Some w → k ≡ Some w

module _ (script : Script) (passes : ℕ) (shared : SharedState) (t : Thread) (environment : Environment) where
  -- the thread, with a status and frames
  abbrev own : Status → List Frame → Thread
  own s frames = record t { status = s; frames = frames }

  -- the thread after a transition
  case_newest : {frames : List Frame} {body : List Stmt} {next : NextStatement} {s : Status} {o : Transition} (k : Option What) → IsPlaced script frames body next → TransitionCase passes body shared (own s frames) environment true next s o
      → NewestIsCall script (own s frames) k → NewestIsCall script (moved o (own s frames)) (after_all newest (reverse o.events) k)
  unfolding thread_at own_after
  case_newest k place (rests next s alive) newest_is = newest_is
  case_newest k place (join_begun frame id d target is other joinable alone unasked) newest_is = λ w called. called
  case_newest k place (point_begun frame index required unasked) newest_is = λ w called. called
  case_newest k place (sem_wait_begun frame sem unasked) newest_is = λ w called. sym (ap (λ (next : NextStatement). call_event next (status.InSem sem)) (next_placed place)) ∙ called
  case_newest k place (timed_sem_wait_begun frame result sem unasked) newest_is = λ w called. sym (ap (λ (next : NextStatement). call_event next (status.InSem sem)) (next_placed place)) ∙ called
  case_newest k place (waitpid_begun frame result d pid unasked) newest_is = λ w called. called
  case_newest k place _ newest_is = λ w called. absurd (none-some w called)

module _ (script : Script) (config : Config) where
  -- each step keeps it
  newest_rule : IsThreadRule newest (NewestIsCall script) script config (λ p. Unit {0})
  newest_rule = record {
    initial = λ w called. absurd (none-some w called);
    created = λ w p t k choice new known offered newest_is makes event called. absurd (none-some event called);
    named = λ a t k newest_is w called. newest_is w (sym (named_keeps (λ (u : Thread). call_event (next_of script u.frames) u.status) (λ t j p d k s is. same_settled (call_event (next_of script t.frames)) (λ c m why. refl) s t.status is) a t) ∙ called);
    kept = λ w p t k choice known offered newest_is.
        let environment : Environment = environment_of config w p t.id in
        case_newest script config.passes p.shared t environment k (is_placed script t.frames) (case_of config.passes (body_at script t.frames) p.shared t environment true choice (next_of script t.frames) t.status (λ known. offered)) newest_is;
    replica = λ w p t k at known forks newest_is event called. absurd (none-some event (sym (ap (λ (s : Status). call_event (next_of script t.frames) (in_child s)) forks) ∙ called));
  }

  -- after every run, the newest event of a thread that is suspended in such a call is that of the call
  pub newest_call_of_run : AfterEveryRun script config (λ r. EachThread r.world (λ pid tid t. (w : What) → call_event (next_of script t.frames) t.status ≡ Some w → newest_event pid tid r.events ≡ Some w))
  newest_call_of_run entries r is pid tid t made here w called =
      newest_reading tid pid r.events
      ∙ of_made_thread newest (NewestIsCall script) r (every_thread newest (NewestIsCall script) script config (λ p. Unit {0}) newest_rule (λ entries r is pid p made. tt) entries r is) pid tid t made here w called
