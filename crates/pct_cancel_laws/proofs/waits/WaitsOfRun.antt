-- Every run keeps the laws of condition waits and of signals that are handed on, and ends in a state whose threads are in the waits that
-- their events report.
use Rattle.pct_names.proofs.Names.{ap, Config, Entry, false, in_child, List, made_thread, next_of, option_and_then, Process, refl, reverse}
use Rattle.pct_names.proofs.Names.{Run, run, Script, Some, Status, subst, sym, Thread, thread_with, transition_by, true, ℕ, ◌∙◌, ◌≡◌}
use Rattle.pct_laws.specs.Each.{each}
use Rattle.pct_laws.specs.CondLaw.{waits_allow, hand_ons_allow}
use Rattle.pct_laws.specs.Kept.{WaitKept, is_wait_call, is_release}
use Rattle.pct_laws.specs.FollowedEvents.{are_followed}
use Rattle.pct_laws.specs.declared.stage.WaitStage.{WaitStage}
use Rattle.pct_laws.specs.declared.stage.WaitStage.TheVariants.{NoWait}
use Rattle.pct_laws.specs.WaitStages.{wait_stage, may_follow_stage}
use Rattle.pct_thread_invariants.proofs.lift.TakenSteps.{IsTaken, with_step, AfterEveryRun, every_run}
use Rattle.pct_thread_invariants.proofs.lift.ThreadsAfter.{Moves, mover}
use Rattle.pct_thread_invariants.proofs.lift.EveryProcess.{process_taken, moves_of_run}
use Rattle.pct_thread_invariants.proofs.lift.ReportedBy.{reported_by, of_thread}
use Rattle.pct_thread_invariants.proofs.lift.EachAllowed.{each_later}
use Rattle.pct_thread_invariants.proofs.lift.FollowedEvents.{followed_later}
use Rattle.pct_thread_invariants.proofs.lift.EveryThread.{OfEveryThread, of_made_thread, IsThreadRule, every_thread}
use Rattle.pct_cancel_laws.proofs.waits.NeighbourEvents.{are_neighbours, hand_ons_later}
use Rattle.pct_cancel_laws.proofs.waits.WaitSteps.{stage, stage_reading, IsAtStage, IsInWait, transition_keeps, transition_stays}
use Rattle.pct_cancel_laws.proofs.waits.WaitSteps.{named_keeps_wait}

module _ (script : Script) (config : Config) where
  thread_rule : IsThreadRule stage (IsInWait script) script config (λ p. Unit {0})
  thread_rule = record {
    initial = (refl, tt);
    created = λ w p t k choice new nothing offered is makes. (refl, tt);
    named = named_keeps_wait script;
    kept = λ w p t k choice nothing offered is. transition_stays script config w p t k choice offered is;
    replica = λ w p t k at nothing forks is. subst (λ (s : Status). IsAtStage (next_of script t.frames) (in_child s) NoWait) (sym forks) (refl, tt);
  }

  -- ---- runs

  waits_fit : AfterEveryRun script config (OfEveryThread stage (IsInWait script))
  waits_fit = every_thread stage (IsInWait script) script config (λ p. Unit {0}) thread_rule (λ entries r is pid p made. tt)

  waits_kept : (before : List Entry) (r : Run) → run script config before ≡ Some r → (e : Entry) (p : Process) (t : Thread) → IsTaken script config r.world e p t → each waits_allow r.events ≡ true → each waits_allow (with_step e (transition_by script config r.world p t e.alt) r).events ≡ true
  waits_kept before r is e p t taken law =
      let moves : Moves script config r.world p e t = moves_of_run script config before r is e p t taken in
      let m = mover script config r.world p e t moves in
      let k : WaitStage = reported_by (of_thread stage e.tid) e.pid r.events in
      let made = ap (option_and_then (thread_with e.tid)) (process_taken script config before r is e p t taken) ∙ m.found in
      let in_wait : IsInWait script t k = of_made_thread stage (IsInWait script) r (waits_fit before r is) e.pid e.tid t made m.here in
      each_later stage (λ w now. may_follow_stage now w) wait_stage stage_reading e r.events (reverse (transition_by script config r.world p t e.alt).events) (transition_keeps script config r.world p t k e.alt taken.offered in_wait).lawful law

  -- the law of condition waits
  pub waits_of_run : AfterEveryRun script config (λ r. each waits_allow r.events ≡ true)
  waits_of_run = every_run script config (λ r. each waits_allow r.events ≡ true) waits_kept (λ some. refl)

  -- the law of signals that are handed on
  pub hand_ons_of_run : AfterEveryRun script config (λ r. each hand_ons_allow r.events ≡ true)
  hand_ons_of_run = every_run script config (λ r. each hand_ons_allow r.events ≡ true)
      (λ before r is e p t taken law. hand_ons_later e r.events script config r.world p t e.alt law) (λ some. refl)

  -- each call of a condition wait releases its mutex at once
  pub calls_of_run : AfterEveryRun script config (λ r. are_followed is_wait_call is_release r.events ≡ true)
  calls_of_run = every_run script config (λ r. are_followed is_wait_call is_release r.events ≡ true)
      (λ before r is e p t taken release. followed_later is_wait_call is_release e r.events release (reverse (transition_by script config r.world p t e.alt).events) (are_neighbours script config r.world p t e.alt)) (λ some. refl)

  -- the condition wait of each thread is unfinished exactly if the thread is in it
  pub waits_kept_of_run : (entries : List Entry) (r : Run) → run script config entries ≡ Some r → (pid tid : ℕ) (t : Thread) → made_thread pid tid r.world ≡ Some t → t.gone ≡ false → WaitKept (next_of script t.frames) t.status (wait_stage pid tid r.events)
  waits_kept_of_run entries r is pid tid t made here =
      subst (WaitKept (next_of script t.frames) t.status) (sym (stage_reading tid pid r.events)) (of_made_thread stage (IsInWait script) r (waits_fit entries r is) pid tid t made here).0
