-- The events of a run tell which threads act upon a request: a thread that has not ended has to act exactly if it has a request and its
-- cancelability is enabled.
use Rattle.pct_names.proofs.Names.{◌&&◌, and_parts, ap, ap₂, Asynchronous, Bool, Config, Deferred, Entry, false, false_from_ne_true}
use Rattle.pct_names.proofs.Names.{has_begun_to_end, is_deliverable, is_ended_status, List, made_process, made_thread, Mode, mode_if, not}
use Rattle.pct_names.proofs.Names.{not-true, option_and_then, Process, refl, Run, run, Script, Some, State, state_if, sym, Thread}
use Rattle.pct_names.proofs.Names.{thread_with, true, ◌||◌, ℕ, ◌∙◌, ◌≡◌}
use mathlib.Core.Bool.{and-true, and-false}
use Rattle.std.proofs.lemmas.Bool.{true≢false}
use Rattle.pct_laws.specs.CancelEvents.{is_requested, is_enabled_last, is_asynchronous_last, has_not_begun, is_enabled_by, has_to_act}
use Rattle.pct_laws.specs.Kept.{ThreadKept}
use Rattle.pct_laws.specs.ThreadSummary.{ThreadSummary, summary_of}
use Rattle.pct_thread_invariants.proofs.ThreadsOfRun.{threads_kept}
use Rattle.pct_thread_invariants.proofs.thread.JoinTransitions.{moves_alive}
use Rattle.pct_thread_invariants.proofs.lift.EveryProcess.{process_taken, ids_of_run}
use Rattle.pct_thread_invariants.proofs.lift.MadeThreads.{HasValidId, with_valid_id}
use Rattle.pct_thread_invariants.proofs.lift.TakenSteps.{IsTaken}
use Rattle.pct_cancel_laws.proofs.requests.CancelStates.{cancelability_of_run}
use Rattle.pct_cancel_laws.proofs.requests.PendingRequests.{pending_of_run}

-- a thread with its cancelability enabled or disabled acts upon a request or not
delivered : (enabled requested : Bool) → (requested && (enabled && true)) ≡ is_deliverable (state_if enabled) requested
delivered true requested = and-true requested
delivered false requested = and-false requested

-- one of two tests holds, if it is false that neither does
one_holds : (a b : Bool) → (not a && not b) ≡ false → (a || b) ≡ true
one_holds true b neither = refl
one_holds false true neither = refl
one_holds false false neither = absurd (true≢false neither)

module _ (script : Script) (config : Config) (entries : List Entry) (r : Run) (is : run script config entries ≡ Some r) (pid tid : ℕ) (p : Process) (t : Thread) (made : made_process pid r.world ≡ Some p) (found : thread_with tid p ≡ Some t) (here : t.gone ≡ false) (alive : is_ended_status t.status ≡ false) where
  -- what its events report
  abbrev reported : ThreadSummary
  reported = summary_of pid tid r.events

  -- what every run keeps of the thread
  kept : ThreadKept script p.shared.keys t reported
  kept = threads_kept script config entries r is pid tid p t made found here

  -- it was made
  it_made : made_thread pid tid r.world ≡ Some t
  it_made = ap (option_and_then (thread_with tid)) made ∙ found

  -- the thread has begun to end or to exit its process, or not
  by_begun : (b : Bool) → has_not_begun pid tid r.events ≡ b → (is_requested pid tid r.events && (is_enabled_last pid tid r.events && b)) ≡ is_deliverable t.state t.pending
  by_begun true begun =
      let exits : reported.exiting ≡ false = not-true reported.exiting (and_parts (not (has_begun_to_end reported.reason)) (not reported.exiting) begun).1 in
      let not_ended : t.ended ≡ false = false_from_ne_true t.ended (λ ended. true≢false (sym (kept.ended_status ended exits) ∙ alive)) in
      delivered (is_enabled_last pid tid r.events) (is_requested pid tid r.events)
      ∙ ap₂ is_deliverable (sym (cancelability_of_run script config entries r is pid tid t it_made here begun).0) (sym (pending_of_run script config entries r is pid tid t it_made here not_ended))
  by_begun false begun =
      let disabled = kept.disabled (ap (λ why. has_begun_to_end why || reported.exiting) (sym kept.reason) ∙ one_holds (has_begun_to_end reported.reason) reported.exiting begun) in
      ap (λ (b : Bool). is_requested pid tid r.events && b) (and-false (is_enabled_last pid tid r.events)) ∙ and-false (is_requested pid tid r.events) ∙ ap (λ (s : State). is_deliverable s t.pending) (sym disabled)

  -- a thread that has not ended has to act exactly if it has a request and its cancelability is enabled
  pub acts_by_events : has_to_act pid tid r.events ≡ is_deliverable t.state t.pending
  acts_by_events = by_begun (has_not_begun pid tid r.events) refl

-- ---- the thread that an entry moves

-- the mode is asynchronous
abbrev is_asynchronous_mode : Mode → Bool
is_asynchronous_mode Deferred = false
is_asynchronous_mode Asynchronous = true

-- it is so for a type that is set
set_asynchronous : (asynchronous : Bool) → is_asynchronous_mode (mode_if asynchronous) ≡ asynchronous
set_asynchronous true = refl
set_asynchronous false = refl

module _ (script : Script) (config : Config) (before : List Entry) (r : Run) (is : run script config before ≡ Some r) (e : Entry) (p : Process) (t : Thread) (taken : IsTaken script config r.world e p t) where
  -- its process was made
  pub mover_process : made_process e.pid r.world ≡ Some p
  mover_process = process_taken script config before r is e p t taken

  -- the thread holds its slot
  pub mover_valid : HasValidId p e.tid t
  mover_valid = with_valid_id e.tid p t (ids_of_run script config before r is e.pid p mover_process).distinct taken.is_thread

  -- and was made
  pub mover_made : made_thread e.pid e.tid r.world ≡ Some t
  mover_made = ap (option_and_then (thread_with e.tid)) mover_process ∙ mover_valid.found

  -- it has to act, by its events, exactly if it has a request and its cancelability is enabled
  pub mover_acts : has_to_act e.pid e.tid r.events ≡ is_deliverable t.state t.pending
  mover_acts = acts_by_events script config before r is e.pid e.tid p t mover_process mover_valid.found mover_valid.here (moves_alive script config r.world p t e.alt taken.offered)

  -- one that has to act has not begun to end or to exit its process
  mover_unbegun : is_deliverable t.state t.pending ≡ true → has_not_begun e.pid e.tid r.events ≡ true
  mover_unbegun asked =
      let enabled = and_parts (is_requested e.pid e.tid r.events) (is_enabled_by e.pid e.tid r.events) (mover_acts ∙ asked) in
      (and_parts (is_enabled_last e.pid e.tid r.events) (has_not_begun e.pid e.tid r.events) enabled.1).1

  -- one that has to act, and has asynchronous cancelability, set it so last
  pub mover_asynchronous : is_deliverable t.state t.pending ≡ true → t.mode ≡ Asynchronous → is_asynchronous_last e.pid e.tid r.events ≡ true
  mover_asynchronous asked asynchronous =
      let set = cancelability_of_run script config before r is e.pid e.tid t mover_made mover_valid.here (mover_unbegun asked) in
      sym (set_asynchronous (is_asynchronous_last e.pid e.tid r.events)) ∙ ap is_asynchronous_mode (sym set.1 ∙ asynchronous)
