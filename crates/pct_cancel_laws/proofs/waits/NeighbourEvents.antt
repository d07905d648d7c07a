-- Events that directly follow each other: each call of a condition wait is followed by a release of the same thread, and each signal that is
-- handed on follows the event that its thread leaves its wait. Both are events of one step.
use Rattle.pct_names.proofs.Names.{◌++◌, [], Alt, and_from, ap, body_at, Config, Entry, Environment, environment_of, Event, event_of, false}
use Rattle.pct_names.proofs.Names.{false≢true, Frame, List, map, next_of, NextStatement, not, Process, refl, reverse, Script, SharedState}
use Rattle.pct_names.proofs.Names.{Status, Stmt, Thread, Transition, transition_by, true, What, World, ℕ, ◌∷◌, ◌≡◌}
use Rattle.std.proofs.Common.{eq-eqb}
use Rattle.pct_laws.specs.Each.{each}
use Rattle.pct_laws.specs.CondLaw.{hand_ons_allow}
use Rattle.pct_laws.specs.Kept.{is_wait_call, is_release}
use Rattle.pct_transition_cases.proofs.CaseOfTransition.{case_of}
use Rattle.pct_transition_cases.proofs.PlacedStatements.{IsPlaced, is_placed, statement_placed}
use Rattle.pct_transition_cases.proofs.TransitionCases.{TransitionCase, point_begun, signal_handed_on, fork_handler_called}
use Rattle.pct_thread_invariants.proofs.lift.FollowedEvents.{step_follows}
use Rattle.pct_thread_invariants.proofs.lift.HandlerEvents.{of_each_phase}
use Rattle.pct_cancel_laws.proofs.waits.GenericPoints.{is_no_cond_wait}

module _ (script : Script) (passes : ℕ) (shared : SharedState) (t : Thread) (environment : Environment) where
  -- each call of a condition wait is followed by a release
  case_neighbours : {frames : List Frame} {body : List Stmt} {next : NextStatement} {s : Status} {o : Transition} → IsPlaced script frames body next
      → TransitionCase passes body shared t environment false next s o → step_follows is_wait_call is_release (reverse o.events) ≡ true
  case_neighbours place (point_begun frame index required unasked) = ap not (is_no_cond_wait script frame index (statement_placed place))
  case_neighbours place (fork_handler_called next at call is) = of_each_phase (λ (w : What). step_follows is_wait_call is_release (w ∷ []) ≡ true) call.func refl refl refl at.phase
  case_neighbours {o = o} place _ = refl

  -- each signal is handed on as its thread leaves its wait
  case_hand_ons : (e : Entry) (earlier : List Event) {body : List Stmt} {next : NextStatement} {s : Status} {o : Transition} → TransitionCase passes body shared t environment false next s o
      → each hand_ons_allow earlier ≡ true → each hand_ons_allow (map (event_of e) (reverse o.events) ++ earlier) ≡ true
  case_hand_ons e earlier (signal_handed_on next c m u delivered among) law = and_from _ _ (and_from _ _ (and_from _ _ (eq-eqb e.pid e.pid refl) (eq-eqb e.tid e.tid refl)) (eq-eqb c c refl)) law
  case_hand_ons e earlier (fork_handler_called next at call is) law = of_each_phase (λ (w : What). each hand_ons_allow (event_of e w ∷ earlier) ≡ true) call.func law law law at.phase
  case_hand_ons e earlier _ law = assumption

-- the events of a transition
pub are_neighbours : (script : Script) (config : Config) (w : World) (p : Process) (t : Thread) (choice : Alt) → step_follows is_wait_call is_release (reverse (transition_by script config w p t choice).events) ≡ true
are_neighbours script config w p t choice =
    let environment : Environment = environment_of config w p t.id in
    case_neighbours script config.passes p.shared t environment (is_placed script t.frames) (case_of config.passes (body_at script t.frames) p.shared t environment false choice (next_of script t.frames) t.status (λ known. absurd (false≢true known)))

pub hand_ons_later : (e : Entry) (earlier : List Event) (script : Script) (config : Config) (w : World) (p : Process) (t : Thread) (choice : Alt) → each hand_ons_allow earlier ≡ true → each hand_ons_allow (map (event_of e) (reverse (transition_by script config w p t choice).events) ++ earlier) ≡ true
hand_ons_later e earlier script config w p t choice =
    let environment : Environment = environment_of config w p t.id in
    case_hand_ons script config.passes p.shared t environment e earlier (case_of config.passes (body_at script t.frames) p.shared t environment false choice (next_of script t.frames) t.status (λ known. absurd (false≢true known)))
