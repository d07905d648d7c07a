-- Each transition fits the thread that makes it.
use Rattle.pct_names.proofs.Names.{◌<◌, [], acts_on_request, after_block, after_test, Alt, arith, body_at, body_of, Bool, close_of, cond}
use Rattle.pct_names.proofs.Names.{Environment, false, false≢true, Frame, holds, is_forking, is_while, length, List, MAX_FRAMES, MAX_PASSES}
use Rattle.pct_names.proofs.Names.{nat_eq, next_of, NextStatement, None, NoStatement, Option, refl, Script, SharedState, Some, StatementIn}
use Rattle.pct_names.proofs.Names.{Status, Stmt, subst, suc, Thread, Transition, transition_at, true, unwrap_or, ℕ, ◌≡◌, ◌≤◌}
use Rattle.pct_model.specs.declared.schedule.Alt.TheVariants as alt
use Rattle.pct_transition_cases.proofs.CaseOfTransition.{going_case, case_of}
use Rattle.pct_transition_cases.proofs.PlacedStatements.{IsPlaced, nowhere, on_top, is_placed, body_placed}
use Rattle.pct_transition_cases.proofs.TransitionCases.{Leads, past_nop, past_if, past_while, past_else, past_end, TransitionCase, jumped}
use Rattle.pct_transition_cases.proofs.TransitionCases.{function_called, fork_handler_called, handler_pushed, handler_called, pass_begun, routine_called}
use Rattle.pct_jumps.proofs.JumpTableFacts.{closes_inside, opens_earlier}
use Rattle.pct_engine_laws.specs.Fitting.{TransitionFits}
use Rattle.pct_step_context.proofs.Bodies.{few_statements, pc_within}

-- ---- program counters

block_by : (script : Script) (func pc : ℕ) (o : Option ℕ) → close_of (body_of script func) pc ≡ o → pc < 2000 → suc (unwrap_or o pc) ≤ 2000
block_by script func pc None is within = omega arith
block_by script func pc (Some close) is within =
    let few = few_statements script func in
    let inside = closes_inside script func pc close is in
    omega (arith, few, inside.1)

block_within : (script : Script) (func pc : ℕ) → pc < 2000 → after_block (body_of script func) pc ≤ 2000
block_within script func pc within = block_by script func pc (close_of (body_of script func) pc) refl within

either_within : (b : Bool) (x y : ℕ) → x ≤ 2000 → y ≤ 2000 → cond b x y ≤ 2000
either_within true x y first second = first
either_within false x y first second = second

test_within : (script : Script) (func pc v : ℕ) → pc < 2000 → after_test (body_of script func) pc v ≤ 2000
test_within script func pc v within = either_within (nat_eq v 0) _ _ (block_within script func pc within) (omega (arith, within))

leads_within : (script : Script) (globals : List ℕ) (frame : Frame) → frame.pc < 2000 → {s : Stmt} {pc : ℕ} → Leads (body_of script frame.func) globals frame s pc → pc ≤ 2000
leads_within script globals frame low past_nop = omega (arith, low)
leads_within script globals frame low (past_if v) = test_within script frame.func frame.pc _ low
leads_within script globals frame low (past_while v) = test_within script frame.func frame.pc _ low
leads_within script globals frame low past_else = block_within script frame.func frame.pc low
leads_within script globals frame low (past_end opened is) =
    let earlier = (opens_earlier script frame.func frame.pc (Some opened) is).0 in
    either_within (holds (body_of script frame.func) is_while opened) opened (suc frame.pc) (omega (arith, earlier, low)) (omega (arith, low))

-- ---- the table

module _ (script : Script) (passes : ℕ) (few : passes ≤ MAX_PASSES) (shared : SharedState) (t : Thread) (environment : Environment) where
  -- the transition fits the thread
  abbrev FitsThread : Transition → Type 0
  FitsThread o = TransitionFits (length t.frames) (length t.handlers) t.pass o

  -- the pc of the next statement, if there is one, is below the limit
  abbrev IsLow : NextStatement → Type 0
  IsLow NoStatement = Unit {0}
  IsLow (StatementIn frame s) = frame.pc < 2000

  is_low : {frames : List Frame} {body : List Stmt} {next : NextStatement} → IsPlaced script frames body next → IsLow next
  is_low (nowhere frames body) = tt
  is_low (on_top frame below s at) = pc_within script frame s at

  -- with this status a thread in fork has room for the frame of a fork handler
  abbrev pub HasForkRoom : Status → Type 0
  HasForkRoom s = is_forking s ≡ true → length t.frames ≤ MAX_FRAMES

  case_fits : {frames : List Frame} {body : List Stmt} {next : NextStatement} {s : Status} {o : Transition} → IsPlaced script frames body next → IsLow next → HasForkRoom s
      → TransitionCase passes body shared t environment false next s o → FitsThread o
  case_fits placed low forks (jumped frame s pc leads) = record { next = leads_within script shared.globals frame low (subst (λ (b : List Stmt). Leads b shared.globals frame s pc) (body_placed placed) leads); own = tt }
  case_fits placed low forks (function_called frame f v room) = record { next = low; own = omega (arith, room) }
  case_fits placed low forks (fork_handler_called next at call is) = record { next = tt; own = forks refl }
  case_fits placed low forks (handler_pushed frame f v room) = record { next = low; own = room }
  case_fits placed low forks (handler_called frame v f a handlers is room not_zero) = record { next = low; own = omega (arith, room) }
  case_fits placed low forks (pass_begun next none more some_due none_left) = record { next = tt; own = omega (arith, more, few) }
  case_fits placed low forks (routine_called frame o f fresh room) = record { next = low; own = omega (arith, room) }
  case_fits placed low forks _ = assumption

  -- the transition of a thread that acts upon a request fits it
  pub acting_fits : HasForkRoom t.status → (n : ℕ) → FitsThread (acts_on_request n t.status)
  acting_fits forks n = case_fits (nowhere [] []) tt forks (case_of passes [] shared t environment false (alt.Act n) NoStatement t.status (λ known. absurd (false≢true known)))

  -- each transition of a thread that goes on fits it
  pub transition_fits : HasForkRoom t.status → (choice : Alt) → FitsThread (transition_at passes (body_at script t.frames) shared t environment choice (next_of script t.frames) t.status)
  transition_fits forks choice =
      let placed : IsPlaced script t.frames (body_at script t.frames) (next_of script t.frames) = is_placed script t.frames in
      case_fits placed (is_low placed) forks
      (going_case passes (body_at script t.frames) shared t environment false choice (next_of script t.frames) t.status (λ known. absurd (false≢true known)))
