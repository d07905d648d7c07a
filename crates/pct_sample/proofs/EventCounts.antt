-- A step has at most three events, and a run at most three for each of its entries.
use Rattle.std.proofs.Common.{◌≡◌, ℕ, ◌+◌, ◌*◌, ◌≤◌, List, [], ◌∷◌, Option, Some, None, arith, length, length-append, map, refl, reverse, subst, sym, true, ◌∙◌}
use Rattle.std.specs.Prelude.{nat_le, option_and_then, option_map}
use Rattle.std.proofs.lemmas.Bool.{leb-true}
use Rattle.std.proofs.lemmas.List.{length-map, length-reverse}
use Rattle.pct_names.proofs.Names.{none-some, same_Some}
use Rattle.pct_model.specs.declared.schedule.Config.{Config}
use Rattle.pct_model.specs.declared.schedule.Entry.{Entry}
use Rattle.pct_model.specs.declared.script.Script.{Script}
use Rattle.pct_model.specs.declared.state.Status.{Status}
use Rattle.pct_model.specs.declared.statement.Stmt.{Stmt}
use Rattle.pct_model.specs.declared.transition.Transition.{Transition}
use Rattle.pct_model.specs.Environment.{Environment, environment_of}
use Rattle.pct_model.specs.NextStatement.{NextStatement, body_at, next_of}
use Rattle.pct_model.specs.Run.{Run, event_of, run, run_from, run_step}
use Rattle.pct_model.specs.Step.{Successor, step}
use Rattle.pct_model.specs.World.{SharedState, Thread, World}
use Rattle.pct_model.proofs.LegalSteps.{step_legal}
use Rattle.pct_transition_cases.proofs.CaseOfTransition.{case_of}
use Rattle.pct_transition_cases.proofs.TransitionCases.{TransitionCase, rests}
use Rattle.pct_engine_laws.proofs.LongerRuns.{run_after, run_parts, run_step-is}
use Rattle.pct_engine_laws.proofs.RunNumbers.{run_limited}

-- each transition of the table has at most three
case_few : (passes : ℕ) (body : List Stmt) (shared : SharedState) (t : Thread) (environment : Environment) {next : NextStatement} {s : Status} {o : Transition} → TransitionCase passes body shared t environment true next s o → nat_le (length o.events) 3 ≡ true
case_few passes body shared t environment (rests next s alive) = refl
case_few passes body shared t environment _ = refl

step_few : (script : Script) (config : Config) (w : World) (e : Entry) (s : Successor) → step script config w e ≡ Some s → nat_le (length s.events) 3 ≡ true
step_few script config w e s is =
    let made = step_legal script config w e s is in
    let p = made.0.process in
    let t = made.0.thread in
    let environment : Environment = environment_of config w p t.id in
    subst (λ (x : Successor). nat_le (length x.events) 3 ≡ true) made.1
    (case_few config.passes (body_at script t.frames) p.shared t environment
    (case_of config.passes (body_at script t.frames) p.shared t environment true e.alt (next_of script t.frames) t.status (λ known. made.0.offered)))

module _ (script : Script) (config : Config) where
  after_few : (r : Run) (e : Entry) (s : Successor) → step script config r.world e ≡ Some s → length (run_after r e s).events ≤ length r.events + 3
  after_few r e s is =
      let few = leb-true (length s.events) 3 (step_few script config r.world e s is) in
      let all = length-append (map (event_of e) (reverse s.events)) r.events in
      let mapped = length-map (reverse s.events) (event_of e) in
      let turned = length-reverse s.events in
      omega (arith, few, all, mapped, turned)

  by_step : (r next : Run) (e : Entry) (o : Option Successor) → step script config r.world e ≡ o → option_map (run_after r e) o ≡ Some next → length next.events ≤ length r.events + 3
  by_step r next e None at is = absurd (none-some next is)
  by_step r next e (Some s) at is = subst (λ (x : Run). length x.events ≤ length r.events + 3) (same_Some (run_after r e s) next is) (after_few r e s at)

  module _ (after : Run) where
    runs_then : (r : Run) (e : Entry) (entries : List Entry) (o : Option Run) → run_step script config r e ≡ o → option_and_then (λ (next : Run). run_from script config next entries) o ≡ Some after
        → ((next : Run) → run_from script config next entries ≡ Some after → length after.events ≤ length next.events + 3 * length entries) → length after.events ≤ length r.events + 3 * length (e ∷ entries)
    runs_then r e entries None at is rest = absurd (none-some after is)
    runs_then r e entries (Some next) at is rest =
        let made = by_step r next e (step script config r.world e) refl (sym (run_step-is script config r e (step script config r.world e) refl) ∙ at) in
        let later = rest next is in
        omega (arith, made, later)

    runs_few : (r : Run) (entries : List Entry) → run_from script config r entries ≡ Some after → length after.events ≤ length r.events + 3 * length entries
    unfolding run_from
    runs_few r [] is = subst (λ (x : Run). length x.events ≤ length r.events + 3 * 0) (same_Some r after is) (omega arith)
    runs_few r (e ∷ entries) is = runs_then r e entries (run_step script config r e) refl is (λ next ran. runs_few next entries ran)

-- so a run, which has at most 200,000 entries, has at most 600,000 events
pub few_events : (script : Script) (config : Config) (entries : List Entry) (after : Run) → run script config entries ≡ Some after → length (reverse after.events) ≤ 600000
few_events script config entries after is =
    let parts = run_parts script config entries after is in
    let few = runs_few script config after _ entries parts.ran in
    let limit = (run_limited script config entries after is).budget in
    let turned = length-reverse after.events in
    omega (arith, few, limit, turned)
