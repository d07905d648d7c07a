use Rattle.pct_names.proofs.Names.{drop, ◌++◌, ◌<◌, [], ap, arith, event_of, is_some, length, map, None, Run, Some, subst, sym, ◌∙◌, ◌∷◌, ◌≤◌}
use Rattle.std.proofs.lemmas.Bool.{ltb-true, ltb-false}
use Rattle.pct_engine_laws.specs.Seen.{Seen}
use Rattle.pct_engine.specs.Traces.{TraceValue}
use Rattle.pct_engine.specs.EngineStates.{EngineValue, IsRunOf, IsChoice, StandsFor}
use Rattle.pct_engine.proofs.EngineChoices.{full_after, choice_after}
use Rattle.pct_engine.proofs.EngineLaws.{keeps_laws}
use Rattle.pct_engine.proofs.EngineRuns.{stands-more}
use Rattle.pct_engine.proofs.ReachedStates.{stands_can_step}
use Rattle.pct_engine.proofs.engine.Engine.advance.Goals as goal

pub returns-then-not-has_room-clause-choice : goal.returns-then-not-has_room-clause-choice
returns-then-not-has_room-clause-choice c =
    let e = c.self.inside in
    let full : e.trace.budget ≤ length e.trace.history = ltb-false (length e.trace.history) e.trace.budget (sym c.has_room.ensures ∙ c.if-not-has_room.true) in
    subst (λ (v : EngineValue). (after : Run) → IsRunOf v after → IsChoice v after c.args.worker c.args.a c.args.b None) c.self.view_is
    (λ after is. full_after e.program e.trace e.machine c.self.invariant.0 after is c.args.worker c.args.a c.args.b (λ left. absurd (omega (arith, left, full))))

pub returns-then-not-has_room-clause-laws : goal.returns-then-not-has_room-clause-laws
returns-then-not-has_room-clause-laws c = keeps_laws _

pub advance-requires-clause-can : goal.advance-requires-clause-can
advance-requires-clause-can c = let e = c.self.inside in stands_can_step e.program e.trace e.machine c.self.invariant.0

pub returns-in_err-entry-clause-choice : goal.returns-in_err-entry-clause-choice
returns-in_err-entry-clause-choice c =
    let e = c.self.inside in
    let left : length e.trace.history < e.trace.budget = ltb-true (length e.trace.history) e.trace.budget (sym c.has_room.ensures ∙ c.if-not-has_room.false) in
    rw c.from_residual.ensures (subst (λ (v : EngineValue). (after : Run) → IsRunOf v after → IsChoice v after c.args.worker c.args.a c.args.b None) c.self.view_is
    (λ after is. choice_after e.program e.trace e.machine c.self.invariant.0 after is c.args.worker c.args.a c.args.b left None c.in_err-entry.ensures.value tt))

pub returns-in_err-entry-clause-laws : goal.returns-in_err-entry-clause-laws
returns-in_err-entry-clause-laws c = keeps_laws _

pub returns-clause-choice : goal.returns-clause-choice
returns-clause-choice c =
    let e = c.self.inside in
    let left : length e.trace.history < e.trace.budget = ltb-true (length e.trace.history) e.trace.budget (sym c.has_room.ensures ∙ c.if-not-has_room.false) in
    subst (λ (v : EngineValue). (after : Run) → IsRunOf v after → IsChoice v after c.args.worker c.args.a c.args.b (Some c.in_ok-entry.entry)) c.self.view_is
    (λ after is. choice_after e.program e.trace e.machine c.self.invariant.0 after is c.args.worker c.args.a c.args.b left (Some c.in_ok-entry.entry) c.in_ok-entry.ensures.value (ap is_some c.in_ok-entry.ensures.legal))

pub returns-clause-laws : goal.returns-clause-laws
returns-clause-laws c = keeps_laws _

pub invariant_of-self-2 : goal.invariant_of-self-2
invariant_of-self-2 c =
    let s = c.self.inside in
    let e = c.in_ok-entry.entry in
    let left : length s.trace.history < s.trace.budget = ltb-true (length s.trace.history) s.trace.budget (sym c.has_room.ensures ∙ c.if-not-has_room.false) in
    let moved : TraceValue = record s.trace { history = s.trace.history ++ e ∷ []; planned = drop 1 s.trace.planned; events = s.trace.events ++ map (event_of e) c.advance.new.transition.events } in (
      subst (λ (t : TraceValue). StandsFor s.program t c.advance.new.self) (sym c.record_step.ensures)
          (subst (λ (v : Seen). StandsFor s.program moved v) (sym c.in_ok-entry.ensures.made)
          (stands-more s.program s.trace s.machine e c.advance.new.transition left c.self.invariant.0 c.in_ok-entry.ensures.legal)),
      c.in_ok-entry.ensures.follow,
    )
