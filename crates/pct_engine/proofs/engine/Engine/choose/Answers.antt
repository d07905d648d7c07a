use Rattle.pct_names.proofs.Names.{◌<◌, arith, length, None, Run, subst, sym, ◌∙◌, ◌≤◌}
use Rattle.std.proofs.lemmas.Bool.{ltb-true, ltb-false}
use Rattle.pct_engine.specs.EngineStates.{EngineValue, IsRunOf, IsChoice}
use Rattle.pct_engine.proofs.EngineChoices.{full_after, choice_after}
use Rattle.pct_engine.proofs.ReachedStates.{stands_can_step}
use Rattle.pct_engine.proofs.engine.Engine.choose.Goals as goal

pub returns-then-not-has_room-clause-choice : goal.returns-then-not-has_room-clause-choice
returns-then-not-has_room-clause-choice c =
    let e = c.self.inside in
    let full : e.trace.budget ≤ length e.trace.history = ltb-false (length e.trace.history) e.trace.budget (sym c.has_room.ensures ∙ c.if-not-has_room.true) in
    subst (λ (v : EngineValue). (after : Run) → IsRunOf v after → IsChoice v after c.args.worker c.args.a c.args.b None) c.self.view_is
    (λ after is. full_after e.program e.trace e.machine c.self.invariant.0 after is c.args.worker c.args.a c.args.b (λ left. absurd (omega (arith, left, full))))

pub chosen-requires-clause-can : goal.chosen-requires-clause-can
chosen-requires-clause-can c = let e = c.self.inside in stands_can_step e.program e.trace e.machine c.self.invariant.0

pub returns-clause-choice : goal.returns-clause-choice
returns-clause-choice c =
    let e = c.self.inside in
    let left : length e.trace.history < e.trace.budget = ltb-true (length e.trace.history) e.trace.budget (sym c.has_room.ensures ∙ c.if-not-has_room.false) in
    subst (λ (v : EngineValue). (after : Run) → IsRunOf v after → IsChoice v after c.args.worker c.args.a c.args.b c.chosen.result) c.self.view_is
    (λ after is. choice_after e.program e.trace e.machine c.self.invariant.0 after is c.args.worker c.args.a c.args.b left c.chosen.result c.chosen.ensures.value (c.chosen.ensures.legal c.requires))
