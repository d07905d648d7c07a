use Rattle.pct_names.proofs.Names.{ap, Entry, length, List, Run, subst, verdict_of, ◌∙◌, ◌≡◌}
use Rattle.pct_engine_laws.specs.SeenSteps.{seen_verdict}
use Rattle.pct_engine.specs.EngineStates.{EngineValue, IsRunOf}
use Rattle.pct_engine.proofs.EngineChoices.{verdict_after}
use Rattle.pct_engine.proofs.ReachedStates.{stands_can_step}
use Rattle.pct_engine.proofs.engine.Engine.verdict.Goals as goal

pub verdict-requires : goal.verdict-requires
verdict-requires c = let e = c.self.inside in stands_can_step e.program e.trace e.machine c.self.invariant.0

pub returns-clause-value : goal.returns-clause-value
returns-clause-value c =
    let e = c.self.inside in
    subst (λ (v : EngineValue). (after : Run) → IsRunOf v after → c.verdict.result ≡ verdict_of v.script v.config after.world (length v.history)) c.self.view_is
    (λ after is.
    c.verdict.ensures
    ∙ ap (λ (entries : List Entry). seen_verdict e.program.script e.program.config e.machine (length entries)) c.history.ensures.value
    ∙ verdict_after e.program e.trace e.machine c.self.invariant.0 after is (length e.trace.history))
