use Rattle.pct_names.proofs.Names.{◌+◌, IsOk, Run, subst, ◌↔◌, ◌≤◌}
use Rattle.pct_engine_laws.proofs.OpenRuns.{goes_on_while_open}
use Rattle.pct_engine.specs.EngineStates.{EngineValue, IsRunOf, IsAllowed, woken_by}
use Rattle.pct_engine.proofs.EngineLaws.{keeps_laws}
use Rattle.pct_engine.proofs.engine.Engine.step.Goals as goal

pub returns-clause-cause : goal.returns-clause-cause
returns-clause-cause g c =
    let e = c.self.inside in
    subst (λ (v : EngineValue). (after : Run) → IsRunOf v after → IsOk c.step_with.result ↔ IsAllowed v after c.args.entry) c.self.view_is
    (λ after is.
    let legal = c.step_with.ensures.legal in
    let goes_on = goes_on_while_open e.program.script e.program.config e.trace.history after c.args.entry is in
    (λ ok. goes_on.0 (legal.0 ok), λ allowed. legal.1 (goes_on.1 allowed)))

pub returns-clause-laws : goal.returns-clause-laws
returns-clause-laws g c = keeps_laws _

pub returns-clause-count : goal.returns-clause-count
returns-clause-count g c =
    subst (λ (v : EngineValue). (before : Run) → IsRunOf v before → c.step_with.new.steps ≤ c.args.steps.now + 4 + woken_by v.script v.config before.world c.args.entry) c.self.view_is c.step_with.ensures.count
