use Rattle.pct_names.proofs.Names.{length, Run, slice_get, subst, ◌≤◌}
use Rattle.pct_engine_laws.specs.Seen.{Seen, seen}
use Rattle.pct_place.specs.ShownProcesses.{ShowsIfSome}
use Rattle.pct_engine.specs.EngineStates.{EngineValue, IsRunOf}
use Rattle.pct_engine.proofs.EngineChoices.{state_after}
use Rattle.pct_engine.proofs.ReachedStates.{stands_can_step}
use Rattle.pct_engine.proofs.engine.Engine.process.Goals as goal

pub process-requires : goal.process-requires
process-requires c = let e = c.self.inside in stands_can_step e.program e.trace e.machine c.self.invariant.0

pub returns-clause-shown : goal.returns-clause-shown
returns-clause-shown c =
    let e = c.self.inside in
    subst (λ (v : EngineValue). (after : Run) → IsRunOf v after → ShowsIfSome (record { script = v.script; config = v.config }) (seen v.config.slots after.world) (slice_get (seen v.config.slots after.world).processes c.args.index) c.process.result) c.self.view_is
    (λ after is. subst (λ (v : Seen). ShowsIfSome e.program v (slice_get v.processes c.args.index) c.process.result) (state_after e.program e.trace e.machine c.self.invariant.0 after is) c.process.ensures.shown)

pub returns-clause-few : goal.returns-clause-few
returns-clause-few c =
    let e = c.self.inside in
    subst (λ (v : EngineValue). (after : Run) → IsRunOf v after → length (seen v.config.slots after.world).processes ≤ 8) c.self.view_is
    (λ after is. subst (λ (v : Seen). length v.processes ≤ 8) (state_after e.program e.trace e.machine c.self.invariant.0 after is) c.process.ensures.few)
