use Rattle.std.proofs.Common.{ap, ◌∙◌}
use Rattle.rayon.proofs.ListFacts.{IfOk-then}
use Rattle.pct_model.specs.RunOptions.{default_config}
use Rattle.pct_engine.specs.EngineStates.{EngineValue}
use Rattle.pct_sample.proofs.seed_run.open_default.Goals as goal

pub returns : goal.returns
returns c =
    IfOk-then c.open.result _ _ c.open.ensures (λ engine is.
    (ap (λ (v : EngineValue). v.script) is ∙ c.in_ok-copy_script.ensures, ap (λ (v : EngineValue). v.config) is ∙ (λ i. record default_config { format = c.format_of.ensures i })))
