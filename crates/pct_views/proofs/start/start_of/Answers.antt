use Rattle.pct_names.proofs.Names.{sym, ◌∙◌}
use Rattle.pct_engine_laws.proofs.LongerRuns.{run_parts}
use Rattle.pct_view_laws.proofs.StartSeen.{start_is_seen}
use Rattle.pct_machine.proofs.ConfigLimits.{slots_within}
use Rattle.pct_views.proofs.start.start_of.Goals as goal

pub returns : goal.returns
returns c = λ after is.
    let engine = c.args.engine.now in
    let some = (slots_within engine.config (run_parts engine.script engine.config engine.history after is).limits).0 in
    c.start_kept.ensures after is ∙ sym (start_is_seen engine.config.slots after.world c.args.entry.now some)
