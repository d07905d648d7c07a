use Rattle.pct_names.proofs.Names.{length}
use Rattle.pct_engine_laws.proofs.LongerRuns.{run_parts}
use Rattle.pct_machine.proofs.ConfigLimits.{slots_within}
use Rattle.pct_view_texts.proofs.ListedTexts.{all_text}
use Rattle.pct_view_texts.proofs.choices.choices_text.Goals as goal

pub returns : goal.returns
returns c = λ after is.
    let engine = c.args.engine.now in
    let some = (slots_within engine.config (run_parts engine.script engine.config engine.history after is).limits).0 in
    all_text _ _ _ c.args.lines.now c.script.result.now c.goes_on.result engine.script engine.config after.world (length engine.history) c.verdict-verdict.result some c.script.ensures (c.verdict-verdict.ensures.value after is) c.goes_on.ensures c.new-text.ensures c.in_ok-push_verdict.ensures (c.in_ok-push_processes.ensures after is)
