use Rattle.pct_names.proofs.Names.{Entry, IfOk, List, subst}
use Rattle.pct_engine.specs.EngineStates.{EngineValue}
use Rattle.pct_view_texts.specs.TextBuffers.{text_in}
use Rattle.pct_inspection.specs.Shown.{ShowsTrace}
use Rattle.pct_inspection.proofs.showing.trace.Goals as goal

pub returns : goal.returns
returns c =
    let run = c.args.run in
    let traced = c.trace_entries-steps.result in
    subst (λ (entries : List Entry). IfOk traced (λ steps. ShowsTrace c.args.lines.now run.script run.config entries steps.illegal (text_in steps.text) steps.verdict)) c.as_slice.ensures
    (subst (λ (e : EngineValue). IfOk traced (λ steps. ShowsTrace c.args.lines.now e.script e.config c.as_slice.result.now steps.illegal (text_in steps.text) steps.verdict)) c.in_ok-engine.ensures c.trace_entries-steps.ensures)
