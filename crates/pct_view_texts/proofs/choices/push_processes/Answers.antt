use Rattle.pct_engine_laws.specs.Seen.{seen}
use Rattle.pct_view_texts.specs.ListedLines.{lines_by}
use Rattle.pct_view_texts.proofs.ListedTexts.{all_processes, next_process}
use Rattle.pct_view_texts.proofs.choices.push_processes.Goals as goal

pub loop-index-preserved : goal.loop-index-preserved
loop-index-preserved c = λ after is.
    let engine = c.args.engine.now in
    let listing = c.args.listing in
    next_process _ _ _ (lines_by listing.source.lines.now listing.source.script.now listing.goes_on) engine.script engine.config (seen engine.config.slots after.world) c.loop-index.index (c.loop-index.invariant after is) (c.in_ok-push_process.ensures.few after is) (c.in_ok-push_process.ensures.text after is)

pub returns : goal.returns
returns c = λ after is.
    let engine = c.args.engine.now in
    let listing = c.args.listing in
    all_processes _ _ (lines_by listing.source.lines.now listing.source.script.now listing.goes_on) engine.script engine.config (seen engine.config.slots after.world) c.loop-index.index (c.loop-index.invariant after is) c.loop-index-test.false
