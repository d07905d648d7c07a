use Rattle.pct_engine_laws.specs.Seen.{Seen, seen}
use Rattle.pct_view_texts.specs.ListedLines.{process_lines_seen}
use Rattle.pct_view_texts.proofs.StateTexts.{all_processes, next_process}
use Rattle.pct_view_texts.proofs.states.push_processes.Goals as goal

pub loop-index-preserved : goal.loop-index-preserved
loop-index-preserved c = λ after is.
    let v : Seen = seen c.args.engine.now.config.slots after.world in
    next_process _ _ _ (process_lines_seen c.args.source.lines.now c.args.source.script.now) v.processes c.loop-index.index (c.loop-index.invariant after is) (c.in_ok-push_process_at.ensures.few after is) (c.in_ok-push_process_at.ensures.text after is)

pub returns : goal.returns
returns c = λ after is.
    let v : Seen = seen c.args.engine.now.config.slots after.world in
    all_processes _ _ (process_lines_seen c.args.source.lines.now c.args.source.script.now) v.processes c.loop-index.index (c.loop-index.invariant after is) c.loop-index-test.false
