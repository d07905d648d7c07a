use Rattle.pct_names.proofs.Names.{thread_text}
use Rattle.pct_view_texts.proofs.StateTexts.{thread_line}
use Rattle.pct_view_texts.proofs.process.push_thread_values.Goals as goal

pub returns : goal.returns
unfolding thread_text
returns c = λ p t pid shows.
    thread_line _ _ _ _ _ _ _ _ c.args.source.lines.now c.args.source.script.now c.args.pid p t c.args.thread.now pid shows
    c.in_ok-push_dotted.ensures c.in_ok-push.ensures c.in_ok-push_position.ensures c.in_ok-push_frames.ensures c.in_ok-push_specific.ensures c.push_detached.ensures
