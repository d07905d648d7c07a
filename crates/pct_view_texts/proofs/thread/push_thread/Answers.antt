use Rattle.pct_view_texts.proofs.LineTexts.{thread_line}
use Rattle.pct_view_texts.proofs.thread.push_thread.Goals as goal

pub returns : goal.returns
returns c = λ l shows. thread_line _ _ _ _ _ _ l c.args.thread.now shows c.in_ok-push_place.ensures c.push_state.ensures
