use Rattle.pct_names.proofs.Names.{sym}
use Rattle.pct_view_texts.specs.Choices.{status_and_wait, status_of_waiting}
use Rattle.pct_view_texts.proofs.Appending.{as_text, then_text}
use Rattle.pct_view_texts.proofs.StatusTexts.{before_wait}
use Rattle.pct_view_texts.proofs.wait.push_status_and_wait.Goals as goal

pub returns : goal.returns
unfolding status_and_wait
returns c =
    let script = c.args.script.now in
    let thread = c.args.thread.now in
    rw (c.in-Some.is, sym c.is_timed_at-timed.ensures)
    (as_text _ _ _ _ _ (sym (before_wait (status_of_waiting script c.is_timed_at-timed.result thread.start.status) script thread.pid c.in-Some.wait))
    (then_text _ _ _ _ _ _ c.in_ok-push_status_of_waiting.ensures c.push_wait.ensures))
