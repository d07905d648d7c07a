use Rattle.pct_names.proofs.Names.{sym}
use Rattle.pct_view_texts.proofs.Appending.{as_text, then_text}
use Rattle.pct_view_texts.proofs.StatusTexts.{before_comma_if_not_running}
use Rattle.pct_view_texts.proofs.wait.push_status_of_waiting.Goals as goal

pub returns-in_ok-push_status-in_default : goal.returns-in_ok-push_status-in_default
returns-in_ok-push_status-in_default c =
    as_text _ _ _ _ _ (sym (before_comma_if_not_running c.args.script.now c.args.timed c.args.status c.in_default.not-Running)) (then_text _ _ _ _ _ _ c.in_ok-push_status-in_default.ensures c.push.ensures)
