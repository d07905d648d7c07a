use Rattle.pct_names.proofs.Names.{map}
use Rattle.pct_view_texts.proofs.LineTexts.{step_line}
use Rattle.pct_view_texts.proofs.step.push_step.Goals as goal

pub returns : goal.returns
returns c =
    let step = c.args.step.now in
    step_line _ _ _ _ _ _ _ step.number (record { start = step.start; entry = step.entry; events = map (λ e. e.what) step.events.now }) c.in_ok-push_number_and_thread.ensures c.in_ok-push_place.ensures c.push_outcome.ensures
