use Rattle.pct_inspection.proofs.Views.{state-after}
use Rattle.pct_inspection.proofs.showing.show_state.Goals as goal

pub returns : goal.returns
returns c =
    let runs = c.show_reached-answer.ensures.runs in
    let followed = c.in_ok-engine in
    state-after c.args.view c.args.lines.now followed.ensures.followed runs.0 runs.1 c.show_reached-answer.result (c.show_reached-answer.ensures.shown runs.0 runs.1)
