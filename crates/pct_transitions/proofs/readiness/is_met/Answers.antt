use Rattle.pct_names.proofs.Names.{ap, has_timeouts, length, not, sym, ◌∙◌}
use Rattle.pct_engine_laws.specs.SeenSteps.{environment_in}
use Rattle.pct_process.specs.FamilyViews.{other_processes}
use Rattle.pct_transitions.specs.Readiness.{is_met}
use Rattle.pct_transitions.proofs.readiness.is_met.Goals as goal

pub returns-in-ChildEnded : goal.returns-in-ChildEnded
unfolding environment_in
returns-in-ChildEnded c = λ tid.
    let d = c.args.process.now in
    ap not c.is_running_child.ensures
    ∙ sym (ap (is_met d.shared (environment_in (has_timeouts c.args.around.program.now.config.format) (length d.slots) (other_processes c.args.around.family) d.slots tid)) c.in-ChildEnded.is)
