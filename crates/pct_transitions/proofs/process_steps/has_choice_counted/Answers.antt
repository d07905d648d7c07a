use Rattle.pct_names.proofs.Names.{ap, has_timeouts, length, sym, ◌∙◌}
use Rattle.pct_engine_laws.specs.SeenSteps.{environment_in}
use Rattle.pct_process.specs.FamilyViews.{other_processes}
use Rattle.pct_transitions.specs.ProcessSteps.{with_data}
use Rattle.pct_transitions.specs.Readiness.{is_met}
use Rattle.pct_transitions.proofs.ReadyThreads.{ready_is_met}
use Rattle.pct_transitions.proofs.process_steps.has_choice_counted.Goals as goal

pub returns : goal.returns
returns g c = λ t at.
    let d = c.args.process.now in
    let timeouts = has_timeouts c.args.around.program.now.config.format in
    let family = other_processes c.args.around.family in
    c.is_met.ensures t.id
    ∙ ap (is_met d.shared (environment_in timeouts (length d.slots) family d.slots t.id)) (c.ready_when-when.ensures.when t at)
    ∙ sym (ready_is_met timeouts (length d.slots) family c.args.around.program.now.script (with_data d) t)
