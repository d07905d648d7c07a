use Rattle.pct_names.proofs.Names.{ap, None, opening, ◌∙◌}
use Rattle.pct_engine_laws.specs.Seen.{seen}
use Rattle.pct_step_context.specs.Programs.{ProgramValue}
use Rattle.pct_machine.specs.Places.{ProcessList}
use Rattle.pct_machine.proofs.machine.Machine.restart.Goals as goal

pub returns : goal.returns
unfolding opening
returns c =
    ap (λ (list : ProcessList). record { processes = list.processes; made = list.made; stop = None }) c.restart.ensures
    ∙ ap (λ (p : ProgramValue). seen p.config.slots (opening p.script)) c.program.view_is
