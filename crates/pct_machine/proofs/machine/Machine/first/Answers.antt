use Rattle.pct_names.proofs.Names.{ap, None, opening}
use Rattle.pct_machine.specs.Places.{ProcessList}
use Rattle.pct_machine.proofs.machine.Machine.first.Goals as goal

pub returns : goal.returns
unfolding opening
returns c = ap (λ (list : ProcessList). record { processes = list.processes; made = list.made; stop = None }) c.in_ok-first.ensures
