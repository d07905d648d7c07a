use Rattle.pct_names.proofs.Names.{map, take, ◌≡◌}
use Rattle.pct_engine_laws.specs.Seen.{relative_in}
use Rattle.pct_machine.proofs.processes.renew.Given as goal

abbrev pub invariant-loop-process : goal.invariant-loop-process
invariant-loop-process l = l.relatives ≡ map relative_in (take l.process-index l.processes)
