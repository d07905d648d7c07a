use Rattle.pct_place.specs.ProcessSteps.{process_changed}
use Rattle.pct_machine.proofs.KeptPlaces.{IsKeptTo}
use Rattle.pct_machine.proofs.processes.keep_places.Given as goal

abbrev pub invariant-loop-index : goal.invariant-loop-index
invariant-loop-index l = IsKeptTo (process_changed l.pid l.change) l.kept l.index l.initial.places.items l.places.items
