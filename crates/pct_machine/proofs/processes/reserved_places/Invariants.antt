use Rattle.pct_names.proofs.Names.{length, ◌≡◌}
use Rattle.pct_machine.proofs.processes.reserved_places.Given as goal

abbrev pub invariant-loop : goal.invariant-loop
invariant-loop l = length l.places.items ≡ l.counter
