use Rattle.pct_names.proofs.Names.{◌≡◌, replicate}
use Rattle.pct_ready_sets.specs.ReadyGroups.{unknown}
use Rattle.pct_ready_sets.proofs.all_ready_sets.AllReadySets.new.Given as goal

abbrev pub invariant-loop : goal.invariant-loop
invariant-loop l = l.sets.items ≡ replicate l.counter unknown
