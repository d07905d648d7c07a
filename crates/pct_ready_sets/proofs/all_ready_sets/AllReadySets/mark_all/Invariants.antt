use Rattle.pct_names.proofs.Names.{◌≡◌, ◌++◌, map, take, drop}
use Rattle.pct_ready_sets.specs.ReadyGroups.{all_stale}
use Rattle.pct_ready_sets.proofs.all_ready_sets.AllReadySets.mark_all.Given as goal

abbrev pub invariant-loop-sets : goal.invariant-loop-sets
invariant-loop-sets l = l.sets-items ≡ map all_stale (take l.sets-index l.fn.self) ++ drop l.sets-index l.fn.self
