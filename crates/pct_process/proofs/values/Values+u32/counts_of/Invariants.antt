use Rattle.pct_names.proofs.Names.{map, take, ◌≡◌}
use Rattle.pct_process.proofs.values.Values+u32.counts_of.Given as goal

abbrev pub invariant-loop-sem : goal.invariant-loop-sem
invariant-loop-sem l = l.items.items ≡ map (λ d. d.count) (take l.sem-index l.sems)
