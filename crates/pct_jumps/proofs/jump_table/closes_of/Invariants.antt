use Rattle.pct_names.proofs.Names.{close_of, map, range_with_len, ◌≡◌}
use Rattle.pct_jumps.proofs.jump_table.closes_of.Given as goal

abbrev pub invariant-loop-pc : goal.invariant-loop-pc
invariant-loop-pc l = record {
  so_far : l.closes.items ≡ map (close_of l.body) (range_with_len 0 l.pc);
}
