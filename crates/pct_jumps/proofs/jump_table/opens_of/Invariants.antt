use Rattle.pct_names.proofs.Names.{map, open_of, range_with_len, ◌≡◌}
use Rattle.pct_jumps.proofs.jump_table.opens_of.Given as goal

abbrev pub invariant-loop-pc : goal.invariant-loop-pc
invariant-loop-pc l = record {
  so_far : l.opens.items ≡ map (open_of l.body) (range_with_len 0 l.pc);
}
