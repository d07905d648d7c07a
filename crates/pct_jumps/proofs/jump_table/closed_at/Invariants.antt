use Rattle.pct_names.proofs.Names.{false, length, nat_eq, None, option_map_or, slice_index_or, ◌≡◌}
use Rattle.pct_jumps.proofs.Closing.{find_from}
use Rattle.pct_jumps.proofs.jump_table.closed_at.Given as goal

abbrev pub invariant-loop-opening : goal.invariant-loop-opening
invariant-loop-opening l = record {
  found : find_from (λ i. option_map_or (nat_eq l.pc) (slice_index_or l.closes i None) false) 0 (length l.closes)
      ≡ find_from (λ i. option_map_or (nat_eq l.pc) (slice_index_or l.closes i None) false) l.opening (length l.closes);
}
