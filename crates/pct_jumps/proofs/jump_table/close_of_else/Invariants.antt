use Rattle.pct_names.proofs.Names.{◌<◌, closes_else, first_later, is_if, is_while, length, slice_range, suc, ◌||◌, ◌≡◌, ◌≤◌}
use Rattle.std.specs.List.{count_by}
use Rattle.pct_model.specs.Jumps.{is_end}
use Rattle.pct_jumps.proofs.Closing.{find_from}
use Rattle.pct_jumps.proofs.jump_table.close_of_else.Given as goal

abbrev pub invariant-loop-pc : goal.invariant-loop-pc
invariant-loop-pc l = record {
  after : l.opening < l.pc;
  few : (l.begins ≤ l.pc) × (l.ends ≤ l.pc);
  begun : l.begins ≡ count_by (λ s. is_if s || is_while s) (slice_range l.body (suc l.opening) l.pc);
  ended : l.ends ≡ count_by is_end (slice_range l.body (suc l.opening) l.pc);
  found : first_later l.body (closes_else l.body l.opening) l.opening ≡ find_from (closes_else l.body l.opening) l.pc (length l.body);
}
