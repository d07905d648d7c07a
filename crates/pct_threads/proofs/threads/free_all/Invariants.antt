use Rattle.pct_names.proofs.Names.{false, length, MAX_SLOTS, vec_capacity, ℕ, ◌<◌, ◌≡◌, ◌≤◌}
use Rattle.pct_threads.specs.Rows.{row_at}
use Rattle.pct_threads.proofs.threads.free_all.Given as goal

abbrev pub invariant-loop-slot : goal.invariant-loop-slot
invariant-loop-slot l = record {
  long : length l.rows.items ≡ l.count;
  made : (i : ℕ) → i < l.slot → (row_at l.rows.items i).made ≡ 0;
  free : (i : ℕ) → i < l.slot → (row_at l.rows.items i).occupied ≡ false;
  deep : (i : ℕ) → i < l.slot → (row_at l.rows.items i).depth ≤ 17;
  room : MAX_SLOTS ≤ vec_capacity l.rows;
}
