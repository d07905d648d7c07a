use Rattle.pct_names.proofs.Names.{MAX_SLOTS, no_values, replicate, vec_capacity, vec_len, ◌≡◌, ◌≤◌}
use Rattle.pct_keys.proofs.keys.Keys.new.Given as goal

abbrev pub invariant-loop : goal.invariant-loop
invariant-loop l = record {
  made : l.rows.items ≡ replicate l.counter no_values;
  long : vec_len l.rows ≡ l.counter;
  room : MAX_SLOTS ≤ vec_capacity l.rows;
}
