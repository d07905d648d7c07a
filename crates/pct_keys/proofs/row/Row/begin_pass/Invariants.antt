use Rattle.pct_names.proofs.Names.{◌<◌, false, get_or, length, MAX_KEYS, nat_eq, not, ℕ, ◌≡◌, ◌≢◌, ◌≤◌}
use Rattle.pct_keys.specs.Tables.{IsUnsetFrom}
use Rattle.pct_keys.proofs.row.Row.begin_pass.Given as goal

abbrev pub invariant-loop-place : goal.invariant-loop-place
invariant-loop-place l = record {
  some : l.self-inside.end ≢ 0;
  few : l.self-inside.end ≤ MAX_KEYS;
  unset : IsUnsetFrom l.self-inside.end l.fn.self;
  same : l.self-inside.values ≡ l.fn.self.values;
  values : length l.self-inside.values ≡ MAX_KEYS;
  in_pass : length l.self-inside.in_pass ≡ MAX_KEYS;
  marked : (place : ℕ) → place < l.place → get_or l.self-inside.in_pass place false ≡ not (nat_eq (get_or l.self-inside.values place 0) 0);
}
