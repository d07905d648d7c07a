use Rattle.pct_names.proofs.Names.{length, replicate, ◌≡◌}
use Rattle.pct_process.proofs.values.Values.new.Given as goal

abbrev pub invariant-loop : goal.invariant-loop
invariant-loop g l = record {
  made : l.items.items ≡ replicate l.counter l.value;
  long : length l.items.items ≡ l.counter;
}
