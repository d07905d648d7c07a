use Rattle.pct_names.proofs.Names.{◌+◌, ◌++◌, ◌≡◌, ◌≤◌}
use Rattle.pct_vectors.specs.GeneratedContents.{thread_name}
use Rattle.pct_vectors.proofs.Numbered.{below}
use Rattle.pct_vectors.proofs.names.push_threads.Given as goal

abbrev pub invariant-loop-number : goal.invariant-loop-number
invariant-loop-number l = record {
  from : 1 ≤ l.number;
  within : l.number ≤ l.threads + 1;
  end : l.number-end ≡ l.threads + 1;
  made : l.names.items ≡ l.initial.names.items ++ below (thread_name) l.number;
}
