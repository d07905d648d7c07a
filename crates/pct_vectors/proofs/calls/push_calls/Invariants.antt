use Rattle.pct_names.proofs.Names.{◌+◌, ◌++◌, ◌≡◌, ◌≤◌}
use Rattle.pct_vectors.specs.GeneratedContents.{statement_of}
use Rattle.pct_vectors.proofs.Numbered.{below}
use Rattle.pct_vectors.proofs.calls.push_calls.Given as goal

abbrev pub invariant-loop-number : goal.invariant-loop-number
invariant-loop-number l = record {
  from : 1 ≤ l.number;
  within : l.number ≤ l.threads + 1;
  end : l.number-end ≡ l.threads + 1;
  made : l.body.items ≡ l.initial.body.items ++ below (statement_of l.call) l.number;
}
