use Rattle.pct_names.proofs.Names.{◌+◌, ◌≡◌, ◌≤◌, drop, length}
use Rattle.pct_survey.specs.Surveys.{count_of, has}
use Rattle.pct_survey.proofs.counting.count_of.Given as goal

-- the runs from this index on are counted
abbrev pub invariant-loop-index : goal.invariant-loop-index
invariant-loop-index l = record {
  counted : l.count ≡ count_of (has l.property) (drop l.index l.runs);
  few : l.count.runs + l.index ≤ length l.runs;
}
