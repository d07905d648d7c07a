use Rattle.pct_names.proofs.Names.{◌+◌, ◌≡◌, range_with_len}
use Rattle.pct_survey.proofs.surveying.seeds_after.Given as goal

abbrev pub invariant-loop-before : goal.invariant-loop-before
invariant-loop-before l = l.seeds.items ≡ range_with_len (l.done + 1) l.before
