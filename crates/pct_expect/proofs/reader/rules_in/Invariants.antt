use Rattle.pct_names.proofs.Names.{◌++◌, length, ◌≡◌}
use Rattle.pct_expect.specs.Reading.{rules_in}
use Rattle.pct_expect.proofs.reader.rules_in.Given as goal

abbrev pub invariant-loop-number : goal.invariant-loop-number
invariant-loop-number l = rules_in l.fn.spelled ≡ l.rules.items ++ rules_in l.lines

abbrev pub decreases-loop-number : goal.decreases-loop-number
decreases-loop-number l = length l.lines
