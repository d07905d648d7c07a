use Rattle.pct_names.proofs.Names.{count_by, take, ◌≡◌}
use Rattle.pct_expect.specs.Events.{matches}
use Rattle.pct_expect.proofs.judging.other_count.Given as goal

-- the events so far that match the pattern are counted
abbrev pub invariant-loop-index : goal.invariant-loop-index
invariant-loop-index l = l.count ≡ count_by (matches l.rule.first) (take l.index l.events)
