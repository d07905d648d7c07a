use Rattle.pct_names.proofs.Names.{length, words_in, ◌≡◌}
use Rattle.pct_expect.specs.Events.{matches}
use Rattle.pct_expect.proofs.matching.matches.Given as goal

abbrev pub invariant-loop-word : goal.invariant-loop-word
invariant-loop-word l = matches l.pattern (words_in l.line) ≡ matches l.left (words_in l.rest)

abbrev pub decreases-loop-word : goal.decreases-loop-word
decreases-loop-word l = length l.rest
