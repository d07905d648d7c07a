use Rattle.pct_names.proofs.Names.{◌++◌, length, words_in, ◌≡◌}
use Rattle.pct_expect.specs.Parts.{before_slash}
use Rattle.pct_expect.proofs.parsing.pattern_of.Given as goal

abbrev pub invariant-loop-word : goal.invariant-loop-word
invariant-loop-word l = before_slash (words_in l.bytes) ≡ l.words.items ++ before_slash (words_in l.rest)

abbrev pub decreases-loop-word : goal.decreases-loop-word
decreases-loop-word l = length l.rest
