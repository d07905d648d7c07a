use Rattle.pct_names.proofs.Names.{◌+◌, length, words_in, ◌≡◌, ◌≤◌}
use Rattle.pct_text.proofs.tokens.count_words.Given as goal

abbrev pub invariant-loop-after : goal.invariant-loop-after
invariant-loop-after l = record {
  all : l.count + length (words_in l.rest) ≡ length (words_in l.bytes);
  few : l.count + length l.rest ≤ length l.bytes;
}

abbrev pub decreases-loop-after : goal.decreases-loop-after
decreases-loop-after l = length l.rest
