use Rattle.pct_names.proofs.Names.{◌+◌, length, list_all, not, words_in, ◌≡◌, ◌≤◌}
use Rattle.pct_expect.specs.Rules.{is_slash}
use Rattle.pct_expect.proofs.parsing.is_pattern.Given as goal

abbrev pub invariant-loop-word : goal.invariant-loop-word
invariant-loop-word l = record {
  all : list_all (λ word. not (is_slash word)) (words_in l.bytes) ≡ list_all (λ word. not (is_slash word)) (words_in l.rest);
  count : l.count + length (words_in l.rest) ≡ length (words_in l.bytes);
  few : l.count + length l.rest ≤ length l.bytes;
}

abbrev pub decreases-loop-word : goal.decreases-loop-word
decreases-loop-word l = length l.rest
