use Rattle.pct_names.proofs.Names.{◌+◌, length, option_map, words_in, ◌≡◌, ◌≤◌}
use Rattle.pct_expect.specs.Parts.{size_and_rest}
use Rattle.pct_expect.specs.Rules.{sides}
use Rattle.pct_expect.proofs.Patterns.{sized}
use Rattle.pct_expect.proofs.parsing.split_at_slash.Given as goal

abbrev pub invariant-loop-word : goal.invariant-loop-word
invariant-loop-word l = record {
  parts : option_map size_and_rest (sides (words_in l.bytes)) ≡ option_map (sized l.count) (sides (words_in l.rest));
  few : l.count + length l.rest ≤ length l.bytes;
}

abbrev pub decreases-loop-word : goal.decreases-loop-word
decreases-loop-word l = length l.rest
