use Rattle.pct_names.proofs.Names.{◌+◌, drop, faulty_word, length, syntax_of, words_in, ◌≡◌, ◌≤◌}
use Rattle.pct_script_lines.proofs.spelling.faulty_word.Given as goal

abbrev pub invariant-loop-word : goal.invariant-loop-word
invariant-loop-word l = record {
  fault : faulty_word (drop l.at ((syntax_of l.line_kind).argument_kinds l.words)) (words_in l.rest) ≡ faulty_word ((syntax_of l.line_kind).argument_kinds l.words) (words_in l.bytes);
  few : l.at + length l.rest ≤ length l.bytes;
}

abbrev pub decreases-loop-word : goal.decreases-loop-word
decreases-loop-word l = length l.rest
