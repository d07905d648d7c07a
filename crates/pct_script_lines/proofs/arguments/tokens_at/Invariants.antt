use Rattle.pct_names.proofs.Names.{◌+◌, drop, length, syntax_of, tokens_at, words_in, ◌≡◌, ◌≤◌}
use Rattle.pct_script_lines.proofs.ResolvingTokens.{onto}
use Rattle.pct_script_lines.proofs.arguments.tokens_at.Given as goal

abbrev pub invariant-loop-word : goal.invariant-loop-word
invariant-loop-word l = record {
  all : onto l.parsed.items (tokens_at (drop l.at ((syntax_of l.line_kind).argument_kinds l.words)) (words_in l.rest)) ≡ tokens_at ((syntax_of l.line_kind).argument_kinds l.words) (words_in l.bytes);
  few : l.at + length l.rest ≤ length l.bytes;
}

abbrev pub decreases-loop-word : goal.decreases-loop-word
decreases-loop-word l = length l.rest
