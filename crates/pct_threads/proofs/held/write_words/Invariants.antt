use Rattle.pct_names.proofs.Names.{get_or, ℕ, ◌*◌, ◌<◌, ◌≡◌}
use Rattle.pct_stack.specs.Stacks.{words_at}
use Rattle.pct_threads.specs.StackFrames.{IsChanged, word_in}
use Rattle.pct_threads.proofs.held.write_words.Given as goal

abbrev pub invariant-loop-i : goal.invariant-loop-i
invariant-loop-i l = record {
  changed : IsChanged l.initial.stacks l.stacks l.slot;
  written : (c : ℕ) → c < l.i → word_in (words_at l.stacks l.slot) (12 * l.row.depth) c ≡ get_or l.words c 0;
  below : (p : ℕ) → p < 12 * l.row.depth → get_or (words_at l.stacks l.slot) p 0 ≡ get_or (words_at l.initial.stacks l.slot) p 0;
}
