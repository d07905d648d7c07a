use Rattle.pct_names.proofs.Names.{◌∙◌, ◌*◌}
use Rattle.pct_stack.specs.Stacks.{words_at}
use Rattle.pct_threads.proofs.StackFrameLemmas.{word_of}
use Rattle.pct_threads.proofs.held.frame_word.Goals as goal

pub returns-else-i-eq2 : goal.returns-else-i-eq2
returns-else-i-eq2 c = c.word-word.ensures ∙ word_of (words_at c.args.stacks.now c.args.slot) (12 * c.args.frame) c.args.i c.requires.word c.if-i-eq2.false
