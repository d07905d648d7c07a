use Rattle.pct_names.proofs.Names.{length, ◌≡◌}
use Rattle.pct_report_reader.specs.Forms.{words_left}
use Rattle.pct_report_reader.specs.Texts.{are_words}
use Rattle.pct_report_reader.proofs.text.are_words.Given as goal

abbrev pub invariant-loop-kind : goal.invariant-loop-kind
invariant-loop-kind l = are_words l.kinds (words_left l.words) ≡ are_words l.left (words_left l.rest)

abbrev pub decreases-loop-kind : goal.decreases-loop-kind
decreases-loop-kind l = length l.left
