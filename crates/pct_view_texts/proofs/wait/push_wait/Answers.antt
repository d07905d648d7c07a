use Rattle.pct_names.proofs.Names.{sym, thread_text}
use Rattle.pct_view_texts.specs.Choices.{wait_phrases}
use Rattle.pct_view_texts.proofs.Appending.{as_text}
use Rattle.pct_view_texts.proofs.FieldTexts.{two_phrases}
use Rattle.pct_view_texts.proofs.wait.push_wait.Goals as goal

pub returns-in-Once : goal.returns-in-Once
unfolding wait_phrases thread_text
returns-in-Once c = rw c.in-Once.is (as_text _ _ _ _ _ (sym (two_phrases _ _)) (rw c.once.ensures at c.push_once_wait.ensures))
