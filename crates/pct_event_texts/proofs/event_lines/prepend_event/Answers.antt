use Rattle.pct_names.proofs.Names.{event_line}
use Rattle.pct_model.specs.Report.{thread_text}
use Rattle.pct_event_texts.proofs.event_lines.prepend_event.Goals as goal

pub returns-in_default : goal.returns-in_default
unfolding event_line thread_text
returns-in_default c = rw c.fields_of_event.ensures at c.prepend_words.ensures
