use Rattle.pct_io.specs.Fields.{field_text}
use Rattle.pct_io.proofs.Joined.{joined}
use Rattle.pct_view_texts.proofs.Appending.{then_text}
use Rattle.pct_view_texts.proofs.text_buffer.TextBuffer.push_words.Goals as goal

pub returns-in_ok-push_field-in-Some : goal.returns-in_ok-push_field-in-Some
returns-in_ok-push_field-in-Some c =
    rw (c.in-Some.ensures.cases.0, joined field_text c.in-Some.first.now c.in-Some.rest.now) (then_text _ _ _ _ _ _ c.in_ok-push_field-in-Some.ensures c.push_spaced.ensures)
