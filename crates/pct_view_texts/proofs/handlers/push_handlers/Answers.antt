use Rattle.pct_names.proofs.Names.{sym, ◌∙◌}
use Rattle.pct_view_texts.specs.Choices.{handler_phrase}
use Rattle.pct_view_texts.proofs.Appending.{then_text}
use Rattle.pct_view_texts.proofs.FieldTexts.{phrase_each}
use Rattle.pct_view_texts.proofs.handlers.push_handlers.Goals as goal

pub returns-in_ok-push_handler-in-Some : goal.returns-in_ok-push_handler-in-Some
returns-in_ok-push_handler-in-Some c =
    rw (sym c.in_ok-left.ensures ∙ c.in-Some.ensures.some, phrase_each (handler_phrase c.args.script.now) c.in-Some.newest c.pop.new.self)
    (then_text _ _ _ _ _ _ c.in_ok-push_handler-in-Some.ensures c.push_older_handlers.ensures)
